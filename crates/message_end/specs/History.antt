-- When an end is what its doings since its start have made of it. Doings have the newest first.
use Rattle.std.specs.Prelude.{◌≡◌, ◌<◌, ◌≤◌, ℕ, true, List, [], ◌∷◌, ◌++◌, length, map, reverse, All, Option, Some, None}
use Rattle.std.specs.List.{AllPairs}
use Rattle.block_codec.specs.Block.{BlockView, IsBlock}
use Rattle.gl_base.specs.declared.side.Side.{Side}
use Rattle.line_end.specs.State.{LineState, IsLineState}
use Rattle.line_end.specs.Step.{line_step}
use Rattle.line_end.specs.Step.LineCall.{Send}
use Rattle.message_flow.specs.declared.message.Message.{Message}
use Rattle.message_flow.specs.declared.waiting.Waiting.{Waiting}
use Rattle.message_flow.specs.Assembly.{AssemblyView}
use Rattle.message_flow.specs.Blocks.{block_count, header_of}
use Rattle.message_flow.specs.Entries.{FlowEntry, StandsFor, blocks_in}
use Rattle.message_flow.specs.Message.{IsMessage, is_primary}
use Rattle.message_flow.specs.Outgoing.{OutgoingView}
use Rattle.trace_log.specs.declared.names.Title.{Title}
use Rattle.trace_log.specs.Log.{Happening}
use Rattle.trace_log.specs.Names.{title_of}
use Rattle.transact.specs.declared.begun.Begun.{Begun}
use Rattle.transact.specs.Numbers.{IsNumbers, NumbersView}
use Rattle.transact.specs.Transactions as transact
use Rattle.transact.specs.Transactions.{TransactionsView}
use Rattle.message_end.specs.Core.{EndView}
use Rattle.message_end.specs.Doings.{AreLawful, Doing, line_of, own_of}
use Rattle.message_end.specs.Doings.Doing.{Calls, Does, Gives, Says}
use Rattle.message_end.specs.InStep.{ReplyInTheirSteps, asked_in_step}
use Rattle.message_end.specs.Own.{Giving, Has, Heard, IsReplyTo, Own, asked_in, drawn_in, entries_in, given_in, given_of, heard_in, sent_at, sent_in, whole_in}
use Rattle.message_end.specs.Own.Own.{DrewNumber, DroppedMessage, GaveBlock, HeardBlock, ReceivedMessage, SentMessage, WroteFrame}
use Rattle.message_end.specs.Plan.{EndPlan, receiver_of}

-- ---- what is noted and written on the way, the oldest first

abbrev pub notes_of_own : Own → List Happening
notes_of_own (SentMessage message) = Happening.Sent message ∷ []
notes_of_own (ReceivedMessage message) = Happening.Received message ∷ []
notes_of_own (DrewNumber number) = []
notes_of_own (GaveBlock place number) = []
notes_of_own (WroteFrame place number) = []
notes_of_own (HeardBlock block now flow) = []
notes_of_own (DroppedMessage header now) = []

abbrev pub noted_in : List Doing → List Happening
noted_in [] = []
noted_in (Does own ∷ before) = noted_in before ++ notes_of_own own
noted_in (Gives place number block now ∷ before) = noted_in before
noted_in (Calls call ∷ before) = noted_in before
noted_in (Says what ∷ before) = noted_in before ++ what ∷ []

abbrev pub written_in : EndPlan → List Doing → List ℕ
written_in plan [] = []
written_in plan (Does own ∷ before) = written_in plan before
written_in plan (Gives place number block now ∷ before) =
    written_in plan before ++ (line_step (line_of plan before) (Send block now)).written
written_in plan (Calls call ∷ before) = written_in plan before ++ (line_step (line_of plan before) call).written
written_in plan (Says what ∷ before) = written_in plan before

-- ---- the end's parts against what it has done

-- what is read off a history of one start
pub record Folds : Type 0 where
  pub drawn : List ℕ
  pub sents : List Message
  pub gave : List Giving
  pub heard : List Heard
  pub entries : List FlowEntry
  pub asked : Option Message

abbrev pub folds_of : List Own → Folds
folds_of own = record {
  drawn = drawn_in own;
  sents = sent_in own;
  gave = given_in own;
  heard = heard_in own;
  entries = entries_in own;
  asked = asked_in own;
}

-- no two primaries have the same system bytes
abbrev pub AreNew : List Message → Type 0
AreNew [] = Unit {0}
AreNew (message ∷ before) =
    (is_primary message ≡ true → (other : Message) → Has before other → is_primary other ≡ true
    → other.system ≡ message.system → ⊥)
    × AreNew before

-- the numbers left are above those drawn and above the system bytes of all primaries, of which no two are equal
pub record AreNumbered (base : ℕ) (drawn : List ℕ) (sents : List Message) (numbers : NumbersView) : Type 0 where
  pub left : IsNumbers numbers
  pub least : base ≤ numbers.next
  pub above : (number : ℕ) → Has drawn number → number < numbers.next
  pub below : (message : Message) → Has sents message → is_primary message ≡ true → message.system < numbers.next
  pub new : AreNew sents

-- a number that was drawn, and that no primary has
pub record IsSpare (drawn : List ℕ) (sents : List Message) (numbers : NumbersView) (number : ℕ) : Type 0 where
  pub drawn_is : Has drawn number
  pub below : number < numbers.next
  pub free : (message : Message) → Has sents message → is_primary message ≡ true → message.system ≡ number → ⊥

abbrev pub SpareIs : List ℕ → List Message → NumbersView → Option ℕ → Type 0
SpareIs drawn sents numbers kept = (number : ℕ) → kept ≡ Some number → IsSpare drawn sents numbers number

-- a message sent at this place is no primary to which a block of a reply was heard since
abbrev pub IsOpen : Side → List Heard → ℕ → Message → Type 0
IsOpen side heard place message =
    is_primary message ≡ true → (one : Heard) → Has heard one → IsReplyTo side message one.header → one.after ≤ place

-- a message that waits, and its place among those sent
pub record Item : Type 0 where
  pub place : ℕ
  pub waiting : Waiting

abbrev pub waiting_of : Item → Waiting
waiting_of item = item.waiting

pub record IsItem
    (side : Side) (sents : List Message) (gave : List Giving) (heard : List Heard) (item : Item)
    : Type 0 where
  pub sent : sent_at item.place sents ≡ Some item.waiting.message
  pub left : item.waiting.gone < block_count item.waiting.message
  pub gone : item.waiting.gone ≡ given_of item.place gave
  pub most : (number : ℕ) → Has gave (record { place = item.place; number = number }) → number ≤ item.waiting.gone
  pub open_is : IsOpen side heard item.place item.waiting.message
  pub fits : IsMessage item.waiting.message

abbrev pub AreApart : List Item → Type 0
AreApart [] = Unit {0}
AreApart (item ∷ items) = ((other : Item) → Has items other → other.place ≡ item.place → ⊥) × AreApart items

-- each waits at a place of its own
pub record AreWaiting
    (side : Side) (sents : List Message) (gave : List Giving) (heard : List Heard) (waiting : List Waiting)
    : Type 0 where
  pub items : List Item
  pub are : waiting ≡ map waiting_of items
  pub apart : AreApart items
  pub each : (item : Item) → Has items item → IsItem side sents gave heard item
  pub places : (giving : Giving) → Has gave giving → giving.place < length sents
  pub afters : (one : Heard) → Has heard one → one.after ≤ length sents

-- the held block is one of the message of the block given last, and that isn't answered
pub record IsHeldOf
    (side : Side) (sents : List Message) (gave : List Giving) (heard : List Heard) (block : BlockView)
    : Type 0 where
  pub giving : Giving
  pub before : List Giving
  pub message : Message
  pub newest : gave ≡ giving ∷ before
  pub sent : sent_at giving.place sents ≡ Some message
  pub device : ℕ
  pub header : block.header ≡ header_of side device message giving.number
  pub open_is : IsOpen side heard giving.place message

abbrev pub HeldIs : Side → List Message → List Giving → List Heard → Option BlockView → Type 0
HeldIs side sents gave heard held = (block : BlockView) → held ≡ Some block → IsHeldOf side sents gave heard block

-- the primary that asks is the newest message received, with W, where none was sent in reply
pub record IsAskedOf (newest : Option Message) (asked : Title) : Type 0 where
  pub message : Message
  pub is : newest ≡ Some message
  pub primary : is_primary message ≡ true
  pub wait : message.wait ≡ true
  pub title : asked ≡ title_of message
  pub fits : IsMessage message

abbrev pub AskedIs : Option Message → Option Title → Type 0
AskedIs newest asked = (title : Title) → asked ≡ Some title → IsAskedOf newest title

-- what the receiver keeps is that of what it has met, and it was given blocks alone
pub record IsMet (plan : EndPlan) (entries : List FlowEntry) (assembly : AssemblyView) : Type 0 where
  pub receiver : assembly.receiver ≡ receiver_of plan
  pub stands : StandsFor assembly (reverse entries)
  pub blocks : All IsBlock (blocks_in entries)

-- the line is in a state, and what has come of a frame are bytes
pub record IsLine (line : LineState) : Type 0 where
  pub state : IsLineState line
  pub bytes : All (λ byte. byte < 256) line.gathered

pub record IsOutgoingOf (plan : EndPlan) (outgoing : OutgoingView) : Type 0 where
  pub side : outgoing.side ≡ plan.side
  pub device : outgoing.device ≡ plan.line.device

-- each open transaction is of a primary sent that awaits a reply, and no two have the same system bytes
pub record IsTransactionOf {K : Type 0} (plan : EndPlan) (sents : List Message) (begun : Begun K) : Type 0 where
  pub message : Message
  pub sent : Has sents message
  pub primary : is_primary message ≡ true
  pub wait : message.wait ≡ true
  pub header : begun.header ≡ header_of plan.side plan.line.device message (block_count message)

pub record AreTransactionsOf
    {K : Type 0} (plan : EndPlan) (sents : List Message) (transactions : TransactionsView K)
    : Type 0 where
  pub t3 : transactions.t3 ≡ plan.line.t3
  pub each : (begun : Begun K) → Has transactions.begun begun → IsTransactionOf plan sents begun
  pub apart : AllPairs transact.AreApart transactions.begun

pub record IsCore {K : Type 0} (plan : EndPlan) (base : ℕ) (folds : Folds) (e : EndView K) : Type 0 where
  pub line : IsLine e.line
  pub numbers : AreNumbered base folds.drawn folds.sents e.numbers
  pub spare : SpareIs folds.drawn folds.sents e.numbers e.drawn
  pub outgoing : IsOutgoingOf plan e.outgoing
  pub waiting : AreWaiting plan.side folds.sents folds.gave folds.heard e.outgoing.waiting
  pub held : HeldIs plan.side folds.sents folds.gave folds.heard e.line.held
  pub asked : AskedIs folds.asked e.asked
  pub transactions : AreTransactionsOf plan folds.sents e.transactions
  pub met : IsMet plan folds.entries e.assembly

-- replies have gone in the steps of their primaries, and the primary that asks was received in this step
pub record AreInSteps (plan : EndPlan) (doings : List Doing) (title : Option Title) : Type 0 where
  pub replies : ReplyInTheirSteps plan doings
  pub asked : AskedIs (asked_in_step doings) title

-- these doings keep the law, no message is whole that isn't received, and the end is what they have made of it
pub record IsHistoryOf {K : Type 0} (plan : EndPlan) (base : ℕ) (doings : List Doing) (e : EndView K) : Type 0 where
  pub lawful : AreLawful plan base doings
  pub received : whole_in (own_of plan doings) ≡ None
  pub line : e.line ≡ line_of plan doings
  pub core : IsCore plan base (folds_of (own_of plan doings)) e
  pub steps : AreInSteps plan doings e.asked
