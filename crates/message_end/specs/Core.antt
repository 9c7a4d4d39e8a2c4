-- The core of every end: what it keeps, the commands that it may be given, and what each makes of it.
use Rattle.std.specs.Prelude.{◌≡◌, ℕ, Bool, true, false, ◌+◌, ◌%◌, ◌<◌, ◌≤◌, ◌==◌, ◌&&◌, ◌||◌, nat_le, is_some, List, [], ◌∷◌, ◌++◌, length, All, drop, Option, Some, None, if◌then◌else◌}
use Rattle.std.specs.List.{find}
use Rattle.std.specs.Option.{option_map, option_to_list}
use Rattle.block_codec.specs.Block.{BlockView}
use Rattle.block_codec.specs.Protocol.{longest_text}
use Rattle.block_codec.specs.declared.header.Header.{Header}
use Rattle.line_end.specs.declared.event.LineEvent.{LineEvent}
use Rattle.line_end.specs.declared.event.LineEvent.TheVariants.{Arrived, Failed, Nothing, Refused, Sent}
use Rattle.line_end.specs.declared.event.Phase.{Phase}
use Rattle.line_end.specs.declared.event.Phase.TheVariants.{Idle}
use Rattle.line_end.specs.State.{LineState}
use Rattle.line_end.specs.Step.{LineCall, line_step}
use Rattle.line_end.specs.Step.LineCall.{Cancel, Resume, Send}
use Rattle.message_flow.specs.declared.flow.Flow.{Flow}
use Rattle.message_flow.specs.declared.flow.Flow.TheVariants.{Part, Whole, Duplicate, Foreign, Unexpected, TooLong, Crowded}
use Rattle.message_flow.specs.declared.message.Message.{Message}
use Rattle.message_flow.specs.declared.waiting.Waiting.{Waiting}
use Rattle.message_flow.specs.Assembly as assembly
use Rattle.message_flow.specs.Assembly.{AssemblyView, flow_to, header_so_far, with_block, without_due}
use Rattle.message_flow.specs.Blocks.{block_count, header_of}
use Rattle.message_flow.specs.Message.{is_primary}
use Rattle.message_flow.specs.Outgoing as outgoing
use Rattle.message_flow.specs.Outgoing.{OutgoingView, last_header, next_block_of, next_turn, with_message, with_waiting, without_source}
use Rattle.message_flow.specs.Waiting.{is_named}
use Rattle.trace_log.specs.declared.names.Name.{Name}
use Rattle.trace_log.specs.declared.names.Title.{Title}
use Rattle.trace_log.specs.Log.{Happening}
use Rattle.trace_log.specs.Names.{header_title, message_name, title_of}
use Rattle.transact.specs.declared.begun.Begun.{Begun}
use Rattle.transact.specs.History.{after_call}
use Rattle.transact.specs.History.Call.{Begin}
use Rattle.transact.specs.Matching.{matches}
use Rattle.transact.specs.Numbers.{NumbersView, after_draw, next_number, with_more}
use Rattle.transact.specs.Transactions as transactions
use Rattle.transact.specs.Transactions.{TransactionsView, has_system, is_answered_by, with_deadline, without_first}
use Rattle.message_end.specs.declared.unsent.Unsent.{Unsent}
use Rattle.message_end.specs.Doings.{IsPlain}

-- an end: its line; what waits to go out; what its receiver keeps of what came in; its open transactions; the numbers
-- that are left, and the one that was drawn by itself and that no primary has yet; name and system bytes of the
-- newest message delivered, where it is a primary that awaits a reply and none has been sent since
pub record EndView (K : Type 0) : Type 0 where
  pub line : LineState
  pub outgoing : OutgoingView
  pub assembly : AssemblyView
  pub transactions : TransactionsView K
  pub numbers : NumbersView
  pub drawn : Option ℕ
  pub asked : Option Title

-- what an end may be told to do. Where there is nothing to do for it a command does nothing
pub data Command (K : Type 0) : Type 0 where
  -- note this
  Note : (what : Happening) → Command K
  -- send a primary under the next number; draw a number by itself; send a primary under that one; add so many numbers
  -- behind those that are left
  Primary : (unsent : Unsent K) → Command K
  Draw : Command K
  DrawnPrimary : (unsent : Unsent K) → Command K
  More : (count : ℕ) → Command K
  -- reply to the primary that asks for it: with this body, and with function 0 and no body
  Reply : (body : List ℕ) → Command K
  Abort : Command K
  -- let the line's timer act; take a character; resume the held block, or give the next one to the line
  Tick : (now : ℕ) → Command K
  Take : (byte now : ℕ) → Command K
  Offer : (now : ℕ) → Command K
  -- drop one message on which T4 has run out; end one transaction on which T3 has run out
  DropDue : (now : ℕ) → Command K
  Expire : (now : ℕ) → Command K
  -- end the transaction that a reply with this header answers: the reply has come; it is given up, and the transaction
  -- ends as by T3
  Answer : (header : Header) → Command K
  GiveUp : (header : Header) → Command K
  -- end the transaction with these system bytes
  End : (system : ℕ) → Command K
  -- let a message wait no longer: the one whose block with this header failed, since its line gave it up; the first
  -- primary, or secondary, with these system bytes, whose layer above gives it up; the one in front
  Recall : (header : Header) → Command K
  Remove : (primary : Bool) (system : ℕ) → Command K
  DropFront : Command K
  -- the step has come to its end, and with it the asking of the newest primary (this profile)
  CloseStep : Command K
  -- do nothing more: a number is wanting that isn't drawn from those of the end (this profile)
  Halt : Command K

-- ---- a step in its course

-- what has come of the state, and what was noted and what was written on the way, the oldest first
pub record Step (S N : Type 0) : Type 0 where
  pub next : S
  pub notes : List N
  pub written : List ℕ

-- it goes on, or it ends early: the numbers are spent, or the end's own store is full
pub data Went (S N : Type 0) : Type 0 where
  Goes : (step : Step S N) → Went S N
  Spent : (step : Step S N) → Went S N

-- the step as far as it came
abbrev pub step_in : {S N : Type 0} → Went S N → Step S N
step_in (Goes step) = step
step_in (Spent step) = step

-- what is done next, unless the numbers are spent
abbrev pub and_then : {S N : Type 0} → Went S N → (Step S N → Went S N) → Went S N
and_then (Goes step) next = next step
and_then (Spent step) next = Spent step

-- nothing is noted or written yet
abbrev pub at_first : {S N : Type 0} → S → Step S N
at_first s = record { next = s; notes = []; written = [] }

-- a note more, as it is read; there are happenings that are read as none
abbrev pub noted : {S N : Type 0} → (Happening → Option N) → Happening → Step S N → Step S N
noted say what step = record step { notes = step.notes ++ option_to_list (say what) }

abbrev pub with_end : {S N : Type 0} → S → Step S N → Step S N
with_end next step = record step { next = next }

-- ---- its parts

abbrev pub with_line : {K : Type 0} → LineState → EndView K → EndView K
with_line line e = record e { line = line }

abbrev pub with_outgoing : {K : Type 0} → OutgoingView → EndView K → EndView K
with_outgoing outgoing e = record e { outgoing = outgoing }

abbrev pub with_assembly : {K : Type 0} → AssemblyView → EndView K → EndView K
with_assembly assembly e = record e { assembly = assembly }

abbrev pub with_transactions : {K : Type 0} → TransactionsView K → EndView K → EndView K
with_transactions transactions e = record e { transactions = transactions }

abbrev pub with_asked : {K : Type 0} → Option Title → EndView K → EndView K
with_asked asked e = record e { asked = asked }

-- a call of the line, with what it writes
abbrev pub calls : {K N : Type 0} → LineCall → Step (EndView K) N → Step (EndView K) N
calls call step = record {
  next = with_line (line_step step.next.line call).next step.next;
  notes = step.notes;
  written = step.written ++ (line_step step.next.line call).written;
}

-- ---- messages that go out

abbrev pub unsent_name : {K : Type 0} → Unsent K → Name
unsent_name unsent = record {
  stream = unsent.stream;
  function = unsent.function;
  wait = is_some unsent.kind;
}

-- the primary, with its system bytes
abbrev pub primary_of : {K : Type 0} → Unsent K → ℕ → Message
primary_of unsent system = record {
  stream = unsent.stream;
  function = unsent.function;
  wait = is_some unsent.kind;
  system = system;
  body = unsent.body;
}

-- no room for it: 64 transactions are open where it begins another, or 128 messages wait (this profile)
abbrev pub is_crowded_out : {K : Type 0} → Bool → EndView K → Bool
is_crowded_out awaited e =
    (awaited && nat_le 64 (length e.transactions.begun)) || nat_le 128 (length e.outgoing.waiting)

-- the header of a message's last block
abbrev pub last_header_of : OutgoingView → Message → Header
last_header_of out message = header_of out.side out.device message (block_count message)

-- its transaction begins, where its reply is awaited; no other one has its system bytes, so that it isn't refused
abbrev pub with_begun : {K : Type 0} → Option K → Header → TransactionsView K → TransactionsView K
with_begun None header t = t
with_begun (Some kind) header t = after_call t (Begin header kind)

-- a message joins those that wait
abbrev pub with_queued : Message → OutgoingView → OutgoingView
with_queued message out = with_waiting out (with_message out.waiting message)

abbrev pub queues : {K N : Type 0} → (Happening → Option N) → Message → Step (EndView K) N → Step (EndView K) N
queues say message step =
    noted say (Happening.Sent message)
    (with_end (with_outgoing (with_queued message step.next.outgoing) step.next) step)

-- a primary goes out with these system bytes
abbrev pub sends : {K N : Type 0} → (Happening → Option N) → Unsent K → ℕ → Step (EndView K) N → Step (EndView K) N
sends say unsent system step =
    queues say (primary_of unsent system)
    (with_end (with_transactions
    (with_begun unsent.kind (last_header_of step.next.outgoing (primary_of unsent system)) step.next.transactions)
    step.next) step)

abbrev pub with_numbers : {K : Type 0} → NumbersView → EndView K → EndView K
with_numbers numbers e = record e { numbers = numbers }

-- the next number is drawn, where one is left
abbrev pub draws :
    {K N : Type 0} → Option ℕ → (ℕ → Step (EndView K) N → Step (EndView K) N) → Step (EndView K) N
    → Went (EndView K) N
draws None next step = Spent step
draws (Some number) next step =
    Goes (next number (with_end (with_numbers (after_draw step.next.numbers) step.next) step))

-- the drawn number is kept for a primary
abbrev pub keeps_drawn : {K N : Type 0} → ℕ → Step (EndView K) N → Step (EndView K) N
keeps_drawn number step = with_end (record step.next { drawn = Some number }) step

-- a primary without room is noted, and draws no number
abbrev pub primary :
    {K N : Type 0} → (Happening → Option N) → Unsent K → Step (EndView K) N → Went (EndView K) N
primary say unsent step =
    if is_crowded_out (is_some unsent.kind) step.next then Goes (noted say (Happening.Full (unsent_name unsent)) step)
    else draws (next_number step.next.numbers) (sends say unsent) step

-- under the number that was drawn by itself, which no other primary gets then
abbrev pub drawn_primary :
    {K N : Type 0} → (Happening → Option N) → Unsent K → Option ℕ → Step (EndView K) N → Step (EndView K) N
drawn_primary say unsent None step = step
drawn_primary say unsent (Some number) step =
    if is_crowded_out (is_some unsent.kind) step.next then noted say (Happening.Full (unsent_name unsent)) step
    else sends say unsent number (with_end (record step.next { drawn = None }) step)

-- the function of a reply is the primary's plus one, and 0 behind the last (SEMI E5, function; the latter is this
-- profile's)
abbrev pub reply_function : ℕ → ℕ
reply_function function = (function + 1) % 256

-- function 0 has no text (SEMI E5, function)
abbrev pub reply_text : ℕ → List ℕ → List ℕ
reply_text function body = if function == 0 then [] else body

abbrev pub reply_of : Title → ℕ → List ℕ → Message
reply_of asked function body = record {
  stream = asked.name.stream;
  function = function;
  wait = false;
  system = asked.system;
  body = reply_text function body;
}

-- a reply without room is noted
abbrev pub reply :
    {K N : Type 0} → (Happening → Option N) → Message → Step (EndView K) N → Step (EndView K) N
reply say message step =
    if nat_le 128 (length step.next.outgoing.waiting) then noted say (Happening.Full (message_name message)) step
    else queues say message step

-- the newest primary asks no more then, also where the reply has no room
abbrev pub replies_to :
    {K N : Type 0} → (Happening → Option N) → Title → ℕ → List ℕ → Step (EndView K) N → Step (EndView K) N
replies_to say asked function body step =
    reply say (reply_of asked function body) (with_end (with_asked None step.next) step)

abbrev pub replies :
    {K N : Type 0} → (Happening → Option N) → Option Title → (ℕ → ℕ) → List ℕ → Step (EndView K) N
    → Step (EndView K) N
replies say None function body step = step
replies say (Some asked) function body step = replies_to say asked (function asked.name.function) body step

-- ---- what comes in

-- the block that is held is of a primary, and a block with this header is of a reply to it (SEMI E5, transaction)
abbrev pub is_held_answered : Header → Option BlockView → Bool
is_held_answered header None = false
is_held_answered header (Some held) = held.header.function % 2 == 1 && matches held.header header

-- a block with this header is of a reply to the primary that waits with its system bytes
abbrev pub is_waiting_answered : Header → OutgoingView → Option Waiting → Bool
is_waiting_answered header out None = false
is_waiting_answered header out (Some waiting) = matches (last_header out waiting) header

abbrev pub waiting_primary : ℕ → OutgoingView → Option Waiting
waiting_primary system out = find (is_named true system) out.waiting

-- where it is answered it waits no longer
abbrev pub without_answered : Bool → ℕ → OutgoingView → OutgoingView
without_answered true system out = with_waiting out (outgoing.without_first (is_named true system) out.waiting)
without_answered false system out = out

-- the held block is dropped
abbrev pub cancels : {K : Type 0} → Bool → EndView K → EndView K
cancels true e = with_line (line_step e.line Cancel).next e
cancels false e = e

-- T3 runs on the transaction with these system bytes from now on
abbrev pub starts_t3 : {K : Type 0} → Bool → ℕ → ℕ → TransactionsView K → TransactionsView K
starts_t3 true system now t = with_deadline (has_system system) (Some (now + t.t3)) t
starts_t3 false system now t = t

-- a primary goes out no further once a block of a reply to it has come: it waits no longer, and the block of it that is
-- held is dropped. Its last block isn't sent any more, so T3 runs from now on, until what the block is stops it (this
-- profile)
abbrev pub takes_back : {K : Type 0} → Header → ℕ → EndView K → EndView K
takes_back header now e =
    let held = is_held_answered header e.line.held in
    let waits = is_waiting_answered header e.outgoing (waiting_primary header.system e.outgoing) in
    cancels held
    (with_outgoing (without_answered waits header.system e.outgoing)
    (with_transactions (starts_t3 (held || waits) header.system now e.transactions) e))

-- a primary with W asks for a reply (SEMI E5, transaction)
abbrev pub asked_by : Message → Option Title
asked_by message = if is_primary message && message.wait then Some (title_of message) else None

-- a block that has come was this: a part of a reply stops T3; a message that is whole is delivered (SEMI E4, receive;
-- SEMI E5, transaction)
abbrev pub judges :
    {K N : Type 0} → (Happening → Option N) → Header → Flow → Step (EndView K) N → Step (EndView K) N
judges say header Part step =
    with_end (with_transactions (with_deadline (is_answered_by header) None step.next.transactions) step.next) step
judges say header (Whole message check) step =
    noted say (Happening.Received message) (with_end (with_asked (asked_by message) step.next) step)
judges say header Duplicate step = noted say (Happening.Duplicate header) step
judges say header (Foreign address) step = noted say (Happening.Foreign header) step
judges say header Unexpected step = noted say (Happening.Unexpected header) step
judges say header TooLong step = noted say (Happening.TooLongBlock header) step
judges say header Crowded step = noted say (Happening.Crowded header) step

-- the receiver takes the block
abbrev pub hears :
    {K N : Type 0} → (Happening → Option N) → BlockView → ℕ → Step (EndView K) N → Step (EndView K) N
hears say block now step =
    judges say block.header (flow_to step.next.assembly block)
    (with_end (takes_back block.header now (with_assembly (with_block step.next.assembly block now) step.next)) step)

-- the block with this header is acknowledged: the last one of a primary with W starts T3 (SEMI E4, T3)
abbrev pub acknowledges : {K : Type 0} → Option Header → ℕ → TransactionsView K → TransactionsView K
acknowledges None now t = t
acknowledges (Some header) now t = starts_t3 (header.last && header.wait) header.system now t

abbrev pub held_header : Option BlockView → Option Header
held_header held = option_map (λ block. block.header) held

-- the line has told this of a character, and held the block with this header before
abbrev pub tells :
    {K N : Type 0} → (Happening → Option N) → Option Header → LineEvent → ℕ → Step (EndView K) N
    → Step (EndView K) N
tells say held (Arrived block) now step = hears say block now step
tells say held Sent now step =
    with_end (with_transactions (acknowledges held now step.next.transactions) step.next) step
tells say held Nothing now step = step
tells say held Failed now step = step
tells say held (Refused cause) now step = step

abbrev pub takes :
    {K N : Type 0} → (Happening → Option N) → ℕ → ℕ → Step (EndView K) N → Step (EndView K) N
takes say byte now step =
    tells say (held_header step.next.line.held) (line_step step.next.line (LineCall.Take byte now)).event now
    (calls (LineCall.Take byte now) step)

-- ---- the line's turn, and timers

-- a block goes to the line
abbrev pub gives : {K N : Type 0} → Option BlockView → ℕ → Step (EndView K) N → Step (EndView K) N
gives None now step = step
gives (Some block) now step = calls (Send block now) step

-- an idle line goes on with the block that it holds; without one it gets the next (SEMI E4, block transfer)
abbrev pub offers :
    {K N : Type 0} → Phase → Option BlockView → ℕ → Step (EndView K) N → Step (EndView K) N
offers Idle (Some held) now step = calls (Resume now) step
offers Idle None now step =
    let out = step.next.outgoing in
    gives (next_block_of out.side out.device out.waiting).0 now
    (with_end (with_outgoing (next_turn out) step.next) step)
offers _ held now step = step

-- T4 drops the message of which this block came last, if any (SEMI E4, T4)
abbrev pub drops :
    {K N : Type 0} → (Happening → Option N) → Option Header → ℕ → Step (EndView K) N → Step (EndView K) N
drops say None now step = step
drops say (Some header) now step =
    noted say (Happening.DroppedByT4 header)
    (with_end (with_assembly (without_due now step.next.assembly) step.next) step)

-- the first transaction that passes ends
abbrev pub without_begun : {K : Type 0} → (Begun K → Bool) → EndView K → EndView K
without_begun test e = with_transactions (without_first test e.transactions) e

-- it ends with T3, if there is one (SEMI E4, T3)
abbrev pub times_out :
    {K N : Type 0} → (Happening → Option N) → (Begun K → Bool) → Option (Begun K) → Step (EndView K) N
    → Step (EndView K) N
times_out say test None step = step
times_out say test (Some begun) step =
    noted say (Happening.TimedOut (header_title begun.header)) (with_end (without_begun test step.next) step)

-- a reply ends the transaction that it answers; one that answers none is a stranger (SEMI E5, transaction)
abbrev pub answers :
    {K N : Type 0} → (Happening → Option N) → Header → Option (Begun K) → Step (EndView K) N
    → Step (EndView K) N
answers say header None step = noted say (Happening.Stranger (header_title header)) step
answers say header (Some begun) step = with_end (without_begun (is_answered_by header) step.next) step

-- ---- all of it

-- other messages wait
abbrev pub waits : {K N : Type 0} → OutgoingView → Step (EndView K) N → Step (EndView K) N
waits out step = with_end (with_outgoing out step.next) step

-- what a command makes of an end, with the notes as they are read by `say`
abbrev pub carry :
    {K N : Type 0} → (Happening → Option N) → Command K → Step (EndView K) N → Went (EndView K) N
carry say (Note what) step = Goes (noted say what step)
carry say (Primary unsent) step = primary say unsent step
carry say Draw step = draws (next_number step.next.numbers) keeps_drawn step
carry say (DrawnPrimary unsent) step = Goes (drawn_primary say unsent step.next.drawn step)
carry say (More count) step = Goes (with_end (with_numbers (with_more count step.next.numbers) step.next) step)
carry say (Reply body) step = Goes (replies say step.next.asked reply_function body step)
carry say Abort step = Goes (replies say step.next.asked (λ function. 0) [] step)
carry say (Tick now) step = Goes (calls (LineCall.Tick now) step)
carry say (Take byte now) step = Goes (takes say byte now step)
carry say (Offer now) step = Goes (offers step.next.line.phase step.next.line.held now step)
carry say (DropDue now) step =
    Goes (drops say (header_so_far (find (assembly.is_due now) step.next.assembly.partials)) now step)
carry say (Expire now) step =
    let test = transactions.is_due now in
    Goes (times_out say test (find test step.next.transactions.begun) step)
carry say (Answer header) step =
    Goes (answers say header (find (is_answered_by header) step.next.transactions.begun) step)
carry say (GiveUp header) step =
    let test = is_answered_by header in
    Goes (times_out say test (find test step.next.transactions.begun) step)
carry say (End system) step = Goes (with_end (without_begun (has_system system) step.next) step)
carry say (Recall header) step = Goes (waits (without_source step.next.outgoing header) step)
carry say (Remove primary system) step =
    let out = step.next.outgoing in
    Goes (waits (with_waiting out (outgoing.without_first (is_named primary system) out.waiting)) step)
carry say DropFront step =
    let out = step.next.outgoing in
    Goes (waits (with_waiting out (drop 1 out.waiting)) step)
carry say CloseStep step = Goes (noted say Happening.StepEnded (with_end (with_asked None step.next) step))
carry say Halt step = Spent step

-- one command after the other
abbrev pub carried :
    {K N : Type 0} → (Happening → Option N) → List (Command K) → Step (EndView K) N → Went (EndView K) N
carried say [] step = Goes step
carried say (command ∷ commands) step = and_then (carry say command step) (carried say commands)

-- ---- what a command asks for

-- a text that blocks can carry (SEMI E4, multi-block message)
pub record IsText (body : List ℕ) : Type 0 where
  pub short : length body ≤ longest_text
  pub bytes : All (λ byte. byte < 256) body

-- a primary that blocks can carry (SEMI E4, header; SEMI E5, function)
pub record IsUnsent {K : Type 0} (unsent : Unsent K) : Type 0 where
  pub stream : unsent.stream < 128
  pub function : unsent.function < 256
  pub odd : (unsent.function % 2 == 1) ≡ true
  pub body : IsText unsent.body

-- a note of what no law of messages speaks of; that a step ends is said by its own command alone, which comes last of
-- all and has a law of its own
abbrev pub MayNote : Happening → Type 0
MayNote Happening.StepEnded = ⊥
MayNote what = IsPlain what

abbrev pub MayCarry : {K : Type 0} → Command K → Type 0
MayCarry (Note what) = MayNote what
MayCarry (Primary unsent) = IsUnsent unsent
MayCarry (DrawnPrimary unsent) = IsUnsent unsent
MayCarry (Reply body) = IsText body
MayCarry (Take byte now) = byte < 256
MayCarry CloseStep = ⊥
MayCarry _ = Unit {0}

abbrev pub MayCarryAll : {K : Type 0} → List (Command K) → Type 0
MayCarryAll [] = Unit {0}
MayCarryAll (command ∷ commands) = MayCarry command × MayCarryAll commands
