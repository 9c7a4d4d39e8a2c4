-- What a node shows of its parts, and its code of its turns, for the law over a step.
use Rattle.std.proofs.Common.{◌≡◌, refl, ap, ◌∙◌, ◌<◌, ℕ, List, [], ◌∷◌, ◌++◌, Option, Some, None}
use Rattle.block_codec.specs.declared.header.Header.{Header}
use Rattle.line_end.specs.declared.event.LineEvent.{LineEvent}
use Rattle.line_end.specs.declared.event.LineEvent.TheVariants.{Arrived, Failed, Nothing, Refused, Sent}
use Rattle.line_end.specs.Step.{LineCall, line_step}
use Rattle.message_flow.specs.declared.flow.Flow.{Flow}
use Rattle.message_flow.specs.declared.flow.Flow.TheVariants.{Part as PartOf, Whole, Duplicate, Foreign, Unexpected, TooLong, Crowded}
use Rattle.message_flow.specs.Assembly.{flow_to, with_block}
use Rattle.transact.specs.Transactions.{is_answered_by, with_deadline}
use Rattle.trace_log.specs.Log.{Happening}
use Rattle.message_end.specs.Core.{Command, EndView, MayCarryAll, Step, Went, acknowledges, and_then, asked_by, at_first, calls, carried, carry, held_header, judges, takes_back, tells, with_asked, with_assembly, with_end, with_transactions}
use Rattle.message_end.specs.Core.Went.{Goes, Spent}
use Rattle.message_end.specs.Drops.{AllDropAt, Drops}
use Rattle.message_end.specs.Duties.{Duty, all_done}
use Rattle.message_end.specs.Ends.{Input}
use Rattle.message_end.specs.Ends.Input.{Char, Command as Told, Time}
use Rattle.message_end.specs.History.{Folds, IsCore}
use Rattle.message_end.specs.Parts.{Node, Part, Turn, after_turn, closes, core_after, core_step, leads, led_turn, next_of, went_with, with_own}
use Rattle.message_end.specs.Plan.{EndPlan}
use Rattle.message_end.proofs.Limits.{AddsNone, AllAddNone}
use Rattle.message_end.proofs.Steps.{AllCallNone, CallsNone, OnWent}

-- ---- what a node shows of its parts

-- a command that calls no line, drops no message and adds no numbers
abbrev pub StaysOff : {K : Type 0} → Command K → Type 0
StaysOff (Command.Tick now) = ⊥
StaysOff (Command.Take byte now) = ⊥
StaysOff (Command.Offer now) = ⊥
StaysOff (Command.DropDue now) = ⊥
StaysOff (Command.More count) = ⊥
StaysOff Command.CloseStep = ⊥
StaysOff _ = Unit {0}

abbrev pub AllStayOff : {K : Type 0} → List (Command K) → Type 0
AllStayOff [] = Unit {0}
AllStayOff (one ∷ commands) = StaysOff one × AllStayOff commands

-- commands that do none of these, and may be carried out
pub record IsQuiet {K : Type 0} (commands : List (Command K)) : Type 0 where
  pub calls : AllStayOff commands
  pub may : MayCarryAll commands

-- commands that call no line, drop messages at this moment alone, add no numbers, and may be carried out
pub record IsDue {K : Type 0} (now : ℕ) (commands : List (Command K)) : Type 0 where
  pub calls : AllCallNone commands
  pub drops : AllDropAt now commands
  pub adds : AllAddNone commands
  pub may : MayCarryAll commands

-- the core is what some history has made of it
pub record IsCoreOf {K : Type 0} (plan : EndPlan) (base : ℕ) (e : EndView K) : Type 0 where
  pub folds : Folds
  pub core : IsCore plan base folds e

module _ {S K : Type 0} (plan : EndPlan) (base : ℕ) (Sound : S → Type 0) where
  abbrev pub IsQuietDuty : Duty K → Type 0
  IsQuietDuty duty = (e : EndView K) → IsCoreOf plan base e → IsQuiet (duty e)

  abbrev pub AreQuietDuties : List (Duty K) → Type 0
  AreQuietDuties [] = Unit {0}
  AreQuietDuties (duty ∷ duties) = IsQuietDuty duty × AreQuietDuties duties

  -- the core does this first, and then nothing with its line
  pub record IsLedBy (lead : Command K) (commands : List (Command K)) : Type 0 where
    pub rest : List (Command K)
    pub is : commands ≡ lead ∷ rest
    pub quiet : IsQuiet rest

  pub record IsLedTurn (lead : Command K) (turn : Turn S K) : Type 0 where
    pub first : Duty K
    pub others : List (Duty K)
    pub are : turn.duties ≡ first ∷ others
    pub led : (e : EndView K) → IsCoreOf plan base e → IsLedBy lead (first e)
    pub quiet : AreQuietDuties others
    pub sound : Sound turn.own

  pub record IsQuietTurn (turn : Turn S K) : Type 0 where
    pub quiet : AreQuietDuties turn.duties
    pub sound : Sound turn.own

  -- of every state that can be
  abbrev pub IsQuietPart : Part S K → Type 0
  IsQuietPart part = (own : S) (e : EndView K) → Sound own → IsCoreOf plan base e → IsQuietTurn (part own e)

  abbrev pub AreQuietParts : List (Part S K) → Type 0
  AreQuietParts [] = Unit {0}
  AreQuietParts (part ∷ parts) = IsQuietPart part × AreQuietParts parts

  -- the same, where messages may be dropped at a moment
  abbrev pub IsDueDuty : ℕ → Duty K → Type 0
  IsDueDuty now duty = (e : EndView K) → IsCoreOf plan base e → IsDue now (duty e)

  abbrev pub AreDueDuties : ℕ → List (Duty K) → Type 0
  AreDueDuties now [] = Unit {0}
  AreDueDuties now (duty ∷ duties) = IsDueDuty now duty × AreDueDuties now duties

  pub record IsDueTurn (now : ℕ) (turn : Turn S K) : Type 0 where
    pub due : AreDueDuties now turn.duties
    pub sound : Sound turn.own

  abbrev pub IsDuePart : ℕ → Part S K → Type 0
  IsDuePart now part = (own : S) (e : EndView K) → Sound own → IsCoreOf plan base e → IsDueTurn now (part own e)

  abbrev pub AreDueParts : ℕ → List (Part S K) → Type 0
  AreDueParts now [] = Unit {0}
  AreDueParts now (part ∷ parts) = IsDuePart now part × AreDueParts now parts

  abbrev pub IsLedPart : Command K → Part S K → Type 0
  IsLedPart lead part = (own : S) (e : EndView K) → Sound own → IsCoreOf plan base e → IsLedTurn lead (part own e)

  -- the part of the input: a character goes to the line first
  abbrev pub IsInputPart : {C : Type 0} → Input C → ℕ → Part S K → Type 0
  IsInputPart (Char byte) now part = (byte < 256) × IsLedPart (Command.Take byte now) part
  IsInputPart Time now part = IsQuietPart part
  IsInputPart (Told command) now part = IsQuietPart part

  -- a step: parts without the line, its timer, parts without it that may drop messages, the input, parts without the
  -- line, its turn, and the end
  pub record IsStepOf {C : Type 0} (input : Input C) (now : ℕ) (parts : List (Part S K)) : Type 0 where
    pub first : List (Part S K)
    pub tick : Part S K
    pub due : List (Part S K)
    pub given : Part S K
    pub later : List (Part S K)
    pub offer : Part S K
    pub are : parts ≡ first ++ tick ∷ (due ++ given ∷ (later ++ offer ∷ (closes ∷ [])))
    pub first_is : AreQuietParts first
    pub tick_is : IsLedPart (Command.Tick now) tick
    pub due_is : AreDueParts now due
    pub given_is : IsInputPart input now given
    pub later_is : AreQuietParts later
    pub offer_is : IsLedPart (Command.Offer now) offer

-- what is quiet drops at no other moment
off-calls-none : {K : Type 0} (now : ℕ) (one : Command K) → StaysOff one
    → CallsNone one × Drops (λ at. at ≡ now) one × AddsNone one
off-calls-none now (Command.Note what) off = (tt, tt, tt)
off-calls-none now (Command.Primary unsent) off = (tt, tt, tt)
off-calls-none now Command.Draw off = (tt, tt, tt)
off-calls-none now (Command.DrawnPrimary unsent) off = (tt, tt, tt)
off-calls-none now (Command.More count) off = absurd off
off-calls-none now (Command.Reply body) off = (tt, tt, tt)
off-calls-none now Command.Abort off = (tt, tt, tt)
off-calls-none now (Command.Tick at) off = absurd off
off-calls-none now (Command.Take byte at) off = absurd off
off-calls-none now (Command.Offer at) off = absurd off
off-calls-none now (Command.DropDue at) off = absurd off
off-calls-none now (Command.Expire at) off = (tt, tt, tt)
off-calls-none now (Command.Answer header) off = (tt, tt, tt)
off-calls-none now (Command.GiveUp header) off = (tt, tt, tt)
off-calls-none now (Command.End system) off = (tt, tt, tt)
off-calls-none now (Command.Recall header) off = (tt, tt, tt)
off-calls-none now (Command.Remove odd system) off = (tt, tt, tt)
off-calls-none now Command.DropFront off = (tt, tt, tt)
off-calls-none now Command.CloseStep off = absurd off
off-calls-none now Command.Halt off = (tt, tt, tt)

all-off : {K : Type 0} (now : ℕ) (commands : List (Command K)) → AllStayOff commands
    → AllCallNone commands × AllDropAt now commands × AllAddNone commands
all-off now [] off = (tt, tt, tt)
all-off now (one ∷ commands) off =
    let first = off-calls-none now one off.0 in
    let rest = all-off now commands off.1 in
    ((first.0, rest.0), (first.1, rest.1), (first.2, rest.2))

pub commands-due : {K : Type 0} (now : ℕ) (commands : List (Command K)) → IsQuiet commands → IsDue now commands
commands-due now commands is =
    let off = all-off now commands is.calls in
    record { calls = off.0; drops = off.1; adds = off.2; may = is.may }

module _ {S K : Type 0} (plan : EndPlan) (base : ℕ) (Sound : S → Type 0) (now : ℕ) where
  pub duties-due :
      (duties : List (Duty K)) → AreQuietDuties plan base Sound duties → AreDueDuties plan base Sound now duties
  duties-due [] quiet = tt
  duties-due (duty ∷ duties) quiet =
      ((λ e core. commands-due now (duty e) (quiet.0 e core)), duties-due duties quiet.1)

  pub turn-due : (turn : Turn S K) → IsQuietTurn plan base Sound turn → IsDueTurn plan base Sound now turn
  turn-due turn is = record { due = duties-due turn.duties is.quiet; sound = is.sound }

  pub part-due : (part : Part S K) → IsQuietPart plan base Sound part → IsDuePart plan base Sound now part
  part-due part is = λ own e sound core. turn-due (part own e) (is own e sound core)

  pub parts-due :
      (parts : List (Part S K)) → AreQuietParts plan base Sound parts → AreDueParts plan base Sound now parts
  parts-due [] quiet = tt
  parts-due (part ∷ parts) quiet = (part-due part quiet.0, parts-due parts quiet.1)

  -- a turn behind a command that may drop
  pub led-due :
      (lead : Command K) (turn : Turn S K) → IsDue now (lead ∷ []) → IsQuietTurn plan base Sound turn
      → IsDueTurn plan base Sound now (led_turn lead turn)
  led-due lead turn due is =
      record { due = ((λ e core. due), duties-due turn.duties is.quiet); sound = is.sound }

-- a part that is led by a command
pub led-turn :
    {S K : Type 0} (plan : EndPlan) (base : ℕ) (Sound : S → Type 0) (lead : Command K) (turn : Turn S K)
    → IsQuietTurn plan base Sound turn → IsLedTurn plan base Sound lead (led_turn lead turn)
led-turn plan base Sound lead turn is = record {
  first = λ e. lead ∷ [];
  others = turn.duties;
  are = refl;
  led = λ e core. record { rest = []; is = refl; quiet = record { calls = tt; may = tt } };
  quiet = is.quiet;
  sound = is.sound;
}

-- ---- what code shows of its turns

-- the core after a command is the same however notes are read, and whatever was noted and written before
pub after-tick :
    {K N : Type 0} (say : Happening → Option N) (now : ℕ) (step next : Step (EndView K) N)
    → carry say (Command.Tick now) step ≡ Goes next → core_after (Command.Tick now) step.next ≡ next.next
after-tick say now step next goes = ap next_of goes

judged :
    {K N : Type 0} (say : Happening → Option N) (header : Header) (flow : Flow) (step : Step (EndView K) N)
    (other : Step (EndView K) Happening)
    → other.next ≡ step.next → (judges Some header flow other).next ≡ (judges say header flow step).next
judged {K} say header PartOf step other same =
    ap (λ (e : EndView K). with_transactions (with_deadline (is_answered_by header) None e.transactions) e) same
judged {K} say header (Whole message check) step other same =
    ap (λ (e : EndView K). with_asked (asked_by message) e) same
judged say header Duplicate step other same = same
judged say header (Foreign address) step other same = same
judged say header Unexpected step other same = same
judged say header TooLong step other same = same
judged say header Crowded step other same = same

told :
    {K N : Type 0} (say : Happening → Option N) (held : Option Header) (event : LineEvent) (now : ℕ)
    (step : Step (EndView K) N) (other : Step (EndView K) Happening)
    → other.next ≡ step.next → (tells Some held event now other).next ≡ (tells say held event now step).next
told {K} say held (Arrived block) now step other same =
    ap (λ (e : EndView K). (judges Some block.header (flow_to e.assembly block)
    (with_end (takes_back block.header now (with_assembly (with_block e.assembly block now) e)) other)).next) same
    ∙ judged say block.header (flow_to step.next.assembly block)
    (with_end (takes_back block.header now (with_assembly (with_block step.next.assembly block now) step.next)) step)
    (with_end (takes_back block.header now (with_assembly (with_block step.next.assembly block now) step.next)) other)
    refl
told {K} say held Sent now step other same =
    ap (λ (e : EndView K). with_transactions (acknowledges held now e.transactions) e) same
told say held Nothing now step other same = same
told say held Failed now step other same = same
told say held (Refused cause) now step other same = same

pub after-take :
    {K N : Type 0} (say : Happening → Option N) (byte now : ℕ) (step next : Step (EndView K) N)
    → carry say (Command.Take byte now) step ≡ Goes next → core_after (Command.Take byte now) step.next ≡ next.next
after-take say byte now step next goes =
    told say (held_header step.next.line.held) (line_step step.next.line (LineCall.Take byte now)).event now
    (calls (LineCall.Take byte now) step) (calls (LineCall.Take byte now) (at_first step.next)) refl
    ∙ ap next_of goes

-- a turn behind a command
pub turn-behind :
    {S K N : Type 0} (say : Happening → Option N) (lead : Command K) (turn : Turn S K) (step : Step (Node S K) N)
    (next : Step (EndView K) N)
    → carry say lead (core_step step) ≡ Goes next
    → after_turn say (led_turn lead turn) step ≡ after_turn say turn (with_own step.next.own next)
turn-behind {S} {K} {N} say lead turn step next goes =
    ap
    (λ (went : Went (EndView K) N).
    went_with turn.own (and_then (and_then went (carried say [])) (all_done say turn.duties)))
    goes

-- and one that is decided by what the core is behind it
pub leads-behind :
    {S K N : Type 0} (say : Happening → Option N) (lead : Command K) (turn : EndView K → Turn S K)
    (step : Step (Node S K) N) (next : Step (EndView K) N)
    → carry say lead (core_step step) ≡ Goes next → core_after lead step.next.core ≡ next.next
    → after_turn say (leads lead turn step.next.core) step
    ≡ after_turn say (turn next.next) (with_own step.next.own next)
leads-behind {S} {K} {N} say lead turn step next goes same =
    turn-behind say lead (turn (core_after lead step.next.core)) step next goes
    ∙ ap (λ (e : EndView K). after_turn say (turn e) (with_own step.next.own next)) same

-- ---- what goes on, and what has spent the numbers

abbrev pub OnEither : {S N : Type 0} → (Goes_so Spent_so : Step S N → Type 0) → Went S N → Type 0
OnEither P Q (Goes step) = P step
OnEither P Q (Spent step) = Q step

pub either-then :
    {S N : Type 0} (P Q R : Step S N → Type 0) (went : Went S N) (next : Step S N → Went S N)
    → OnEither P Q went → ((step : Step S N) → P step → OnEither R Q (next step))
    → OnEither R Q (and_then went next)
either-then P Q R (Goes step) next is more = more step is
either-then P Q R (Spent step) next is more = is

pub either-less :
    {S N : Type 0} (P Q R T : Step S N → Type 0) (went : Went S N) → OnEither P Q went
    → ((step : Step S N) → P step → R step) → ((step : Step S N) → Q step → T step) → OnEither R T went
either-less P Q R T (Goes step) is goes spent = goes step is
either-less P Q R T (Spent step) is goes spent = spent step is

pub of-either : {S N : Type 0} (P : Step S N → Type 0) (went : Went S N) → OnWent P went → OnEither P P went
of-either P (Goes step) is = is
of-either P (Spent step) is = is
