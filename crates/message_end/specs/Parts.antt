-- A step of an end that keeps a state of its own beside the core, as its parts, one after the other.
use Rattle.std.specs.Prelude.{◌≡◌, ℕ, false, List, [], ◌∷◌, Option, Some, Result, Ok, Err}
use Rattle.message_flow.specs.declared.step.Note.{Note}
use Rattle.message_flow.specs.declared.step.StepOut.{StepOut}
use Rattle.trace_log.specs.Log.{Happening}
use Rattle.trace_log.specs.Text.{printed_note}
use Rattle.message_end.specs.declared.end.Stop.{Stop}
use Rattle.message_end.specs.declared.end.Stop.TheVariants.{DiskFailed, Full, NoMemory, NumbersSpent}
use Rattle.message_end.specs.Core.{Command, EndView, Step, Went, and_then, at_first, carried, carry}
use Rattle.message_end.specs.Core.Command.{CloseStep}
use Rattle.message_end.specs.Core.Went.{Goes, Spent}
use Rattle.message_end.specs.Doings.{Doing}
use Rattle.message_end.specs.Duties.{Duty, all_done}
use Rattle.message_end.specs.Ends.{Input, Machine, none_asked}
use Rattle.message_end.specs.History.{IsHistoryOf}
use Rattle.message_end.specs.Laws.{new_end}
use Rattle.message_end.specs.Plan.{EndPlan}
use Rattle.message_end.specs.Starts.{bare_start}
use Rattle.transact.specs.Numbers.{NumbersView}

-- the core of an end, and what it keeps beside it
pub record Node (S K : Type 0) : Type 0 where
  pub own : S
  pub core : EndView K

-- what a part of a step comes to: what the end keeps beside its core from then on, and what the core does
pub record Turn (S K : Type 0) : Type 0 where
  pub own : S
  pub duties : List (Duty K)

-- what an end decides in a part of its step, by what it is when this part begins
abbrev pub Part : Type 0 → Type 0 → Type 0
Part S K = S → EndView K → Turn S K

-- the core does what is fixed already
abbrev pub fixed_turn : {S K : Type 0} → S → List (Command K) → Turn S K
fixed_turn own commands = record { own = own; duties = (λ e. commands) ∷ [] }

-- the step comes to its end: the last part of each step
abbrev pub closes : {S K : Type 0} → Part S K
closes own e = fixed_turn own (CloseStep ∷ [])

-- the core after it has carried out a command
abbrev pub next_of : {S N : Type 0} → Went S N → S
next_of (Goes step) = step.next
next_of (Spent step) = step.next

abbrev pub core_after : {K : Type 0} → Command K → EndView K → EndView K
core_after {K} command e = next_of {N = Happening} (carry Some command (at_first e))

-- the core carries out a command, and the turn is taken behind it
abbrev pub led_turn : {S K : Type 0} → Command K → Turn S K → Turn S K
led_turn command turn = record { own = turn.own; duties = (λ e. command ∷ []) ∷ turn.duties }

-- a turn that is decided by what the core is behind the command
abbrev pub leads : {S K : Type 0} → Command K → (EndView K → Turn S K) → EndView K → Turn S K
leads command turn e = led_turn command (turn (core_after command e))

-- a step of an end as one of its core, and one of its core as one of the end
abbrev pub core_step : {S K N : Type 0} → Step (Node S K) N → Step (EndView K) N
core_step step = record { next = step.next.core; notes = step.notes; written = step.written }

abbrev pub with_own : {S K N : Type 0} → S → Step (EndView K) N → Step (Node S K) N
with_own own step = record {
  next = record { own = own; core = step.next };
  notes = step.notes;
  written = step.written;
}

abbrev pub went_with : {S K N : Type 0} → S → Went (EndView K) N → Went (Node S K) N
went_with own (Goes step) = Goes (with_own own step)
went_with own (Spent step) = Spent (with_own own step)

-- what a turn makes of an end, with the notes as they are read by `say`
abbrev pub after_turn :
    {S K N : Type 0} → (Happening → Option N) → Turn S K → Step (Node S K) N → Went (Node S K) N
after_turn say turn step = went_with turn.own (all_done say turn.duties (core_step step))

-- one part after the other
abbrev pub after_parts :
    {S K N : Type 0} → (Happening → Option N) → List (Part S K) → Step (Node S K) N → Went (Node S K) N
after_parts say [] step = Goes step
after_parts say (part ∷ parts) step =
    and_then (after_turn say (part step.next.own step.next.core) step) (after_parts say parts)

-- ---- a node as an end

-- a start with these numbers, which is noted so
abbrev pub started : {S K : Type 0} → EndPlan → S → Happening → NumbersView → Step (Node S K) Happening
started plan own note numbers = record {
  next = record { own = own; core = new_end plan numbers };
  notes = note ∷ [];
  written = [];
}

-- one without a file
abbrev pub bare_started : {S K : Type 0} → EndPlan → S → NumbersView → Step (Node S K) Happening
bare_started plan own numbers = started plan own (bare_start plan.side numbers.next) numbers

-- what is done in each state: the plan of its end, what is kept beside the core when it starts anew, and the parts of a
-- step
pub record Design (S K C : Type 0) : Type 0 where
  pub plan : S → EndPlan
  pub again : S → S
  pub parts : Input C → ℕ → List (Part S K)

-- a start anew goes on with the numbers that are left. There is no disk, and no store that could be full
abbrev pub machine_of : {S K C : Type 0} → Design S K C → Machine (Node S K) C
machine_of design = record {
  act = λ s input now. after_parts Some (design.parts input now) (at_first s);
  restart = λ s now. Goes (bare_started (design.plan s.own) (design.again s.own) s.core.numbers);
  line = λ s. s.core.line;
  stops = λ s input now. [];
  start_stops = [];
  lacks_room = λ s input now. false;
  asks = λ s input now. none_asked;
  start_asks = none_asked;
  losses = λ s input now. [];
  first_use = λ s. none_asked;
  anew_use = λ s. none_asked;
}

-- these doings since a start have made the core what it is, and what is kept beside it is sound
pub record Did
    {S K : Type 0} (Sound : S → Type 0) (plan : EndPlan) (base : ℕ) (doings : List Doing) (s : Node S K)
    : Type 0 where
  pub sound : Sound s.own
  pub is : IsHistoryOf plan base doings s.core

-- ---- what the code of an end says of its parts

-- the end in the course of a step, with what was noted and written so far
abbrev pub on_the_way : {S : Type 0} → S → StepOut → Step S Note
on_the_way s out = record { next = s; notes = out.notes; written = out.line.items }

-- unless memory runs out, this is what comes of it. No part of a step asks a disk or a store
abbrev pub ComesTo : {A S : Type 0} → Went S Note → S → StepOut → Result A Stop → Type 0
ComesTo went new out (Ok done) = went ≡ Goes (on_the_way new out)
ComesTo went new out (Err NumbersSpent) = went ≡ Spent (on_the_way new out)
ComesTo went new out (Err Full) = ⊥
ComesTo went new out (Err DiskFailed) = ⊥
ComesTo went new out (Err NoMemory) = Unit {0}

-- the commands are carried out, and the duties are done
abbrev pub CarriesAll :
    {A K : Type 0} → List (Command K) → EndView K → StepOut → EndView K → StepOut → Result A Stop → Type 0
CarriesAll commands old out_old new out_new result =
    ComesTo (carried printed_note commands (on_the_way old out_old)) new out_new result

abbrev pub DoesAll :
    {A K : Type 0} → List (Duty K) → EndView K → StepOut → EndView K → StepOut → Result A Stop → Type 0
DoesAll duties old out_old new out_new result =
    ComesTo (all_done printed_note duties (on_the_way old out_old)) new out_new result

-- by calls for which memory alone may be wanting
abbrev pub AreCarried : {K : Type 0} → List (Command K) → EndView K → StepOut → EndView K → StepOut → Type 0
AreCarried commands old out_old new out_new =
    carried printed_note commands (on_the_way old out_old) ≡ Goes (on_the_way new out_new)

abbrev pub AreDone : {K : Type 0} → List (Duty K) → EndView K → StepOut → EndView K → StepOut → Type 0
AreDone duties old out_old new out_new =
    all_done printed_note duties (on_the_way old out_old) ≡ Goes (on_the_way new out_new)

-- the turn is taken
abbrev pub Takes :
    {A S K : Type 0} → Turn S K → Node S K → StepOut → Node S K → StepOut → Result A Stop → Type 0
Takes turn old out_old new out_new result =
    ComesTo (after_turn printed_note turn (on_the_way old out_old)) new out_new result

-- the parts are carried out
abbrev pub TakesAll :
    {A S K : Type 0} → List (Part S K) → Node S K → StepOut → Node S K → StepOut → Result A Stop → Type 0
TakesAll parts old out_old new out_new result =
    ComesTo (after_parts printed_note parts (on_the_way old out_old)) new out_new result
