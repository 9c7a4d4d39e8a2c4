-- What holds of every end, whatever it is told to do.
use Rattle.std.specs.Prelude.{◌≡◌, ◌≢◌, ◌<◌, ℕ, true, List, [], ◌∷◌, ◌++◌, length, Option, None, Some}
use Rattle.std.specs.List.{filter_map}
use Rattle.block_codec.specs.declared.header.Header.{Header}
use Rattle.line_end.specs.Plan.{LinePlanFits}
use Rattle.line_end.specs.Step.{LineCall}
use Rattle.message_flow.specs.declared.message.Message.{Message}
use Rattle.message_flow.specs.Message.{is_primary}
use Rattle.trace_log.specs.Log.{Happening}
use Rattle.transact.specs.Numbers.{NumbersView, IsNumbers}
use Rattle.transact.specs.Transactions.{refusal_of}
use Rattle.message_end.specs.Core.{Command, EndView, MayCarryAll, Step, Went, at_first, carried, with_asked}
use Rattle.message_end.specs.Core.Went.{Goes, Spent}
use Rattle.message_end.specs.Doings.{Doing, own_of}
use Rattle.message_end.specs.Doings.Doing.{Says}
use Rattle.message_end.specs.Drops.{AllDropAt, AreDroppedAt}
use Rattle.message_end.specs.History.{IsHistoryOf, noted_in, written_in}
use Rattle.message_end.specs.InStep.{HasNoEnd}
use Rattle.message_end.specs.LineCalls.{AreCallsOfAll, AreCallsOfFront, calls_in}
use Rattle.message_end.specs.Own.{Has, sent_in}
use Rattle.message_end.specs.Plan.{EndPlan, new_line_of, receiver_of}

-- an end at its start, with these numbers
abbrev pub new_end : {K : Type 0} → EndPlan → NumbersView → EndView K
new_end plan numbers = record {
  line = new_line_of plan;
  outgoing = record { side = plan.side; device = plan.line.device; waiting = [] };
  assembly = record { receiver = receiver_of plan; last = None; partials = [] };
  transactions = record { t3 = plan.line.t3; begun = [] };
  numbers = numbers;
  drawn = None;
  asked = None;
}

-- some doings more keep the law and have made of the end what it is then. What was noted and written in the step is
-- theirs, and with them the line was called so; T4 dropped messages at a moment of these commands alone; and no step
-- ended
pub record GoesOn
    {K : Type 0} (plan : EndPlan) (base : ℕ) (doings : List Doing) (commands : List (Command K))
    (AreCalls : List LineCall → Type 0) (step : Step (EndView K) Happening)
    : Type 0 where
  pub done : List Doing
  pub is : IsHistoryOf plan base (done ++ doings) step.next
  pub notes : noted_in (done ++ doings) ≡ noted_in doings ++ step.notes
  pub written : written_in plan (done ++ doings) ≡ written_in plan doings ++ step.written
  pub calls : AreCalls (calls_in done)
  pub drops : (now : ℕ) → AllDropAt now commands → AreDroppedAt now done
  pub unended : HasNoEnd done

-- also where the numbers are spent on the way: what was done until then
abbrev pub CarriesOn : {K : Type 0} → EndPlan → ℕ → List Doing → List (Command K) → Went (EndView K) Happening → Type 0
CarriesOn plan base doings commands (Goes step) = GoesOn plan base doings commands (AreCallsOfAll commands) step
CarriesOn plan base doings commands (Spent step) = GoesOn plan base doings commands (AreCallsOfFront commands) step

-- no primary has these system bytes
abbrev pub HasNoPrimary : ℕ → List Message → Type 0
HasNoPrimary system sents =
    (message : Message) → Has sents message → is_primary message ≡ true → message.system ≢ system

-- whatever an end is told to do, what it does keeps its law (this profile)
pub record EndsAreLawful (K : Type 0) : Type 0 where
  pub begins :
      (plan : EndPlan) (numbers : NumbersView) → LinePlanFits plan.line → IsNumbers numbers
      → IsHistoryOf {K = K} plan numbers.next [] (new_end plan numbers)
  pub goes_on :
      (plan : EndPlan) (base : ℕ) (doings : List Doing) (e : EndView K) (commands : List (Command K))
      → LinePlanFits plan.line → IsHistoryOf plan base doings e → MayCarryAll commands
      → CarriesOn plan base doings commands (carried Some commands (at_first e))
  -- behind them a step may end, and with it the asking of the newest primary
  pub ends :
      (plan : EndPlan) (base : ℕ) (doings : List Doing) (e : EndView K) → IsHistoryOf plan base doings e
      → IsHistoryOf plan base (Says Happening.StepEnded ∷ doings) (with_asked None e)
  -- a primary whose system bytes no other has begins its transaction where there is room for one
  pub begins_new :
      (plan : EndPlan) (base : ℕ) (doings : List Doing) (e : EndView K) (header : Header)
      → IsHistoryOf plan base doings e → HasNoPrimary header.system (sent_in (own_of plan doings))
      → length e.transactions.begun < 64 → refusal_of e.transactions header ≡ None

-- what was noted, read otherwise
abbrev pub read_as : {S N : Type 0} → (Happening → Option N) → Step S Happening → Step S N
read_as say step = record { next = step.next; notes = filter_map say step.notes; written = step.written }

abbrev pub went_as : {S N : Type 0} → (Happening → Option N) → Went S Happening → Went S N
went_as say (Goes step) = Goes (read_as say step)
went_as say (Spent step) = Spent (read_as say step)

-- the notes of an end are the happenings, read one by one: so what it notes in lines is its log, line by line (this
-- profile)
abbrev pub NotesAreRead : Type 0 → Type 0 → Type 0
NotesAreRead K N =
    (say : Happening → Option N) (commands : List (Command K)) (e : EndView K)
    → carried say commands (at_first e) ≡ went_as say (carried Some commands (at_first e))
