-- A step of the host draws from the numbers that are left, and adds none behind them.
use Rattle.std.proofs.Common.{◌≡◌, refl, sym, ap, ◌∙◌, ℕ, List, [], ◌∷◌, Some}
use Rattle.message_flow.specs.declared.flow.Flow.{Flow}
use Rattle.message_flow.specs.declared.flow.Flow.TheVariants.{Crowded, Duplicate, Foreign, Part as PartOf, TooLong, Unexpected, Whole}
use Rattle.message_flow.specs.declared.step.StepOut.{StepOut}
use Rattle.std.specs.Prelude.{Ok}
use Rattle.block_codec.specs.declared.header.Header.{Header}
use Rattle.message_end.specs.Calls.{failed_at, took_at}
use Rattle.message_end.specs.Core.{Command, EndView, Step, Went, and_then, at_first, carried, step_in}
use Rattle.message_end.specs.Core.Command.{Take, Tick}
use Rattle.message_end.specs.Core.Went.{Goes, Spent}
use Rattle.message_end.specs.Duties.{Duty, all_done}
use Rattle.message_end.specs.Ends.{Input}
use Rattle.message_end.specs.Ends.Input.{Char, Command as Told, Time}
use Rattle.message_end.specs.Parts.{Node, Part, after_parts, after_turn, core_after, core_step, went_with}
use Rattle.message_end.specs.declared.end.Took.{Took}
use Rattle.message_end.specs.declared.end.Took.TheVariants as took
use Rattle.message_end.proofs.Limits.{AddsNone, AllAddNone, carried-limit, limit_of}
use Rattle.host_node.specs.Calls.{HasStepped}
use Rattle.host_node.specs.Host.{HostOwn, HostTurn, Kind, breaks, brings, given, heeds, host_machine, late_duties, obeys, parts, undelivered}
use Rattle.spool_slots.specs.Spool.{SpoolView}
use Rattle.trace_log.specs.declared.commands.HostCommand.{HostCommand}
use Rattle.trace_log.specs.Log.{Happening}
use Rattle.journal_node.specs.Held.{IsReady}
use Rattle.journal_node.proofs.FreeNotes.{AllFree, AreFreeDuties, BringsFree}
use Rattle.journal_node.proofs.FreeParts.{breaks-free, heeds-free, late-free, obeys-free}

adds-none : (one : Command Kind) → BringsFree one → AddsNone one
adds-none (Command.More count) free = absurd free
adds-none one free = tt

all-none : (commands : List (Command Kind)) → AllFree commands → AllAddNone commands
all-none [] free = tt
all-none (one ∷ commands) free = (adds-none one free.0, all-none commands free.1)

abbrev AddNone : List (Duty Kind) → Type 0
AddNone [] = Unit {0}
AddNone (duty ∷ duties) = ((e : EndView Kind) → AllAddNone (duty e)) × AddNone duties

free-none : (duties : List (Duty Kind)) → AreFreeDuties duties → AddNone duties
free-none [] free = tt
free-none (duty ∷ duties) free = ((λ e. all-none (duty e) (free.0 e)), free-none duties free.1)

done-limit : (duties : List (Duty Kind)) (step : Step (EndView Kind) Happening) → AddNone duties
    → limit_of (step_in (all_done Some duties step)) ≡ limit_of step
done-limit [] step none = refl
done-limit (duty ∷ duties) step none =
    go (carried Some (duty step.next) step) (carried-limit (duty step.next) step (none.0 step.next))
    (λ next. done-limit duties next none.1)
  where
    go : (went : Went (EndView Kind) Happening) → limit_of (step_in went) ≡ limit_of step
        → ((next : Step (EndView Kind) Happening) → limit_of (step_in (all_done Some duties next)) ≡ limit_of next)
        → limit_of (step_in (and_then went (all_done Some duties))) ≡ limit_of step
    go (Goes next) first rest = rest next ∙ first
    go (Spent next) first rest = first

-- ---- parts

abbrev HostStep : Type 0
HostStep = Step (Node HostOwn Kind) Happening

abbrev end_of : HostStep → ℕ
end_of step = step.next.core.numbers.end

turn-limit : (turn : HostTurn) (step : HostStep) → AddNone turn.duties
    → end_of (step_in (after_turn Some turn step)) ≡ end_of step
turn-limit turn step none =
    go (all_done Some turn.duties (core_step step)) (done-limit turn.duties (core_step step) none)
  where
    go : (went : Went (EndView Kind) Happening) → limit_of (step_in went) ≡ end_of step
        → end_of (step_in (went_with turn.own went)) ≡ end_of step
    go (Goes next) is = is
    go (Spent next) is = is

abbrev PartsAddNone : List (Part HostOwn Kind) → Type 0
PartsAddNone [] = Unit {0}
PartsAddNone (part ∷ more) = ((own : HostOwn) (e : EndView Kind) → AddNone (part own e).duties) × PartsAddNone more

parts-limit : (all : List (Part HostOwn Kind)) (step : HostStep) → PartsAddNone all
    → end_of (step_in (after_parts Some all step)) ≡ end_of step
parts-limit [] step none = refl
parts-limit (part ∷ more) step none =
    go (after_turn Some (part step.next.own step.next.core) step)
    (turn-limit (part step.next.own step.next.core) step (none.0 step.next.own step.next.core))
    (λ next. parts-limit more next none.1)
  where
    go : (went : Went (Node HostOwn Kind) Happening) → end_of (step_in went) ≡ end_of step
        → ((next : HostStep) → end_of (step_in (after_parts Some more next)) ≡ end_of next)
        → end_of (step_in (and_then went (after_parts Some more))) ≡ end_of step
    go (Goes next) first rest = rest next ∙ first
    go (Spent next) first rest = first

-- ---- the host's

came-none : (own : HostOwn) (e : EndView Kind) (header : Header) (came : Flow)
    → AddNone (brings own e (took.Came header came)).duties
came-none own e header (Whole message check) =
    free-none (heeds own e header message).duties (heeds-free own e header message).free
came-none own e header PartOf = ((λ f. tt), tt)
came-none own e header Duplicate = ((λ f. tt), tt)
came-none own e header (Foreign address) = ((λ f. tt), tt)
came-none own e header Unexpected = ((λ f. (tt, tt)), tt)
came-none own e header TooLong = ((λ f. (tt, tt)), tt)
came-none own e header Crowded = ((λ f. (tt, tt)), tt)

brings-none : (own : HostOwn) (e : EndView Kind) (brought : Took) → AddNone (brings own e brought).duties
brings-none own e took.Nothing = ((λ f. tt), tt)
brings-none own e (took.Failed header) =
    free-none (breaks own e (Some header)).duties (breaks-free own e (Some header)).free
brings-none own e (took.Came header came) = came-none own e header came

given-none : (input : Input HostCommand) (now : ℕ) (own : HostOwn) (e : EndView Kind)
    → AddNone (given input now own e).duties
given-none Time now own e = ((λ f. tt), tt)
given-none (Told command) now own e = free-none (obeys command own e).duties (obeys-free command own e).free
given-none (Char byte) now own e =
    ((λ f. (tt, tt)), brings-none own (core_after (Take byte now) e) (took_at e byte now))

parts-none : (input : Input HostCommand) (now : ℕ) → PartsAddNone (parts input now)
parts-none input now = (
  λ own e. (
    (λ f. (tt, tt)),
    free-none (breaks (undelivered own) (core_after (Tick now) e) (failed_at e now)).duties
        (breaks-free (undelivered own) (core_after (Tick now) e) (failed_at e now)).free,
  ),
  (
    λ own e. free-none (late_duties now) (late-free now),
    (
      λ own e. given-none input now own e,
      ((λ own e. ((λ f. (tt, tt)), ((λ f. tt), tt))), ((λ own e. ((λ f. (tt, tt)), tt)), tt)),
    ),
  ),
)

pub ready-behind :
    {D : Type 0} (v : SpoolView D) (node next : Node HostOwn Kind) (input : Input HostCommand) (now : ℕ)
    (out : StepOut) → IsReady v node → HasStepped (host_machine.act node input now) out (Ok next) → IsReady v next
ready-behind v node next input now out ready stepped = record {
  version = ready.version;
  mark =
      ap (λ (n : Node HostOwn Kind). n.core.numbers.end) (sym stepped.next_is)
      ∙ ap (λ (went : Went (Node HostOwn Kind) Happening). end_of (step_in went)) (sym stepped.is)
      ∙ parts-limit (parts input now) (at_first node) (parts-none input now) ∙ ready.mark;
}
