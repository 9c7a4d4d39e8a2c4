-- The steps compute; and what isn't so of the equipment's notes isn't so of the log.

use Rattle.std.proofs.Common.{◌≡◌, ◌&&◌, Bool, true, List, [], ◌∷◌, ℕ, refl, sym, ap, subst, inl, if◌then◌else◌}
use Rattle.equipment_tables.specs.declared.plan.EquipmentPlan.{EquipmentPlan}
use Rattle.message_end.specs.Own.{Has}
use Rattle.message_flow.specs.declared.message.Message.{Message}
use Rattle.tool_reports.specs.Reported.{is_of}
use Rattle.tool_reports.specs.Sampled.{AreSampled}
use Rattle.tool_reports.specs.WorkedSampled.{notes_behind, start, steps_of, too_early}
use Rattle.tool_reports.proofs.WorkedSteps.{never-early}
use Rattle.line_world.proofs.laws.worked_trace_data.Goals as goal

-- one that is sent is among those that are spoken of
has-one : (s6f1 : Message) → is_of 6 1 s6f1 ≡ true
    → Has (if is_of 6 1 s6f1 && true then s6f1.body ∷ [] else []) s6f1.body
has-one s6f1 is =
    subst (λ (all : List (List ℕ)). Has all s6f1.body)
    (sym (ap (λ (b : Bool). if b && true then s6f1.body ∷ [] else []) is)) (inl refl)

pub returns : goal.returns
returns c = record {
  cut = λ message s6f1. refl;
  notes = λ message s6f1. refl;
  too_early = λ plans message s6f1 same is named safe.
      never-early message s6f1 is named
      (subst
      (λ (plan : EquipmentPlan). AreSampled plan (notes_behind (too_early message s6f1) start)
      (steps_of (too_early message s6f1))) same safe.sampled.0);
  asked_by_none = λ plans s6f1 is safe.
      (safe.sampled.0.each s6f1.body (has-one s6f1 is)).due;
  spooled = λ plans body safe. let can = safe.sampled.0.spoolable.0 in absurd (cc);
}
