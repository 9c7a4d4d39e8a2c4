-- What is noted of a start: itself, the setup that it finds, and what becomes of that.
use Rattle.std.proofs.Common.{◌≡◌, sym, ap, ◌∙◌, List, [], ◌∷◌, ◌++◌, Option, append_assoc}
use Rattle.std.proofs.lemmas.List.{append-nil}
use Rattle.std.proofs.lemmas.List.Elements.{filter_map-append}
use Rattle.message_flow.specs.declared.step.Note.{Note}
use Rattle.message_flow.specs.declared.step.StepOut.{StepOut}
use Rattle.setup_store.specs.Entries.{Entry}
use Rattle.trace_log.specs.Log.{Happening}
use Rattle.trace_log.specs.Log.Happening.{Setup, StepEnded}
use Rattle.trace_log.specs.Text.{printed_note}
use Rattle.message_end.specs.Ends.{printed}
use Rattle.equipment_tables.specs.declared.plan.EquipmentPlan.{EquipmentPlan}
use Rattle.equipment_tables.specs.Tables.{planned_tables}
use Rattle.tool_step.specs.Equipment.{setup_lines}
use Rattle.tool_step.specs.Setup.{carried_lines, found_list}
use Rattle.tool_core.specs.Starting.{IsNotedBehind}

-- the end of the step isn't printed
lines_of : (plan : EquipmentPlan) (setup : Option (List Entry))
    → printed (setup_lines plan setup)
    ≡ printed (Setup setup ∷ []) ++ printed (carried_lines (planned_tables plan) (found_list setup))
lines_of plan setup =
    let carried : List Happening = carried_lines (planned_tables plan) (found_list setup) in
    filter_map-append printed_note (Setup setup ∷ []) (carried ++ StepEnded ∷ [])
    ∙ ap (λ (notes : List Note). printed (Setup setup ∷ []) ++ notes)
    (filter_map-append printed_note carried (StepEnded ∷ []) ∙ append-nil (printed carried))

pub start_noted :
    (plan : EquipmentPlan) (setup : Option (List Entry)) (Is : Note → Type 0) (old first second new : StepOut)
    → IsNotedBehind Is [] old first → second.notes ≡ first.notes ++ printed (Setup setup ∷ [])
    → new.notes ≡ second.notes ++ printed (carried_lines (planned_tables plan) (found_list setup))
    → IsNotedBehind Is (printed (setup_lines plan setup)) old new
start_noted plan setup Is old first second new start found carried =
    let there : List Note = printed (Setup setup ∷ []) in
    let lines : List Note = printed (carried_lines (planned_tables plan) (found_list setup)) in record {
      note = start.note;
      is = start.is;
      notes =
          carried ∙ ap (λ (notes : List Note). notes ++ lines) found ∙ append_assoc first.notes there lines
          ∙ ap (λ (notes : List Note). notes ++ (there ++ lines)) start.notes
          ∙ append_assoc old.notes (start.note ∷ []) (there ++ lines)
          ∙ ap (λ (notes : List Note). old.notes ++ start.note ∷ notes) (sym (lines_of plan setup));
    }
