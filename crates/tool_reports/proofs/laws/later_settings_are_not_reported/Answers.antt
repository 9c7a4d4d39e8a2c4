use Rattle.std.proofs.Common.{◌≡◌, ◌∙◌, ap, refl, inl, inr, ◌&&◌, Bool, true, false, ℕ, List, [], ◌∷◌}
use Rattle.secs_items.specs.Spelling.{shortest_spelling}
use Rattle.trace_log.specs.declared.commands.ToolCommand.TheVariants as tool
use Rattle.trace_log.specs.Log.{Past}
use Rattle.message_end.specs.Own.{Has}
use Rattle.equipment_tables.specs.declared.plan.EquipmentPlan.{EquipmentPlan}
use Rattle.equipment_tables.specs.Answers.{event_item}
use Rattle.equipment_tables.specs.Tables.{planned_tables}
use Rattle.tool_reports.specs.Reported.{Happened, IsTextOf, is_of, item_of}
use Rattle.tool_reports.proofs.laws.later_settings_are_not_reported.Goals as goal

of-planned :
    (plan : EquipmentPlan) (ceid : ℕ) (event : Happened) (body : List ℕ)
    → Has (record { ceid = ceid; dataid = 0; past = Past.Commanded (tool.Event ceid) ∷ [] } ∷ []) event
    → IsTextOf (item_of plan event) body → body ≡ shortest_spelling (event_item (planned_tables plan) ceid 0)
of-planned plan ceid event body (inl same) text =
    text.shortest ∙ ap (λ (e : Happened). shortest_spelling (item_of plan e)) same
of-planned plan ceid event body (inr none) text = absurd none

-- nothing was tried
also-live : (b : Bool) → b ≡ true → (b && true) ≡ true
also-live true is = refl
also-live false is = absurd (cc)

pub returns : goal.returns
returns c = λ plan ceid vid value message is reported.
    let of = (reported.0.1.s6f11 (also-live (is_of 6 11 message) is)).of_event in
    of-planned plan ceid of.event message.body of.happened of.text
