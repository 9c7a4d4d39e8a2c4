-- What is said of reports, in one example that can be followed by hand.
use Rattle.std.specs.Prelude.{◌≡◌, ℕ, true, List, [], ◌∷◌}
use Rattle.message_flow.specs.declared.message.Message.{Message}
use Rattle.secs_items.specs.declared.item.Item.{Item}
use Rattle.secs_items.specs.Spelling.{shortest_spelling}
use Rattle.trace_log.specs.declared.commands.ToolCommand.TheVariants as tool
use Rattle.trace_log.specs.Log.{Happening, Past}
use Rattle.equipment_tables.specs.declared.plan.EquipmentPlan.{EquipmentPlan}
use Rattle.equipment_tables.specs.Answers.{event_item}
use Rattle.equipment_tables.specs.Tables.{planned_tables}
use Rattle.tool_reports.specs.Reported.{Reported, is_of}

-- an event happens, a variable is set, and then a message goes out; the newest comes first
abbrev pub set_behind_event : ℕ → ℕ → Item → Message → List Happening
set_behind_event ceid vid value message =
    Happening.Sent message ∷ Happening.Set vid ∷ Happening.Recorded (Past.Commanded (tool.Set vid value))
    ∷ Happening.Event ceid 0 ∷ Happening.Recorded (Past.Commanded (tool.Event ceid))
    ∷ Happening.EquipmentStarted [] 0 ∷ []

-- if it is an S6F11, it holds what the variables held before, as planned, whatever was set
abbrev pub LaterSettingsAreNotReported : Type 0
LaterSettingsAreNotReported =
    (plan : EquipmentPlan) (ceid vid : ℕ) (value : Item) (message : Message) → is_of 6 11 message ≡ true
    → Reported plan (set_behind_event ceid vid value message)
    → message.body ≡ shortest_spelling (event_item (planned_tables plan) ceid 0)
