-- What the equipment's notes over all its starts have to do with what it has met.
use Rattle.std.specs.Prelude.{◌≡◌, ℕ, List, [], ◌∷◌, Option, Some, None}
use Rattle.trace_log.specs.declared.commands.ToolCommand.{ToolCommand}
use Rattle.message_end.specs.Core.{Step}
use Rattle.message_end.specs.Course.{Course, Meeting, course_of, notes_of}
use Rattle.message_end.specs.Course.Course.{Reached, Stopped}
use Rattle.message_end.specs.Course.Meeting.{Acts, Breaks, Fills, LosesPower, Restarts, Writes}
use Rattle.message_end.specs.Ends.{Input, Loss, call_of}
use Rattle.message_end.specs.Ends.Input.{Char, Command, Time}
use Rattle.trace_log.specs.Log.{Happening}
use Rattle.equipment_tables.specs.declared.plan.EquipmentPlan.{EquipmentPlan}
use Rattle.tool_reports.specs.Reported.{Reported, commands_in, due_behind, past_in}
use Rattle.tool_step.specs.End.{machine}
use Rattle.tool_step.specs.Equipment.{EquipmentView}
use Rattle.tool_step.specs.Losses.{losses}

-- the commands of the tool since the newest start, the newest first
abbrev pub with_command : Input ToolCommand → List ToolCommand → List ToolCommand
with_command (Char byte) commands = commands
with_command Time commands = commands
with_command (Command command) commands = command ∷ commands

-- none, where power was lost at a call that a step makes, since a start follows
abbrev pub commands_broken : Option (Loss EquipmentView) → List ToolCommand → List ToolCommand
commands_broken None commands = commands
commands_broken (Some loss) commands = []

abbrev pub commands_at : Course EquipmentView → Input ToolCommand → (now call : ℕ) → List ToolCommand → List ToolCommand
commands_at (Reached s notes) input now call commands = commands_broken (call_of call (losses s input now)) commands
commands_at (Stopped notes) input now call commands = commands

-- behind a meeting, at what the equipment was by then
abbrev pub commands_behind : Meeting ToolCommand → Course EquipmentView → List ToolCommand → List ToolCommand
commands_behind (Acts input now) course commands = with_command input commands
commands_behind (Restarts now) course commands = []
commands_behind (Writes characters) course commands = commands
commands_behind LosesPower course commands = commands
commands_behind (Breaks input now call choice) course commands = commands_at course input now call commands
commands_behind (Fills input now call) course commands = commands

abbrev pub commands_met : Step EquipmentView Happening → List (Meeting ToolCommand) → List ToolCommand
commands_met start [] = []
commands_met start (meeting ∷ before) =
    commands_behind meeting (course_of start machine before) (commands_met start before)

-- as long as the equipment goes on, exactly these commands of the tool count when it looks back
abbrev pub CountsThese : Course EquipmentView → List ToolCommand → Type 0
CountsThese (Reached s notes) commands = commands_in (past_in notes) ≡ commands
CountsThese (Stopped notes) commands = Unit {0}

-- its reports hold what they tell of; what counts of the tool is what it has commanded; and no command waits for the
-- note that it brings
pub record ReportsHold (plan : EquipmentPlan) (course : Course EquipmentView) (commands : List ToolCommand)
    : Type 0 where
  pub reported : Reported plan (notes_of course)
  pub counted : CountsThese course commands
  pub done : due_behind plan (notes_of course) ≡ None
