-- How the equipment tries the messages of its spool, over all its runs.
use Rattle.std.specs.Prelude.{◌≡◌, ℕ, List, [], ◌∷◌}
use Rattle.message_end.specs.Core.{Step}
use Rattle.message_end.specs.Core.Went.{Goes}
use Rattle.message_end.specs.Course.{Meeting, course_of, noted_behind, notes_of}
use Rattle.message_end.specs.Course.Meeting.{Acts, Breaks, Fills, LosesPower, Restarts, Writes}
use Rattle.message_end.specs.Doings.{AreLawful, Doing}
use Rattle.message_end.specs.Ends.{MayTake}
use Rattle.message_end.specs.History.{noted_in}
use Rattle.spool_file.specs.File.{SpoolFile}
use Rattle.trace_log.specs.Commands.{ToolCommandFits}
use Rattle.trace_log.specs.declared.commands.ToolCommand.{ToolCommand}
use Rattle.trace_log.specs.Log.{Happening}
use Rattle.trace_log.specs.Names.{Spooled}
use Rattle.equipment_tables.specs.declared.plan.EquipmentPlan.{EquipmentPlan}
use Rattle.equipment_tables.specs.Plan.{EquipmentPlanFits}
use Rattle.tool_law.specs.Sound.{AllCanBeSent}
use Rattle.tool_law.specs.Tried.{AreTried}
use Rattle.tool_step.specs.End.{machine}
use Rattle.tool_step.specs.Equipment.{EquipmentView, starts}
use Rattle.tool_step.specs.Step.{end_plan}

-- in its steps it is given bytes, and commands that fit
abbrev pub MayMeet : Meeting ToolCommand → Type 0
MayMeet (Acts input now) = MayTake ToolCommandFits input
MayMeet (Restarts now) = Unit {0}
MayMeet (Writes characters) = Unit {0}
MayMeet LosesPower = Unit {0}
MayMeet (Breaks input now call choice) = MayTake ToolCommandFits input
MayMeet (Fills input now call) = MayTake ToolCommandFits input

abbrev pub MayMeetAll : List (Meeting ToolCommand) → Type 0
MayMeetAll [] = Unit {0}
MayMeetAll (meeting ∷ before) = MayMeet meeting × MayMeetAll before

-- all that was noted since the newest start is of doings that keep the law of an end, among them the calls of the line;
-- and in these each try has new system bytes, and behind a try no block of an earlier one is given to the line
pub record HasTriedInTurn (plan : EquipmentPlan) (notes : List Happening) : Type 0 where
  pub base : ℕ
  pub found : List (ℕ × Spooled)
  pub before : List Happening
  pub doings : List Doing
  pub noted : notes ≡ noted_behind (noted_in doings) (Happening.EquipmentStarted found base ∷ before)
  pub lawful : AreLawful (end_plan plan) base doings
  pub tried : AreTried (end_plan plan) doings

-- so it does whatever it meets over all its starts, the earlier ones too, whose notes are those of a shorter run
-- (this profile)
abbrev pub RunsTryInTurn : Type 0
RunsTryInTurn =
    (plan : EquipmentPlan) (file : SpoolFile) → EquipmentPlanFits plan → AllCanBeSent file.list
    → (first : Step EquipmentView Happening) → starts plan file ≡ Goes first
    → (meetings : List (Meeting ToolCommand)) → MayMeetAll meetings
    → HasTriedInTurn plan (notes_of (course_of first machine meetings))
