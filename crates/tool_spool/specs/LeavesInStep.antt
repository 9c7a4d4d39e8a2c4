-- That a message leaves the spool in the step that has brought its cause. The newest note comes first.
use Rattle.std.specs.Prelude.{◌≡◌, ◌+◌, ◌<◌, ◌^◌, ℕ, false, List, [], ◌∷◌, Some}
use Rattle.message_flow.specs.declared.message.Message.{Message}
use Rattle.message_end.specs.Course.{Meeting, course_of, notes_of}
use Rattle.message_end.specs.Own.{Has}
use Rattle.spool_law.specs.Shelf.{Change, IsPurge, Policy, Tried, change_of, shelf_of, told_with}
use Rattle.spool_law.specs.Shelf.Change.{Leaves}
use Rattle.spool_file.specs.File.{SpoolFile}
use Rattle.trace_log.specs.InStep.{received_in_step}
use Rattle.trace_log.specs.declared.commands.ToolCommand.{ToolCommand}
use Rattle.trace_log.specs.declared.names.Cause.{Cause}
use Rattle.trace_log.specs.declared.names.Cause.TheVariants as cause
use Rattle.trace_log.specs.Log.{Happening}
use Rattle.trace_log.specs.Names.{Spooled}
use Rattle.equipment_tables.specs.declared.plan.EquipmentPlan.{EquipmentPlan}
use Rattle.equipment_tables.specs.Plan.{EquipmentPlanFits}
use Rattle.tool_step.specs.End.{machine}
use Rattle.tool_step.specs.Equipment.{started_on}
use Rattle.tool_spool.specs.SpoolKept.{MayHold, policy_of}

-- in this step the reply to the last try was received, which was a try of the message of this number: with its system
-- bytes, no W bit, and the function of that message plus one, which no abort has (SEMI E5, transaction; SEMI E30,
-- spooling)
pub record IsConfirmedInStep (notes : List Happening) (number : ℕ) : Type 0 where
  pub tried : Tried
  pub is : (shelf_of notes).tried ≡ Some tried
  pub number_is : tried.number ≡ number
  pub message : Spooled
  pub told : told_with tried.system (shelf_of notes).told ≡ Some message
  pub reply : Message
  pub has : Has (received_in_step notes) reply
  pub wait : reply.wait ≡ false
  pub system : reply.system ≡ tried.system
  pub stream : reply.stream ≡ message.stream
  pub function : reply.function ≡ message.function + 1

-- a message that was received last in this step asks for the spool to be emptied; a message that is overwritten leaves
-- for a put in the same step, as `MadeRoom.antt` says
abbrev pub MayLeaveInStep : Policy → List Happening → ℕ → Cause → Type 0
MayLeaveInStep policy notes number cause.Confirmed = IsConfirmedInStep notes number
MayLeaveInStep policy notes number cause.Purged = IsPurge policy (received_in_step notes)
MayLeaveInStep policy notes number cause.Overwritten = Unit {0}

abbrev pub MayChangeInStep : Policy → List Happening → Change → Type 0
MayChangeInStep policy notes (Leaves number why room_for) = MayLeaveInStep policy notes number why
MayChangeInStep policy notes _ = Unit {0}

-- each note at those before it (this profile)
abbrev pub LeaveInTheirSteps : Policy → List Happening → Type 0
LeaveInTheirSteps policy [] = Unit {0}
LeaveInTheirSteps policy (what ∷ before) =
    MayChangeInStep policy before (change_of what) × LeaveInTheirSteps policy before

-- so does the equipment, whatever it meets over all its starts, over whatever its file held (this profile)
abbrev pub MessagesLeaveInStep : Type 0
MessagesLeaveInStep =
    (plan : EquipmentPlan) (file : SpoolFile) → EquipmentPlanFits plan → 0 < file.slots
    → file.slots < 2 ^ 16 → MayHold file → (meetings : List (Meeting ToolCommand))
    → LeaveInTheirSteps (policy_of plan file.slots) (notes_of (course_of (started_on plan file) machine meetings))
