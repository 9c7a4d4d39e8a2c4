-- That the oldest messages of the spool are overwritten for a put alone. The newest note comes first.
use Rattle.std.specs.Prelude.{◌≡◌, ◌⊎◌, ◌<◌, ◌^◌, List, [], ◌∷◌, Option, None, Some}
use Rattle.message_end.specs.Course.{Course, Meeting, course_of, notes_of}
use Rattle.message_end.specs.Course.Course.{Reached, Stopped}
use Rattle.spool_law.specs.Shelf.{Change, change_of}
use Rattle.spool_law.specs.Shelf.Change.{HasGone, Leaves, Stores}
use Rattle.spool_file.specs.File.{SpoolFile}
use Rattle.trace_log.specs.declared.commands.ToolCommand.{ToolCommand}
use Rattle.trace_log.specs.Log.{Happening}
use Rattle.trace_log.specs.Names.{Spooled}
use Rattle.equipment_tables.specs.declared.plan.EquipmentPlan.{EquipmentPlan}
use Rattle.equipment_tables.specs.Plan.{EquipmentPlanFits}
use Rattle.tool_step.specs.End.{machine}
use Rattle.tool_step.specs.Equipment.{EquipmentView, started_on}
use Rattle.tool_spool.specs.SpoolKept.{MayHold}

-- the message for which the last removal makes room, if it makes any
abbrev pub named_by : Change → Option Spooled → Option Spooled
named_by (Leaves number why room_for) before = room_for
named_by _ before = before

abbrev pub made_for : List Happening → Option Spooled
made_for [] = None
made_for (what ∷ before) = named_by (change_of what) (made_for before)

abbrev pub IsUsedBy : Change → List Happening → Type 0
IsUsedBy (HasGone number) before = made_for before ≡ None
IsUsedBy _ before = Unit {0}

-- what was noted last isn't that a message is gone which made room for another: no place is left that was made so
abbrev pub IsRoomUsed : List Happening → Type 0
IsRoomUsed [] = Unit {0}
IsRoomUsed (what ∷ before) = IsUsedBy (change_of what) before

-- that message is put, or one more leaves for it
abbrev pub TakesRoom : Option Spooled → Change → Type 0
TakesRoom made (Stores number message) = made ≡ Some message
TakesRoom made (Leaves number why room_for) = made ≡ room_for
TakesRoom made _ = ⊥

abbrev pub MayUse : List Happening → Happening → Type 0
MayUse before what = IsRoomUsed before ⊎ TakesRoom (made_for before) (change_of what)

-- right behind a message that is gone as overwritten the one is put that it has made room for, or another leaves for
-- that, also where power is lost at one of the calls of that. So it is overwritten for a put, in whose step it leaves
-- (SEMI E30, OverWriteSpool)
abbrev pub MakesRoomForPuts : List Happening → Type 0
MakesRoomForPuts [] = Unit {0}
MakesRoomForPuts (what ∷ before) = MayUse before what × MakesRoomForPuts before

-- and no such place is left at the end of a step
abbrev pub LeavesNoRoom : Course EquipmentView → Type 0
LeavesNoRoom (Reached s notes) = IsRoomUsed notes
LeavesNoRoom (Stopped notes) = Unit {0}

pub record UsesRoom (course : Course EquipmentView) : Type 0 where
  pub puts : MakesRoomForPuts (notes_of course)
  pub none : LeavesNoRoom course

-- whatever it meets over all its starts, over whatever its file held (this profile)
abbrev pub OverwritesForPuts : Type 0
OverwritesForPuts =
    (plan : EquipmentPlan) (file : SpoolFile) → EquipmentPlanFits plan → 0 < file.slots
    → file.slots < 2 ^ 16 → MayHold file → (meetings : List (Meeting ToolCommand))
    → UsesRoom (course_of (started_on plan file) machine meetings)
