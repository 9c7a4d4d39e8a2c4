-- That the equipment keeps the law of its spool over its notes.
use Rattle.std.specs.Prelude.{◌<◌, ◌≤◌, ◌+◌, ◌&&◌, ◌^◌, nat_le, ℕ, Bool, true, false, List, length, map, sum, Option, Some}
use Rattle.gem_shapes.specs.declared.request.Request.{Request}
use Rattle.gem_shapes.specs.declared.request.Request.TheVariants as request
use Rattle.trace_log.specs.declared.commands.ToolCommand.{ToolCommand}
use Rattle.message_end.specs.Course.{Meeting, course_of, notes_of}
use Rattle.spool_law.specs.Shelf.{KeepsSpool, KeepsSpoolFrom, Policy}
use Rattle.spool_file.specs.File.{SpoolFile}
use Rattle.spool_file.specs.Format.{empty_file}
use Rattle.spool_ledger.specs.Ledger.{size_of}
use Rattle.spool_file.specs.Run.{IsChainFrom}
use Rattle.spool_file.specs.Slot.{width}
use Rattle.spool_works.specs.Found.{first_in, found_in}
use Rattle.trace_log.specs.Names.{Spooled}
use Rattle.equipment_tables.specs.declared.plan.EquipmentPlan.{EquipmentPlan}
use Rattle.equipment_tables.specs.Plan.{EquipmentPlanFits}
use Rattle.equipment_tables.specs.Requests.{request_of}
use Rattle.equipment_tables.specs.Tables.{overwrites}
use Rattle.tool_step.specs.End.{machine}
use Rattle.tool_step.specs.Equipment.{started_on}
use Rattle.tool_law.specs.Sound.{AllCanBeSent}
use Rattle.tool_reports.specs.Reported.{tables_in}

-- ---- what makes room

-- S6F23 of RSDC 1 (SEMI E5, S6F23)
abbrev pub is_purge : Option Request → Bool
is_purge (Some request.PurgeSpool) = true
is_purge _ = false

-- how many slots each message takes that stands
abbrev pub sizes_of : List (ℕ × Spooled) → List ℕ
sizes_of stands = map (λ one. size_of one.1) stands

-- a body has at most a mebibyte; there is room for it where it and all that stand take no more slots than there are;
-- and OverWriteSpool is looked back for (SEMI E30, spooling)
abbrev pub policy_of : EquipmentPlan → ℕ → Policy
policy_of plan slots = record {
  purges = λ message. is_purge (request_of message.stream message.function message.body);
  has_room = λ stands message.
      nat_le (length message.body) 1048576 && nat_le (sum (sizes_of stands) + size_of message) slots;
  overwrites = λ notes. overwrites (tables_in plan notes);
}

-- ---- over a file of an earlier run

-- how many slots its messages take
abbrev pub used_in : SpoolFile → ℕ
used_in file = sum (map width file.list)

-- what a file may hold as the equipment starts over it: messages that take no more slots than there are, numbered one
-- after the other, each of which can be sent; and the floor has the same bound as their numbers (this profile)
pub record MayHold (file : SpoolFile) : Type 0 where
  pub chain : IsChainFrom (first_in file) (first_in file + used_in file) file.list
  pub room : used_in file ≤ file.slots
  pub bound : first_in file + used_in file ≤ 2 ^ 63 + 65535
  pub floor : file.floor.value ≤ 2 ^ 63 + 65535
  pub sent : AllCanBeSent file.list

-- ---- the laws

-- whatever it meets over all its starts, from an empty spool on: what it stores goes behind all others, what leaves is
-- the first and has a cause, what is tried is the first and goes out as it was put, and each start finds what stood
-- (this profile)
abbrev pub SpoolIsKept : Type 0
SpoolIsKept =
    (plan : EquipmentPlan) (slots : ℕ) → EquipmentPlanFits plan → 0 < slots → slots < 2 ^ 16
    → (meetings : List (Meeting ToolCommand))
    → KeepsSpool (policy_of plan slots) (notes_of (course_of (started_on plan (empty_file slots)) machine meetings))

-- the same over whatever its file holds before its first start
abbrev pub SpoolIsKeptFrom : Type 0
SpoolIsKeptFrom =
    (plan : EquipmentPlan) (file : SpoolFile) → EquipmentPlanFits plan → 0 < file.slots
    → file.slots < 2 ^ 16 → MayHold file → (meetings : List (Meeting ToolCommand))
    → KeepsSpoolFrom (policy_of plan file.slots) (found_in file.list)
    (notes_of (course_of (started_on plan file) machine meetings))
