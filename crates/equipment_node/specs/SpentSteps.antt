-- Where a step and a start of the program end with their numbers spent.
use Rattle.std.specs.Prelude.{◌≡◌, ℕ, true, false, Result, Ok, Err}
use Rattle.disk_base.specs.declared.disk.Disk as disk
use Rattle.spool_file.specs.File.{SpoolFile}
use Rattle.trace_log.specs.declared.commands.ToolCommand.{ToolCommand}
use Rattle.message_end.specs.Ends.{Input}
use Rattle.spool_works.specs.declared.ended.Ended.{Ended}
use Rattle.spool_works.specs.declared.ended.Ended.TheVariants as ended
use Rattle.gem_recipes.specs.declared.keeper.RecipeKeeper as keeper
use Rattle.equipment_node.specs.declared.equipment.Starting.{Starting}
use Rattle.equipment_node.specs.declared.equipment.Starting.TheVariants as starting
use Rattle.tool_step.specs.Equipment.{is_marked_out}
use Rattle.equipment_node.specs.Held.{Held, view_in}
use Rattle.tool_law.specs.SpentSteps.{finds_spent}

-- ---- a step and a start of the program

-- it ends so where there is a cause alone, and where there is one it doesn't go on
abbrev pub IsSpentByCause :
    {D K : Type 0} → disk.Ghosts D → keeper.Ghosts K → Held D K → Input ToolCommand → ℕ
    → Result (Held D K) (Ended D) → Type 0
IsSpentByCause members keepers h input now (Ok k) = finds_spent (view_in members keepers h) input now ≡ false
IsSpentByCause members keepers h input now (Err (ended.NumbersSpent spent)) =
    finds_spent (view_in members keepers h) input now ≡ true
IsSpentByCause members keepers h input now (Err (ended.DiskFailed spent)) = Unit {0}
IsSpentByCause members keepers h input now (Err (ended.NoMemory spent)) = Unit {0}

-- the same of a start from this file, which always needs some
abbrev pub IsStartSpentByCause : {D K : Type 0} → SpoolFile → Result (Held D K) (Starting D K) → Type 0
IsStartSpentByCause file (Ok h) = is_marked_out file.mark.value ≡ false
IsStartSpentByCause file (Err (starting.NumbersSpent spent keeper)) = is_marked_out file.mark.value ≡ true
IsStartSpentByCause file (Err (starting.NotSpool raw break keeper)) = Unit {0}
IsStartSpentByCause file (Err (starting.DiskFailed spent keeper)) = Unit {0}
IsStartSpentByCause file (Err (starting.NoMemory spent keeper)) = Unit {0}
