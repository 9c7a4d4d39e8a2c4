-- What a step asks of the disk, in its order, and what there is where the disk fails on the way.
use Rattle.std.specs.Prelude.{ℕ, Bool, ◌&&◌, not, List, [], ◌∷◌, ◌++◌, is_some, map, if◌then◌else◌}
use Rattle.std.specs.Option.{option_map_or}
use Rattle.gem_spool.specs.declared.works.Work.{Work}
use Rattle.gem_spool.specs.Standing.{Standing}
use Rattle.trace_log.specs.declared.commands.ToolCommand.{ToolCommand}
use Rattle.trace_log.specs.Log.{Happening}
use Rattle.message_end.specs.Core.{Went, step_in}
use Rattle.message_end.specs.Core.Went.{Goes, Spent}
use Rattle.message_end.specs.Ends.{Asked, Input}
use Rattle.equipment_tables.specs.Tables.{most_transmitted}
use Rattle.spool_ledger.specs.Ledger.{next_of}
use Rattle.spool_ledger.specs.Sizes.{oldest_of}
use Rattle.spool_ledger.specs.Unloading.{next_number}
use Rattle.tool_step.specs.Equipment.{EquipmentView, begun_step, is_marked_out, needs_numbers}
use Rattle.tool_step.specs.Own.{OwnView}
use Rattle.tool_step.specs.Recipes.{owes_recipes}
use Rattle.tool_step.specs.Setup.{to_keep}
use Rattle.spool_works.specs.DiskWorks.{DiskWork, fronts_of, all_calls, all_bytes}
use Rattle.spool_works.specs.DiskWorks.DiskWork.{Change, Keep, ReadOldest, Reserve}

-- no more are reserved where there are none of four bytes
abbrev pub reserve_works : EquipmentView → List DiskWork
reserve_works s = if needs_numbers s && not (is_marked_out s.file.mark.value) then Reserve ∷ [] else []

-- what the spool owes behind all that is due and given, also where the numbers are spent by then
abbrev pub owed_in : Went EquipmentView Happening → List Work
owed_in begun = (step_in begun).next.node.own.ledger.works

-- the setup is kept, unless the numbers are spent: one primary is treated in a step, and its action comes last
abbrev pub keep_works : Went EquipmentView Happening → List DiskWork
keep_works (Goes step) = option_map_or (λ bytes. Keep bytes ∷ []) (to_keep step.next.node.own) []
keep_works (Spent step) = []

-- a message is taken up then
abbrev pub takes_up : OwnView → Bool
takes_up own = is_some (next_number (most_transmitted own.tables) own.ledger)

abbrev pub read_works : Went EquipmentView Happening → List DiskWork
read_works (Goes step) =
    if takes_up step.next.node.own then ReadOldest (oldest_of step.next.node.own.ledger.sizes) ∷ [] else []
read_works (Spent step) = []

abbrev pub works_behind : Went EquipmentView Happening → List DiskWork
works_behind begun = map Change (owed_in begun) ++ keep_works begun ++ read_works begun

-- in the order in which the disk is asked for them (this profile)
abbrev pub works_of : EquipmentView → Input ToolCommand → ℕ → List DiskWork
works_of s input now = reserve_works s ++ works_behind (begun_step s input now)

-- what was noted where the recipes are asked, if they are, and fail: that is behind all works (this profile)
abbrev pub unserved : Went EquipmentView Happening → List (List Happening)
unserved (Goes step) = if owes_recipes step.next.node.own.owed then step.notes ∷ [] else []
unserved (Spent step) = []

-- for each work of a step, in their order, what was noted where the disk fails at it (this profile); and so of the
-- recipes
abbrev pub stops : EquipmentView → Input ToolCommand → ℕ → List (List Happening)
stops s input now =
    let begun = begun_step s input now in
    fronts_of [] (works_of s input now) (step_in begun).notes ++ unserved begun

-- ---- what they make of the file, and what they cost

-- how the spool stands between two steps
abbrev pub standing_in : EquipmentView → Standing
standing_in s = record { next = next_of s.node.own.ledger; file = s.file }

-- what a step asks of it, and what a start does
abbrev pub asks : EquipmentView → Input ToolCommand → ℕ → Asked
asks s input now =
    let works = works_of s input now in
    record { calls = all_calls (standing_in s) works; bytes = all_bytes (standing_in s) works }
