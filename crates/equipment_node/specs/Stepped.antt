-- What the code says of a step of the equipment, with its disk and its keeper.
use Rattle.std.specs.Prelude.{ℕ, List, Result}
use Rattle.disk_base.specs.declared.disk.Disk as disk
use Rattle.gem_recipes.specs.declared.keeper.RecipeKeeper as keeper
use Rattle.message_end.specs.Ends.{Input}
use Rattle.message_flow.specs.declared.step.Note.{Note}
use Rattle.spool_works.specs.DiskCalls.{HasCalled, HasMade, all_disk_calls}
use Rattle.tool_step.specs.Disk.{standing_in, works_of}
use Rattle.tool_step.specs.Losses.{losses}
use Rattle.trace_log.specs.declared.commands.ToolCommand.{ToolCommand}
use Rattle.equipment_node.specs.Breaking.{BreaksBy, Passes}
use Rattle.equipment_node.specs.DiskCalls.{disk_held}
use Rattle.equipment_node.specs.Held.{Held, by_disk, keeper_in, view_in}
use Rattle.equipment_node.specs.Keeping.{ByDisk, HandsBoth, LeavesRecipes, StaysUnasked}
use Rattle.equipment_node.specs.declared.ended.Ended.{Ended}

-- the recipes that its keeper has behind it, of one that a host is offered
abbrev pub RecipesAfter :
    {D K : Type 0} → disk.Ghosts D → keeper.Ghosts K → Held D K → Input ToolCommand → ℕ
    → Result (Held D K) (Ended D K) → Type 0
RecipesAfter members keepers h input now result =
    LeavesRecipes keepers (view_in members keepers h) input now (keeper_in result) (by_disk result)

-- the disk's calls are those of its works; all of them were made where the keeper has failed
abbrev pub CallsAfter :
    {D K : Type 0} → disk.Ghosts D → keeper.Ghosts K → Held D K → Input ToolCommand → ℕ
    → Result (Held D K) (Ended D K) → Type 0
CallsAfter {D} members keepers h input now result =
    let s = view_in members keepers h in
    let old = disk_held h in
    ByDisk keepers h.keeper (keeper_in result)
    (HasCalled members disk_held old (standing_in s) (works_of s input now))
    (λ (new : D). HasMade members old new (all_disk_calls (standing_in s) (works_of s input now)))
    (by_disk result)

-- what a planned call leaves that stops the disk
abbrev pub BreaksAfter :
    {D K : Type 0} → disk.Ghosts D → keeper.Ghosts K → Held D K → Input ToolCommand → ℕ → List Note
    → Result (Held D K) (Ended D K) → Type 0
BreaksAfter members keepers h input now notes result =
    let lost = losses (view_in members keepers h) input now in
    ByDisk keepers h.keeper (keeper_in result) (BreaksBy members disk_held (disk_held h) lost notes)
    (Passes members (disk_held h) lost) (by_disk result)

-- both come back
abbrev pub BothBack :
    {D K : Type 0} → disk.Ghosts D → keeper.Ghosts K → Held D K → Result (Held D K) (Ended D K) → Type 0
BothBack members keepers h result =
    HandsBoth members disk_held (disk_held h) keepers h.keeper (keeper_in result) (by_disk result)

abbrev pub KeeperUnasked : {D K : Type 0} → keeper.Ghosts K → Held D K → Result (Held D K) (Ended D K) → Type 0
KeeperUnasked keepers h result = StaysUnasked keepers h.keeper (keeper_in result)
