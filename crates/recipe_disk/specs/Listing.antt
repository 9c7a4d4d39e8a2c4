-- What reading a body and all names comes to (this profile).
use Rattle.std.specs.Prelude.{◌≡◌, ◌+◌, ◌≤◌, ℕ, List, [], ◌∷◌, ◌++◌, length, Option, Some, if◌then◌else◌}
use Rattle.disk_base.specs.Story.{Story, bytes_at}
use Rattle.disk_base.specs.declared.disk.DiskAnswer.{DiskAnswer}
use Rattle.disk_base.specs.declared.disk.DiskAnswer.TheVariants.{Done, Failed}
use Rattle.gem_recipes.specs.Recipes.{most_body}
use Rattle.gem_recipes.specs.declared.keeper.RecipeGet.{RecipeGet}
use Rattle.gem_recipes.specs.declared.keeper.RecipeGet.TheVariants as getting
use Rattle.gem_recipes.specs.declared.keeper.RecipeNames.{RecipeNames}
use Rattle.gem_recipes.specs.declared.keeper.RecipeNames.TheVariants as listing
use Rattle.recipe_disk.specs.Slot.{name_in, slot_in}
use Rattle.recipe_disk.specs.Survey.{is_live}
use Rattle.recipe_disk.specs.declared.head.Head.{Head}

-- whether the disk failed
abbrev pub get_answer : RecipeGet → DiskAnswer
get_answer (getting.Found body) = Done
get_answer getting.Unknown = Done
get_answer getting.Failed = Failed
get_answer getting.NoMemory = Done

abbrev pub names_answer : RecipeNames → DiskAnswer
names_answer (listing.Names names) = Done
names_answer listing.Failed = Failed
names_answer listing.NoMemory = Done

-- so many bytes from a place on, where they are told
abbrev pub GivesBody : Option Story → (at long : ℕ) → RecipeGet → Type 0
GivesBody told at long (getting.Found body) =
    (length body ≡ long) × ((s : Story) → told ≡ Some s → body ≡ bytes_at s.now.bytes at long)
GivesBody told at long getting.Unknown = ⊥
GivesBody told at long getting.Failed = Unit {0}
GivesBody told at long getting.NoMemory = Unit {0}

-- the body of a slot
abbrev pub ReadsBody : Option Story → (slot : ℕ) → RecipeGet → Type 0
ReadsBody told slot (getting.Found body) =
    (length body ≤ most_body)
    × ((s : Story) → told ≡ Some s → body ≡ (slot_in s.now.bytes slot).body)
ReadsBody told slot getting.Unknown = ⊥
ReadsBody told slot getting.Failed = Unit {0}
ReadsBody told slot getting.NoMemory = Unit {0}

-- names, and behind them that of a head, if it has a recipe
abbrev pub names_with : Head → List (List ℕ) → List (List ℕ)
names_with head names = if is_live head then names ++ name_in head ∷ [] else names
