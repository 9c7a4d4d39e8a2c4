-- What a call of the keeper makes of it, by what it made of the disk.
use Rattle.std.proofs.Common.{◌≡◌, refl, sym, subst, ◌∙◌, ℕ, Bool, true, false, List, Option, true≢false}
use Rattle.disk_base.specs.Story.{Story}
use Rattle.disk_base.specs.declared.disk.Disk as disk
use Rattle.disk_base.specs.declared.disk.DiskAnswer.{DiskAnswer}
use Rattle.gem_recipes.specs.Keeper.{HasKeeperCause, IsSoundUnless, delete_failed, get_failed, names_failed, put_failed}
use Rattle.gem_recipes.specs.declared.keeper.RecipeDrop.{RecipeDrop}
use Rattle.gem_recipes.specs.declared.keeper.RecipeDrop.TheVariants as deleting
use Rattle.gem_recipes.specs.declared.keeper.RecipeGet.{RecipeGet}
use Rattle.gem_recipes.specs.declared.keeper.RecipeGet.TheVariants as getting
use Rattle.gem_recipes.specs.declared.keeper.RecipeNames.{RecipeNames}
use Rattle.gem_recipes.specs.declared.keeper.RecipeNames.TheVariants as listing
use Rattle.gem_recipes.specs.declared.keeper.RecipePut.{RecipePut}
use Rattle.gem_recipes.specs.declared.keeper.RecipePut.TheVariants as putting
use Rattle.recipe_disk.specs.Changes.{IsKept, IsKeptUnless}
use Rattle.recipe_disk.specs.Hints.{KnowsSlots, KnowsUnless}
use Rattle.recipe_disk.specs.Listing.{get_answer, names_answer}
use Rattle.recipe_disk.specs.Opening.{IsReady, RecipeView}
use Rattle.recipe_disk.specs.Reading.{HasLooked, delete_answer_of, disk_failed, put_answer_of}
use Rattle.recipe_disk.specs.declared.hints.Hint.{Hint}
use Rattle.recipe_disk.proofs.Hinted.{known_looked}
use Rattle.recipe_disk.proofs.Keeping.{looked_kept}

-- the disk fails where the call does
pub put_fails : (answer : RecipePut) → disk_failed (put_answer_of answer) ≡ put_failed answer
put_fails putting.Stored = refl
put_fails putting.TooLong = refl
put_fails putting.NoSpace = refl
put_fails putting.Failed = refl

pub delete_fails : (answer : RecipeDrop) → disk_failed (delete_answer_of answer) ≡ delete_failed answer
delete_fails deleting.Dropped = refl
delete_fails deleting.Unknown = refl
delete_fails deleting.Failed = refl

pub get_fails : (answer : RecipeGet) → disk_failed (get_answer answer) ≡ get_failed answer
get_fails (getting.Found body) = refl
get_fails getting.Unknown = refl
get_fails getting.Failed = refl
get_fails getting.NoMemory = refl

pub names_fail : (answer : RecipeNames) → disk_failed (names_answer answer) ≡ names_failed answer
names_fail (listing.Names names) = refl
names_fail listing.Failed = refl
names_fail listing.NoMemory = refl

pub same_cause : (a b : Bool) (before now : ℕ) → a ≡ b → HasKeeperCause a before now → HasKeeperCause b before now
same_cause a b before now same is = subst (λ x. HasKeeperCause x before now) same is

-- it can be asked on, unless the call failed
pub ready_unless : {D : Type 0} (members : disk.Ghosts D) (v : RecipeView D) (failed : Bool) → v.failed ≡ failed → IsKeptUnless failed (IsKept members v.disk v.slots) →
    IsSoundUnless failed (IsReady members v)
ready_unless members v true is kept = λ ready. true≢false (sym is ∙ ready.going)
ready_unless members v false is kept = record { going = is; kept = kept }

pub kept_unless : {D : Type 0} (members : disk.Ghosts D) (slots : ℕ) (a b : D) (kept : IsKept members a slots) (answer : DiskAnswer) (failed : Bool) → HasLooked members a b answer →
    IsKeptUnless failed (IsKept members b slots)
kept_unless members slots a b kept answer true looked = tt
kept_unless members slots a b kept answer false looked = looked_kept members slots a b kept looked

-- ---- the hints of a store

-- they are known where it can be asked
pub known_ready : (failed : Bool) (told : Option Story) (n : ℕ) (hints : List Hint) → failed ≡ false → KnowsUnless failed told n hints → KnowsSlots told n hints
known_ready failed told n hints going known = subst (λ b. KnowsUnless b told n hints) going known

-- and stay so behind reads
pub known_behind : (failed : Bool) (told after : Option Story) (n : ℕ) (hints : List Hint) → after ≡ told → KnowsSlots told n hints → KnowsUnless failed after n hints
known_behind true told after n hints same known = tt
known_behind false told after n hints same known = known_looked told after n hints same known
