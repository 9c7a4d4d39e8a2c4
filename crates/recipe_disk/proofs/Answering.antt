-- What a deletion, a look-up and a question for room come to, by what they found.
use Rattle.std.proofs.Common.{◌≡◌, refl, sym, ap, subst, ◌∙◌, ℕ, ◌<◌, inl, inr, true, false, is_some, List, [], ◌∷◌, ◌++◌, Option, None, Some}
use Rattle.std.specs.FinMap.{contains_key, get}
use Rattle.std.specs.Option.{option_map}
use Rattle.disk_base.specs.Story.{Story}
use Rattle.disk_base.specs.declared.disk.Disk as disk
use Rattle.disk_base.specs.declared.disk.DiskAnswer.{DiskAnswer}
use Rattle.disk_base.specs.declared.disk.DiskAnswer.TheVariants.{Done, Failed}
use Rattle.gem_recipes.specs.Keeper.{AnswersGet, IsOf}
use Rattle.gem_recipes.specs.Recipes.{Recipe, body_of, without}
use Rattle.gem_recipes.specs.declared.keeper.RecipeDrop.TheVariants as deleting
use Rattle.gem_recipes.specs.declared.keeper.RecipeGet.{RecipeGet}
use Rattle.gem_recipes.specs.declared.keeper.RecipeGet.TheVariants as getting
use Rattle.spool_slots.specs.Changes.{HasSettled}
use Rattle.recipe_disk.specs.Changes.{DeletesOn, HasDeleted, HasWritten, IsKept, close_write, recipes_told}
use Rattle.recipe_disk.specs.File.{recipes_in}
use Rattle.recipe_disk.specs.Listing.{ReadsBody}
use Rattle.recipe_disk.specs.Reading.{HasLooked, HasMade, IsAnyCall}
use Rattle.recipe_disk.specs.Slot.{is_open, name_of, slot_in}
use Rattle.recipe_disk.specs.Survey.{named_at}
use Rattle.recipe_disk.proofs.Deleting.{delete_changes}
use Rattle.recipe_disk.proofs.Keeping.{any_made, changed_done, changed_failed, changed_images, changed_kept, looked_kept, made_changed, of_told, unchanged}
use Rattle.recipe_disk.proofs.Putting.{Changes, Replaces, not_done}
use Rattle.recipe_disk.proofs.Surveys.{found_gets, none_gets, replaces}

-- one write alone
pub written_one : {D : Type 0} (members : disk.Ghosts D) (a b : D) (at : ℕ) (bytes : List ℕ) (answer : DiskAnswer) → HasSettled members a b at bytes answer →
    HasWritten members a b ((at, bytes) ∷ []) answer
written_one members a b at bytes Done settled = inr (b, settled, (refl, refl))
written_one members a b at bytes Failed settled = inl (refl, settled)

-- some writes behind others
pub written_behind : {D : Type 0} (members : disk.Ghosts D) (a m b : D) (first second : List (ℕ × List ℕ)) (answer : DiskAnswer) →
    HasWritten members a m first Done → HasWritten members m b second answer → HasWritten members a b (first ++ second) answer
written_behind members a m b [] second answer done rest = subst (λ d. HasWritten members d b second answer) done.0 rest
written_behind members a m b (write ∷ first) second answer (inl failed) rest = absurd (not_done Done failed.0 refl)
written_behind members a m b (write ∷ first) second answer (inr done) rest =
    inr (done.0, done.1, written_behind members done.0 m b first second answer done.2 rest)

module _ {D : Type 0} (members : disk.Ghosts D) (slots : ℕ) (a : D) (name : List ℕ) (kept : IsKept members a slots) where
  pub delete_not_looked : (b : D) → HasLooked members a b Failed → DeletesOn members a b slots name deleting.Failed
  delete_not_looked b looked = record {
    answers = tt;
    calls = inl looked;
    images = unchanged members slots a b kept looked.told (without name);
    leaves = inl (ap recipes_told looked.told);
    kept = tt;
    made = any_made members slots a b kept _ Failed looked.made;
  }

  module _ (mid : D) (found : Option ℕ) (looked : HasLooked members a mid Done)
      (is : (s : Story) → members.told a ≡ Some s → found ≡ named_at (slot_in s.now.bytes) name slots) where
    not_there : found ≡ None → (s : Story) → members.told a ≡ Some s → get (recipes_in s.now.bytes) name ≡ None
    not_there none s told = none_gets slots s (kept.rests s told) name found (is s told) none

    pub delete_unknown : found ≡ None → DeletesOn members a mid slots name deleting.Unknown
    delete_unknown none = record {
      answers = of_told (members.told a) (λ recipes. contains_key recipes name) false (λ s told. ap (λ (o : Option Recipe). is_some o) (not_there none s told));
      calls = looked;
      images = unchanged members slots a mid kept looked.told (without name);
      leaves = ap recipes_told looked.told;
      kept = looked_kept members slots a mid kept looked;
      made = any_made members slots a mid kept _ Done looked.made;
    }

    pub get_unknown : found ≡ None → IsOf (recipes_told (members.told a)) (body_of name) None
    get_unknown none =
        of_told (members.told a) (body_of name) None (λ s told. ap (option_map (λ (recipe : Recipe). recipe.body)) (not_there none s told))

    module _ (q : ℕ) (here : found ≡ Some q) where
      there : (s : Story) → members.told a ≡ Some s → (q < slots) × (is_open (slot_in s.now.bytes q) ≡ true) × (name_of (slot_in s.now.bytes q) ≡ name)
      there s told =
          subst (Replaces slots name (slot_in s.now.bytes)) here (replaces slots s (kept.rests s told) name found (is s told))

      gets : (s : Story) → members.told a ≡ Some s → body_of name (recipes_in s.now.bytes) ≡ Some (slot_in s.now.bytes q).body
      gets s told = ap (option_map (λ (recipe : Recipe). recipe.body)) (found_gets slots s (kept.rests s told) name found (is s told) q here)

      -- the body that was read
      pub got : (answer : RecipeGet) → ReadsBody (members.told mid) q answer → AnswersGet name (recipes_told (members.told a)) answer
      got (getting.Found body) reads = (
        reads.0,
        of_told (members.told a) (body_of name) (Some body)
            (λ s told. gets s told ∙ ap (λ (b : List ℕ). Some b) (sym (reads.1 s (looked.told ∙ told)))),
      )
      got getting.Unknown reads = absurd reads
      got getting.Failed reads = tt
      got getting.NoMemory reads = tt

      module _ (b : D) (answer : DiskAnswer) (written : HasWritten members mid b (close_write q ∷ []) answer) where
        deleted_on : (s : Story) → members.told a ≡ Some s → Changes slots (without name (recipes_in s.now.bytes)) s (members.told b) answer
        deleted_on s told =
            let it = there s told in
            delete_changes slots q name s (kept.rests s told) it.0 it.1 it.2 members mid b (looked.told ∙ told) answer written

        deleted_made : HasMade IsAnyCall members a b answer
        deleted_made = made_changed members a b (close_write q ∷ []) answer (mid, looked, written)

        has_deleted : HasDeleted members a b slots name answer
        has_deleted = record {
          slot = q;
          chosen = λ s told. sym (is s told) ∙ here;
          changed = (mid, looked, written);
        }

      pub delete_dropped : (b : D) → HasWritten members mid b (close_write q ∷ []) Done → DeletesOn members a b slots name deleting.Dropped
      delete_dropped b written = record {
        answers = of_told (members.told a) (λ recipes. contains_key recipes name) true
            (λ s told. ap (λ (o : Option Recipe). is_some o) (found_gets slots s (kept.rests s told) name found (is s told) q here));
        calls = has_deleted b Done written;
        images = changed_images members slots a b Done (without name) kept (deleted_made b Done written) (deleted_on b Done written);
        leaves = changed_done members slots a b Done (without name) kept (deleted_made b Done written) (deleted_on b Done written) refl;
        kept = changed_kept members slots a b Done (without name) kept (deleted_made b Done written) (deleted_on b Done written) refl;
        made = deleted_made b Done written;
      }

      pub delete_failed : (b : D) → HasWritten members mid b (close_write q ∷ []) Failed → DeletesOn members a b slots name deleting.Failed
      delete_failed b written = record {
        answers = tt;
        calls = inr (has_deleted b Failed written);
        images = changed_images members slots a b Failed (without name) kept (deleted_made b Failed written) (deleted_on b Failed written);
        leaves = changed_failed members slots a b Failed (without name) kept (deleted_made b Failed written) (deleted_on b Failed written);
        kept = tt;
        made = deleted_made b Failed written;
      }
