-- The call on the disk, and the flag.
use Rattle.std.proofs.Common.{◌∙◌, ap, refl, subst, sym}
use Rattle.gem_recipes.specs.Keeper.{AnswersGet, HasKeeperCause, get_failed}
use Rattle.recipe_disk.specs.Changes.{recipes_told}
use Rattle.recipe_disk.specs.Listing.{get_answer}
use Rattle.recipe_disk.specs.Opening.{IsReady, RecipeView}
use Rattle.recipe_disk.specs.Reading.{HasLooked}
use Rattle.recipe_disk.proofs.Ready.{known_behind, known_ready, get_fails, kept_unless, ready_unless, same_cause}
use Rattle.recipe_disk.proofs.keeper.RecipeDiskRecipeKeeper.get.Goals as goal

pub get_on-answer-requires-clause-kept : goal.get_on-answer-requires-clause-kept
get_on-answer-requires-clause-kept g c = (subst (IsReady g.D.Disk) (sym c.self.view_is) c.requires.sound).kept

pub returns-clause-answer : goal.returns-clause-answer
returns-clause-answer g c =
    subst (λ (v : RecipeView g.row.D.Denot). AnswersGet c.args.name.now (recipes_told (g.D.Disk.told v.disk)) c.get_on-answer.result) c.self.view_is c.get_on-answer.ensures.answer

pub returns-clause-told : goal.returns-clause-told
returns-clause-told g c =
    ap recipes_told c.get_on-answer.ensures.looked.told ∙ ap (λ (v : RecipeView g.row.D.Denot). recipes_told (g.D.Disk.told v.disk)) c.self.view_is

pub returns-clause-same : goal.returns-clause-same
returns-clause-same g c = (ap (λ (v : RecipeView g.row.D.Denot). v.slots) c.self.view_is, refl)

pub returns-clause-sound : goal.returns-clause-sound
returns-clause-sound g c =
    ready_unless g.D.Disk _ _ c.has_get_failed-self-inside.ensures
    (kept_unless g.D.Disk _ _ _ (subst (IsReady g.D.Disk) (sym c.self.view_is) c.requires.sound).kept _ _ c.get_on-answer.ensures.looked)

pub returns-clause-cause : goal.returns-clause-cause
returns-clause-cause g c =
    subst (λ (v : RecipeView g.row.D.Denot). HasKeeperCause (get_failed c.get_on-answer.result) (g.D.Disk.health v.disk).faults (g.D.Disk.health c.get_on-answer.new.disk).faults)
    c.self.view_is (same_cause _ _ _ _ (get_fails c.get_on-answer.result) c.get_on-answer.ensures.looked.made.cause)

pub returns-clause-looked : goal.returns-clause-looked
returns-clause-looked g c =
    subst (λ (v : RecipeView g.row.D.Denot). HasLooked g.D.Disk v.disk c.get_on-answer.new.disk (get_answer c.get_on-answer.result)) c.self.view_is c.get_on-answer.ensures.looked

pub get_on-answer-requires-clause-known : goal.get_on-answer-requires-clause-known
get_on-answer-requires-clause-known g c =
    known_ready c.self.inside.failed _ _ _ (subst (IsReady g.D.Disk) (sym c.self.view_is) c.requires.sound).going c.self.invariant

pub invariant_of-self : goal.invariant_of-self
invariant_of-self g c =
    known_behind c.has_get_failed-self-inside.result _ _ _ _ c.get_on-answer.ensures.looked.told
    (known_ready c.self.inside.failed _ _ _ (subst (IsReady g.D.Disk) (sym c.self.view_is) c.requires.sound).going c.self.invariant)
