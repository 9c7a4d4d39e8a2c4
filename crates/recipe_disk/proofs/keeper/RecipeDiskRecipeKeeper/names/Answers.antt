-- The call on the disk, and the flag.
use Rattle.std.proofs.Common.{◌∙◌, ap, refl, subst, sym}
use Rattle.gem_recipes.specs.Keeper.{AnswersNames, HasKeeperCause, names_failed}
use Rattle.recipe_disk.specs.Changes.{recipes_told}
use Rattle.recipe_disk.specs.Listing.{names_answer}
use Rattle.recipe_disk.specs.Opening.{IsReady, RecipeView}
use Rattle.recipe_disk.specs.Reading.{HasLooked}
use Rattle.recipe_disk.proofs.Ready.{known_behind, known_ready, names_fail, kept_unless, ready_unless, same_cause}
use Rattle.recipe_disk.proofs.keeper.RecipeDiskRecipeKeeper.names.Goals as goal

pub read_names-answer-requires : goal.read_names-answer-requires
read_names-answer-requires g c = (subst (IsReady g.D.Disk) (sym c.self.view_is) c.requires).kept

pub returns-clause-answer : goal.returns-clause-answer
returns-clause-answer g c =
    subst (λ (v : RecipeView g.row.D.Denot). AnswersNames (recipes_told (g.D.Disk.told v.disk)) c.read_names-answer.result) c.self.view_is c.read_names-answer.ensures.names

pub returns-clause-told : goal.returns-clause-told
returns-clause-told g c =
    ap recipes_told c.read_names-answer.ensures.looked.told ∙ ap (λ (v : RecipeView g.row.D.Denot). recipes_told (g.D.Disk.told v.disk)) c.self.view_is

pub returns-clause-same : goal.returns-clause-same
returns-clause-same g c = (ap (λ (v : RecipeView g.row.D.Denot). v.slots) c.self.view_is, refl)

pub returns-clause-sound : goal.returns-clause-sound
returns-clause-sound g c =
    ready_unless g.D.Disk _ _ c.have_names_failed-self-inside.ensures
    (kept_unless g.D.Disk _ _ _ (subst (IsReady g.D.Disk) (sym c.self.view_is) c.requires).kept _ _ c.read_names-answer.ensures.looked)

pub returns-clause-cause : goal.returns-clause-cause
returns-clause-cause g c =
    subst (λ (v : RecipeView g.row.D.Denot). HasKeeperCause (names_failed c.read_names-answer.result) (g.D.Disk.health v.disk).faults (g.D.Disk.health c.read_names-answer.new.disk).faults)
    c.self.view_is (same_cause _ _ _ _ (names_fail c.read_names-answer.result) c.read_names-answer.ensures.looked.made.cause)

pub returns-clause-looked : goal.returns-clause-looked
returns-clause-looked g c =
    subst (λ (v : RecipeView g.row.D.Denot). HasLooked g.D.Disk v.disk c.read_names-answer.new.disk (names_answer c.read_names-answer.result)) c.self.view_is c.read_names-answer.ensures.looked

pub invariant_of-self : goal.invariant_of-self
invariant_of-self g c =
    known_behind c.have_names_failed-self-inside.result _ _ _ _ c.read_names-answer.ensures.looked.told
    (known_ready c.self.inside.failed _ _ _ (subst (IsReady g.D.Disk) (sym c.self.view_is) c.requires).going c.self.invariant)
