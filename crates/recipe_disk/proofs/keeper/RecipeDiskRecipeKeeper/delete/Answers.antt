-- The call on the disk, and the flag.
use Rattle.std.proofs.Common.{ap, refl, subst, sym}
use Rattle.gem_recipes.specs.Keeper.{AnswersDelete, DeleteLeaves, HasKeeperCause, delete_failed}
use Rattle.recipe_disk.specs.Changes.{DeletesOn, recipes_told}
use Rattle.recipe_disk.specs.Hints.{KnowsUnless}
use Rattle.recipe_disk.specs.Opening.{IsReady, RecipeView}
use Rattle.recipe_disk.proofs.Ready.{known_ready, delete_fails, ready_unless, same_cause}
use Rattle.recipe_disk.proofs.keeper.RecipeDiskRecipeKeeper.delete.Goals as goal

pub delete_on-answer-requires-clause-kept : goal.delete_on-answer-requires-clause-kept
delete_on-answer-requires-clause-kept g c = (subst (IsReady g.D.Disk) (sym c.self.view_is) c.requires.sound).kept

pub returns-clause-answer : goal.returns-clause-answer
returns-clause-answer g c =
    subst (λ (v : RecipeView g.row.D.Denot). AnswersDelete c.args.name.now (recipes_told (g.D.Disk.told v.disk)) c.delete_on-answer.result)
    c.self.view_is c.delete_on-answer.ensures.done.answers

pub returns-clause-told : goal.returns-clause-told
returns-clause-told g c =
    subst
    (λ (v : RecipeView g.row.D.Denot). DeleteLeaves c.args.name.now (recipes_told (g.D.Disk.told v.disk)) (recipes_told (g.D.Disk.told c.delete_on-answer.new.disk)) c.delete_on-answer.result)
    c.self.view_is c.delete_on-answer.ensures.done.leaves

pub returns-clause-same : goal.returns-clause-same
returns-clause-same g c = (ap (λ (v : RecipeView g.row.D.Denot). v.slots) c.self.view_is, refl)

pub returns-clause-sound : goal.returns-clause-sound
returns-clause-sound g c = ready_unless g.D.Disk _ _ c.has_delete_failed-self-inside.ensures c.delete_on-answer.ensures.done.kept

pub returns-clause-cause : goal.returns-clause-cause
returns-clause-cause g c =
    subst (λ (v : RecipeView g.row.D.Denot). HasKeeperCause (delete_failed c.delete_on-answer.result) (g.D.Disk.health v.disk).faults (g.D.Disk.health c.delete_on-answer.new.disk).faults)
    c.self.view_is (same_cause _ _ _ _ (delete_fails c.delete_on-answer.result) c.delete_on-answer.ensures.done.made.cause)

pub returns-clause-done : goal.returns-clause-done
returns-clause-done g c =
    subst (λ (v : RecipeView g.row.D.Denot). DeletesOn g.D.Disk v.disk c.delete_on-answer.new.disk v.slots c.args.name.now c.delete_on-answer.result) c.self.view_is c.delete_on-answer.ensures.done

pub delete_on-answer-requires-clause-known : goal.delete_on-answer-requires-clause-known
delete_on-answer-requires-clause-known g c =
    known_ready c.self.inside.failed _ _ _ (subst (IsReady g.D.Disk) (sym c.self.view_is) c.requires.sound).going c.self.invariant

pub invariant_of-self : goal.invariant_of-self
invariant_of-self g c =
    subst (λ b. KnowsUnless b (g.D.Disk.told c.delete_on-answer.new.disk) c.self.inside.slots c.delete_on-answer.new.hints) (sym c.has_delete_failed-self-inside.ensures)
    c.delete_on-answer.ensures.known
