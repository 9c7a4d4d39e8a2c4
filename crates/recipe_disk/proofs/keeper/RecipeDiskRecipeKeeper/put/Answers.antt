-- The call on the disk, and the flag.
use Rattle.std.proofs.Common.{ap, refl, subst, sym}
use Rattle.gem_recipes.specs.Keeper.{AnswersPut, PutLeaves, HasKeeperCause, put_failed}
use Rattle.recipe_disk.specs.Changes.{PutsOn, recipes_told}
use Rattle.recipe_disk.specs.Hints.{KnowsUnless}
use Rattle.recipe_disk.specs.Opening.{IsReady, RecipeView}
use Rattle.recipe_disk.proofs.Ready.{known_ready, put_fails, ready_unless, same_cause}
use Rattle.recipe_disk.proofs.keeper.RecipeDiskRecipeKeeper.put.Goals as goal

pub put_on-answer-requires-clause-kept : goal.put_on-answer-requires-clause-kept
put_on-answer-requires-clause-kept g c = (subst (IsReady g.D.Disk) (sym c.self.view_is) c.requires.sound).kept

pub returns-clause-answer : goal.returns-clause-answer
returns-clause-answer g c =
    subst (λ (v : RecipeView g.row.D.Denot). AnswersPut v.slots c.args.name.now c.args.body.now (recipes_told (g.D.Disk.told v.disk)) c.put_on-answer.result)
    c.self.view_is c.put_on-answer.ensures.done.answers

pub returns-clause-told : goal.returns-clause-told
returns-clause-told g c =
    subst
    (λ (v : RecipeView g.row.D.Denot). PutLeaves v.slots c.args.name.now c.args.body.now (recipes_told (g.D.Disk.told v.disk)) (recipes_told (g.D.Disk.told c.put_on-answer.new.disk)) c.put_on-answer.result)
    c.self.view_is c.put_on-answer.ensures.done.leaves

pub returns-clause-same : goal.returns-clause-same
returns-clause-same g c = (ap (λ (v : RecipeView g.row.D.Denot). v.slots) c.self.view_is, refl)

pub returns-clause-sound : goal.returns-clause-sound
returns-clause-sound g c = ready_unless g.D.Disk _ _ c.has_put_failed-self-inside.ensures c.put_on-answer.ensures.done.kept

pub returns-clause-cause : goal.returns-clause-cause
returns-clause-cause g c =
    subst (λ (v : RecipeView g.row.D.Denot). HasKeeperCause (put_failed c.put_on-answer.result) (g.D.Disk.health v.disk).faults (g.D.Disk.health c.put_on-answer.new.disk).faults)
    c.self.view_is (same_cause _ _ _ _ (put_fails c.put_on-answer.result) c.put_on-answer.ensures.done.made.cause)

pub returns-clause-done : goal.returns-clause-done
returns-clause-done g c =
    subst (λ (v : RecipeView g.row.D.Denot). PutsOn g.D.Disk v.disk c.put_on-answer.new.disk v.slots c.args.name.now c.args.body.now c.put_on-answer.result) c.self.view_is c.put_on-answer.ensures.done

pub put_on-answer-requires-clause-known : goal.put_on-answer-requires-clause-known
put_on-answer-requires-clause-known g c =
    known_ready c.self.inside.failed _ _ _ (subst (IsReady g.D.Disk) (sym c.self.view_is) c.requires.sound).going c.self.invariant

pub invariant_of-self : goal.invariant_of-self
invariant_of-self g c =
    subst (λ b. KnowsUnless b (g.D.Disk.told c.put_on-answer.new.disk) c.self.inside.slots c.put_on-answer.new.hints) (sym c.has_put_failed-self-inside.ensures)
    c.put_on-answer.ensures.known
