-- What is too long is refused as such, and all else for want of a slot.
use Rattle.std.proofs.Common.{◌∙◌, ap, refl, Some, subst, sym}
use Rattle.std.specs.FinMap.{empty}
use Rattle.gem_recipes.specs.declared.keeper.RecipePut.{RecipePut}
use Rattle.gem_recipes.specs.Keeper.{AnswersPut, HasKeeperCause, IsSoundUnless, PutLeaves, put_failed}
use Rattle.gem_recipes.proofs.Empty.{put_has_not_failed, put_leaves_none, put_refused}
use Rattle.gem_recipes.proofs.no_recipes.NoRecipesRecipeKeeper.put.Goals as goal

pub returns-clause-answer : goal.returns-clause-answer
returns-clause-answer c =
    subst (λ (answer : RecipePut). AnswersPut 0 c.args._name.now c.args.body.now (Some empty) answer)
    (sym c.refusal.ensures)
    (put_refused c.args._name.now c.args.body.now)

pub returns-clause-told : goal.returns-clause-told
returns-clause-told c =
    subst (λ (answer : RecipePut). PutLeaves 0 c.args._name.now c.args.body.now (Some empty) (Some empty) answer)
    (sym c.refusal.ensures)
    (put_leaves_none c.args._name.now c.args.body.now _)

pub returns-clause-sound : goal.returns-clause-sound
returns-clause-sound c =
    subst (λ b. IsSoundUnless b (Unit {0})) (sym (ap put_failed c.refusal.ensures ∙ put_has_not_failed _)) tt

pub returns-clause-cause : goal.returns-clause-cause
returns-clause-cause c =
    subst (λ b. HasKeeperCause b 0 0) (sym (ap put_failed c.refusal.ensures ∙ put_has_not_failed _)) refl
