-- What a host asks of the recipes is owed to them, and what they answer is owed to the host.
use Rattle.std.proofs.Common.{◌≡◌, refl, sym, ap, subst, ◌∙◌, ◌||◌, true, false, cond}
use Rattle.gem_recipes.specs.Asking.{is_change}
use Rattle.gem_recipes.specs.declared.asking.RecipesAsked.{RecipesAsked}
use Rattle.message_end.specs.Core.{EndView}
use Rattle.message_flow.specs.declared.message.Message.{Message}
use Rattle.message_flow.specs.declared.step.StepOut.{StepOut}
use Rattle.tool_step.specs.declared.kind.Kind.{Kind}
use Rattle.tool_step.specs.declared.owed.Owed.TheVariants.{Recipes}
use Rattle.tool_step.specs.Own.{OwnView, ToolTurn, owing, quiet_turn, untold}
use Rattle.tool_step.specs.Recipes.{recipes_turn}
use Rattle.tool_core.proofs.Following.{node}
use Rattle.tool_core.proofs.Turned.{HasTaken}

-- it is asked for
pub owes :
    (asked owned : RecipesAsked) (message primary : Message) (own : OwnView) (core : EndView Kind) (out : StepOut)
    → owned ≡ asked → primary ≡ untold message → (message.wait || is_change owned) ≡ true
    → HasTaken (recipes_turn asked message own) (node own core) out (node (owing (Recipes owned primary) own) core) out
owes asked owned message primary own core out same left is =
    subst (λ (turn : ToolTurn). HasTaken turn (node own core) out (node (owing (Recipes owned primary) own) core) out)
    (ap (λ (m : Message). quiet_turn (owing (Recipes owned m) own)) left
    ∙ sym
    (ap (λ (a : RecipesAsked). recipes_turn a message own) (sym same)
    ∙ ap (λ b. cond b (quiet_turn (owing (Recipes owned (untold message)) own)) (quiet_turn own)) is))
    refl

-- it changes nothing and wants no answer
pub owes_none :
    (asked owned : RecipesAsked) (message : Message) (own : OwnView) (core : EndView Kind) (out : StepOut)
    → owned ≡ asked → (message.wait || is_change owned) ≡ false
    → HasTaken (recipes_turn asked message own) (node own core) out (node own core) out
owes_none asked owned message own core out same is =
    subst (λ (turn : ToolTurn). HasTaken turn (node own core) out (node own core) out)
    (sym
    (ap (λ (a : RecipesAsked). recipes_turn a message own) (sym same)
    ∙ ap (λ b. cond b (quiet_turn (owing (Recipes owned (untold message)) own)) (quiet_turn own)) is))
    refl
