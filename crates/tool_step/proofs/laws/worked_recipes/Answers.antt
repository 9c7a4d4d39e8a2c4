use Rattle.tool_step.proofs.RecipeRuns.{recipes-are-served}
use Rattle.tool_step.proofs.laws.worked_recipes.Goals as goal

pub returns : goal.returns
returns c = recipes-are-served
