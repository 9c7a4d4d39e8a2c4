-- The law, by the lemma of `History`.
use Rattle.gem_recipes.proofs.History.{looked_back}
use Rattle.gem_recipes.proofs.laws.recipes_are_looked_back_for.Goals as goal

pub returns : goal.returns
returns c = looked_back
