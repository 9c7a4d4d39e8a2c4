-- The law, by the lemmas of `Numbers`.
use Rattle.gem_recipes.proofs.Numbers.{above, gets_next}
use Rattle.gem_recipes.proofs.laws.numbers_rise.Goals as goal

pub returns : goal.returns
returns c = record { above = above; stored = gets_next }
