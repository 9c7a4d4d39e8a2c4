-- The law, by the lemmas of `Exchanges`.
use Rattle.gem_recipes.proofs.Exchanges.{exchanges}
use Rattle.gem_recipes.proofs.laws.answers_are_exchanges.Goals as goal

pub returns : goal.returns
returns c = exchanges
