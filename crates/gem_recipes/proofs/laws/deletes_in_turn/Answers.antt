-- The law, by the lemmas of `History`.
use Rattle.gem_recipes.proofs.History.{named_in_turn, none_left}
use Rattle.gem_recipes.proofs.laws.deletes_in_turn.Goals as goal

pub returns : goal.returns
returns c = record { named = named_in_turn; all = none_left }
