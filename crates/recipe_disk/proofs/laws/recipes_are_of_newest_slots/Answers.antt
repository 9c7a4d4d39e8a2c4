-- The law, by the lemmas of `Holders`.
use Rattle.recipe_disk.proofs.Holders.{held, unheld}
use Rattle.recipe_disk.proofs.laws.recipes_are_of_newest_slots.Goals as goal

pub returns : goal.returns
returns c = record { held = held; none = unheld }
