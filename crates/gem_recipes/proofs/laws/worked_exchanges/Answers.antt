-- The law, by the runs of `Worked`.
use Rattle.gem_recipes.proofs.Worked.{deletes_all, inquires, lists, not_as_stored, not_early, second_number}
use Rattle.gem_recipes.proofs.laws.worked_exchanges.Goals as goal

pub returns : goal.returns
returns c = record {
  stores = deletes_all;
  inquires = inquires;
  lists = lists;
  number = second_number;
  early = not_early;
  disordered = not_as_stored;
}
