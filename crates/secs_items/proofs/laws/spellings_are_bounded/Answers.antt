-- The law, by the lemmas of `Least`.

use Rattle.secs_items.proofs.Least.{none_deeper, none_shorter, too_deep}
use Rattle.secs_items.proofs.laws.spellings_are_bounded.Goals as goal

pub returns-clause-short : goal.returns-clause-short
returns-clause-short c = none_shorter

pub returns-clause-shallow : goal.returns-clause-shallow
returns-clause-shallow c = none_deeper

pub returns-clause-deep : goal.returns-clause-deep
returns-clause-deep c = too_deep
