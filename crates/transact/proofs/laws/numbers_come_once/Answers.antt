-- The law, by the lemmas of `Draws`.

use Rattle.std.proofs.Common.{refl, ◌+◌}
use Rattle.transact.proofs.Draws.{once}
use Rattle.transact.proofs.laws.numbers_come_once.Goals as goal

pub returns : goal.returns
returns c = λ first count more. once count more first (first + count) refl
