-- The law, by the lemmas of `Slips`.

use Rattle.line_order.proofs.Slips.{judged}
use Rattle.line_order.proofs.laws.arrivals_are_judged.Goals as goal

pub returns : goal.returns
returns c = judged
