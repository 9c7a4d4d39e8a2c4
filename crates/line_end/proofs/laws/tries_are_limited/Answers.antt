-- The law, by the lemmas of `Tries`.

use Rattle.line_end.proofs.Tries.{tries_limited}
use Rattle.line_end.proofs.laws.tries_are_limited.Goals as goal

pub returns : goal.returns
returns c = λ s block now before call can_send. tries_limited s block now before call
