-- The law, by the lemmas of `Clean`.

use Rattle.line_end.proofs.Clean.{clean}
use Rattle.line_end.proofs.laws.clean_exchange.Goals as goal

pub returns : goal.returns
returns c = clean
