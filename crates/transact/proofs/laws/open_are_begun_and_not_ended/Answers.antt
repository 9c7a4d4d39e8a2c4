-- The law, by the lemmas of `History`.

use Rattle.transact.proofs.History.{open-are}
use Rattle.transact.proofs.laws.open_are_begun_and_not_ended.Goals as goal

pub returns : goal.returns
returns g c = λ t3 calls. open-are t3 calls
