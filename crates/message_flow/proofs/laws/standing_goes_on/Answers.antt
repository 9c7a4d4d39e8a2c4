-- The law, by the lemmas of `Standing`.

use Rattle.message_flow.proofs.Standing.{goes-on}
use Rattle.message_flow.proofs.laws.standing_goes_on.Goals as goal

pub returns : goal.returns
returns c = goes-on
