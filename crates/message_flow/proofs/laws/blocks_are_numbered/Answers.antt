-- The law, by the lemmas of `Numbered`.

use Rattle.message_flow.proofs.Numbered.{numbered}
use Rattle.message_flow.proofs.laws.blocks_are_numbered.Goals as goal

pub returns : goal.returns
returns c = numbered
