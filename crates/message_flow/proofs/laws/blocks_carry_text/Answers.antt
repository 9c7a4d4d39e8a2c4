-- The law, by the lemmas of `Numbered`.

use Rattle.message_flow.proofs.Numbered.{carries}
use Rattle.message_flow.proofs.laws.blocks_carry_text.Goals as goal

pub returns : goal.returns
returns c = carries
