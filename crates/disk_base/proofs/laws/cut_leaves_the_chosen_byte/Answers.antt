-- The law, by the lemmas of `OneByte`.

use Rattle.disk_base.proofs.OneByte.{one_byte_left}
use Rattle.disk_base.proofs.laws.cut_leaves_the_chosen_byte.Goals as goal

pub returns : goal.returns
returns c = one_byte_left
