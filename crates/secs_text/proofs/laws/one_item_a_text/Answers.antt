-- The law, by the lemmas of `TextLaws`.

use Rattle.secs_text.proofs.TextLaws.{one_value}
use Rattle.secs_text.proofs.laws.one_item_a_text.Goals as goal

pub returns : goal.returns
returns c = one_value
