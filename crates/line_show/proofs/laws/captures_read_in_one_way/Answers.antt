-- The law, by the lemmas of `Captures`.

use Rattle.line_show.proofs.Captures.{one_reading}
use Rattle.line_show.proofs.laws.captures_read_in_one_way.Goals as goal

pub returns : goal.returns
returns c = one_reading 0
