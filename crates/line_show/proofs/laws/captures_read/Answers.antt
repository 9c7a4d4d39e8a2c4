-- The law, by the lemmas of `Existence`.

use Rattle.std.proofs.Common.{length, arith}
use Rattle.line_show.proofs.Existence.{reads}
use Rattle.line_show.proofs.laws.captures_read.Goals as goal

pub returns : goal.returns
returns c = λ capture all. reads (length capture) capture (omega arith) all 0
