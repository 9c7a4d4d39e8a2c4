-- The law, by the lemmas of `Written`.

use Rattle.line_end.proofs.Written.{frames_own}
use Rattle.line_end.proofs.laws.frames_are_own.Goals as goal

pub returns : goal.returns
returns c = frames_own
