-- The law, by the lemmas of `Due`.

use Rattle.gemline_app.proofs.Due.{whole_capture}
use Rattle.gemline_app.proofs.laws.shows_whole_captures.Goals as goal

pub returns : goal.returns
returns c = whole_capture
