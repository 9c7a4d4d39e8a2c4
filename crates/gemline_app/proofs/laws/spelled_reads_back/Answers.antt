-- The law, by the lemmas of `ReadBack`.

use Rattle.gemline_app.proofs.ReadBack.{reads_back, spelled_is_hex}
use Rattle.gemline_app.proofs.laws.spelled_reads_back.Goals as goal

pub returns-clause-spelled : goal.returns-clause-spelled
returns-clause-spelled c = spelled_is_hex

pub returns-clause-again : goal.returns-clause-again
returns-clause-again c = reads_back
