-- The law, by the lemmas of `HyphensEnd`.

use Rattle.command_words.proofs.HyphensEnd.{takes_all}
use Rattle.command_words.proofs.laws.hyphens_end_options.Goals as goal

pub returns : goal.returns
returns c = takes_all
