-- The law, by the lemmas of `OtherNames`.

use Rattle.command_words.proofs.OtherNames.{refuses_others}
use Rattle.command_words.proofs.laws.other_names_are_refused.Goals as goal

pub returns : goal.returns
returns c = refuses_others
