-- The law, by the lemmas of `WorkedWords`.

use Rattle.command_words.proofs.WorkedWords.{as_worked}
use Rattle.command_words.proofs.laws.words_are_as_worked.Goals as goal

pub returns : goal.returns
returns c = as_worked
