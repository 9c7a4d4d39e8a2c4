-- The law, by the lemmas of `PlainValues`.

use Rattle.command_words.proofs.PlainValues.{takes_plain}
use Rattle.command_words.proofs.laws.plain_words_are_taken.Goals as goal

pub returns : goal.returns
returns c = takes_plain
