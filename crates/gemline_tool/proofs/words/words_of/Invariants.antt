-- Each turn takes a word off those that are left.

use Rattle.std.specs.Vec.Iter.{into_iter_len}
use Rattle.gemline_tool.proofs.words.words_of.Given as goal

abbrev pub decreases-words : goal.decreases-words
decreases-words l = into_iter_len l.arguments
