-- The words so far and those that are left are all behind the name.

use Rattle.std.proofs.Common.{◌≡◌, ◌++◌, drop}
use Rattle.std.specs.Vec.Iter.{into_iter_items, into_iter_len}
use Rattle.gemline.proofs.arguments.words_of.Given as goal

abbrev pub invariant-words : goal.invariant-words
invariant-words l = l.words.items ++ into_iter_items l.arguments ≡ drop 1 (into_iter_items l.fn.arguments)

abbrev pub decreases-words : goal.decreases-words
decreases-words l = into_iter_len l.arguments
