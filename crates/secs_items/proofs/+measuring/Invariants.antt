-- The length of the spellings so far.

use Rattle.std.proofs.Common.{◌≡◌, length, take}
use Rattle.std.specs.List.{flat_map}
use Rattle.secs_items.specs.Measures.{capped}
use Rattle.secs_items.specs.Spelling.{shortest_spelling}
use Rattle.secs_items.proofs.+measuring.Given as goal

abbrev pub invariant-measures::spelled_len_of_all-loop-item : goal.invariant-measures::spelled_len_of_all-loop-item
invariant-measures::spelled_len_of_all-loop-item l = l.all ≡ capped (length (flat_map shortest_spelling (take l.item-index l.items)))
