-- What a slot has room for of the bytes behind the pieces before it.

use Rattle.std.proofs.Common.{ℕ, List, take, ◌∙◌, ap}
use Rattle.spool_slots.proofs.pieces.piece_of.Goals as goal

pub returns-clause-piece : goal.returns-clause-piece
returns-clause-piece c = c.front_of.ensures.front ∙ ap (λ (xs : List ℕ). take 4081 xs) c.split_at.ensures.back

pub returns-clause-len : goal.returns-clause-len
returns-clause-len c = c.front_of.ensures.len
