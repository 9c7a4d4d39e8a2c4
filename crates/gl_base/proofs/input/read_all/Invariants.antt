-- What was read, with what is left, is all that was there, within the limit.

use Rattle.std.proofs.Common.{◌≡◌, ◌≤◌, ◌-◌, ◌++◌, length}
use Rattle.std.specs.Option.{option_map}
use Rattle.gl_base.specs.Source.{IsReadOn}
use Rattle.gl_base.proofs.input.read_all.Given as goal

abbrev pub invariant-loop-n : goal.invariant-loop-n
invariant-loop-n g l =
    let left = g.R.Source.left in
    (length l.all ≤ l.limit) × (option_map (λ rest. l.all ++ rest) (left l.source) ≡ left l.fn.source)
    × IsReadOn (g.R.Source.health l.fn.source) (g.R.Source.health l.source)

abbrev pub decreases-loop-n : goal.decreases-loop-n
decreases-loop-n g l = l.limit - length l.all
