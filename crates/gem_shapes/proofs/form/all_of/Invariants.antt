-- What was read so far.

use Rattle.gem_shapes.proofs.Lists.{IsRead, fits_in}
use Rattle.gem_shapes.proofs.form.all_of.Given as goal

abbrev pub invariant-loop-number : goal.invariant-loop-number
invariant-loop-number g l = IsRead (fits_in g.N.Number.value) l.numbers l.number-index l.row
