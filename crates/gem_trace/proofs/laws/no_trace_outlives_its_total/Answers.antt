-- The history leaves no trace, and the table has one.

use Rattle.std.proofs.Common.{◌≡◌, [], ◌∷◌}
use Rattle.gem_trace.proofs.laws.no_trace_outlives_its_total.Goals as goal

pub returns : goal.returns
returns c = λ trace more stands. let none : trace ∷ more ≡ [] = stands in absurd (cc)
