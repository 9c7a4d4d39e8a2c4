-- All of it computes.

use Rattle.std.proofs.Common.{refl}
use Rattle.gem_trace.proofs.laws.two_samples_are_worked.Goals as goal

pub returns : goal.returns
returns c = record {
  taken = refl;
  early = refl;
  due = refl;
  over = refl;
  long = refl;
  group = refl;
  unknown = refl;
  short = refl;
  shortest = refl;
}
