-- The number begins with the first digit.

use Rattle.std.proofs.Common.{◌^◌, refl, arith}
use Rattle.std.proofs.lemmas.Bool.{lt-ltb}
use Rattle.secs_text.proofs.numbers.digits_behind.Goals as goal

pub loop-byte-init : goal.loop-byte-init
loop-byte-init c = (c.args.first, rw (lt-ltb c.args.first (2 ^ 64) c.ranges.first.fits) refl, refl, omega arith)
