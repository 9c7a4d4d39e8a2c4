-- One write more took some of the bytes that are left, from the front.

use Rattle.std.proofs.Common.{arith, refl}
use Rattle.gl_base.proofs.Appending.{took_more}
use Rattle.gl_base.proofs.copying.copy_out.Goals as goal

pub loop-at-preserved : goal.loop-at-preserved
loop-at-preserved g c = (
  omega (arith, c.in-Took.ensures.within),
  took_more _ _ _ _ refl c.in-Took.ensures.within.1 c.loop-at.invariant.1 c.in-Took.ensures.bytes c.in-Took.ensures.cause,
)
