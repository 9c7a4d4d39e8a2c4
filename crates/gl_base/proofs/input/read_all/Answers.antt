-- A read that passes the limit, or whose bytes find no memory, has taken a part from the front.

use Rattle.std.proofs.Common.{arith}
use Rattle.gl_base.proofs.Reading.{took_past, took_unkept}
use Rattle.gl_base.proofs.input.read_all.Goals as goal

pub returns-then-n-limit-clause-bytes : goal.returns-then-n-limit-clause-bytes
returns-then-n-limit-clause-bytes g c =
    took_past _ _ _ _ _ _ _ c.loop-n.invariant.1 c.in-Took.ensures.bytes (omega arith)

pub returns-then-is_err-clause-bytes : goal.returns-then-is_err-clause-bytes
returns-then-is_err-clause-bytes g c = took_unkept _ _ _ _ _ _ _ c.loop-n.invariant.1 c.in-Took.ensures.bytes
