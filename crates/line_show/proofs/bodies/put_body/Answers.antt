-- The text of the item, or that of the first fault.

use Rattle.std.proofs.Common.{sym}
use Rattle.line_show.proofs.ShownBodies.{bad_shown, body_text-item}
use Rattle.line_show.proofs.bodies.put_body.Goals as goal

pub returns-in-Ok-clause-ok : goal.returns-in-Ok-clause-ok
returns-in-Ok-clause-ok c = rw (body_text-item _ _ c.in-Ok.ensures.found) (c.print.ensures.ok)

pub returns-in-Err : goal.returns-in-Err
returns-in-Err c = record {
  ok = bad_shown _ _ _ _ _
      (sym c.if-is_empty.ensures) c.in-Err.ensures.fault c.put_bad.ensures.ok c.put_bad.ensures.named;
  err = c.put_bad.ensures.err;
}
