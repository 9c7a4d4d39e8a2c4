-- The text of the item is written, or why there is none is told.

use Rattle.std.proofs.Common.{Err, Ok, refl, ◌∙◌}
use Rattle.gemline_app.proofs.spelling.spell_hex.Goals as goal

pub returns-in-Ok : goal.returns-in-Ok
returns-in-Ok g c = (
  Ok c.as_slice.result.now,
  (c.in-Ok.ensures.0, c.in-Ok.ensures.1, c.as_slice.ensures ∙ c.in-Ok.ensures.2),
  c.write_line.ensures,
)

pub returns-in-Err : goal.returns-in-Err
returns-in-Err g c = (Err c.in-Err.refusal, c.in-Err.ensures, (refl, record { received = refl; health = refl }))
