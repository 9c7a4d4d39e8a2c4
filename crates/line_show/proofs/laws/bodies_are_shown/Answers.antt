-- The law, by the lemmas of `ShownBodies`.

use Rattle.line_show.proofs.ShownBodies.{body_text-fault, body_text-item}
use Rattle.line_show.proofs.laws.bodies_are_shown.Goals as goal

pub returns : goal.returns
returns c = record { items = body_text-item; faults = body_text-fault }
