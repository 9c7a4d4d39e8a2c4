-- What the check says is what is to be said of its bytes.

use Rattle.std.proofs.Common.{ap, ◌∙◌}
use Rattle.secs_items.specs.Checking.{verdict_now}
use Rattle.secs_items.proofs.CheckLaws.{verdict_is}
use Rattle.secs_items.proofs.body_check.BodyCheck.verdict.Goals as goal

pub returns-clause-stands : goal.returns-clause-stands
returns-clause-stands c = λ bytes stands. c.verdict_now.ensures.now ∙ ap verdict_now stands ∙ verdict_is bytes
