-- How many bytes were fed: as many as those are of which it is the check.

use Rattle.std.proofs.Common.{ap, ◌∙◌}
use Rattle.secs_items.specs.Checking.{Checking}
use Rattle.secs_items.proofs.CheckLaws.{fed_is}
use Rattle.secs_items.proofs.body_check.BodyCheck.fed.Goals as goal

pub returns-clause-stands : goal.returns-clause-stands
returns-clause-stands c = λ bytes stands. ap (λ (check : Checking). check.fed) (c.self.view_is ∙ stands) ∙ fed_is bytes
