-- No other item has these bytes.

use Rattle.secs_items.proofs.SpellLaws.{checks_only}
use Rattle.secs_items.proofs.item_view.check.Goals as goal

pub returns-clause-only : goal.returns-clause-only
returns-clause-only c = λ item spelled. checks_only c.args.bytes.now c.check_all.result c.check_all.ensures.found c.check_all.ensures.fault item spelled
