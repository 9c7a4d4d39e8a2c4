-- No other item has these bytes.

use Rattle.secs_items.proofs.SpellLaws.{answers_only}
use Rattle.secs_items.proofs.reading.decode.Goals as goal

pub returns-clause-only : goal.returns-clause-only
returns-clause-only c = λ item spelled. answers_only c.args.bytes.now c.read_item.result c.read_item.ensures.found c.read_item.ensures.fault item spelled
