-- What was written spells the item.

use Rattle.secs_items.proofs.SpellLaws.{spells_so}
use Rattle.secs_items.proofs.writing.encode_into.Goals as goal

pub returns-then-is_err-clause-spells : goal.returns-then-is_err-clause-spells
returns-then-is_err-clause-spells c =
    spells_so c.put_item-written.result c.args.item.now _ c.args.into.now c.put_item-written.new.into c.put_item-written.ensures.puts c.put_item-written.ensures.ranges

pub returns-else-is_err-clause-spells : goal.returns-else-is_err-clause-spells
returns-else-is_err-clause-spells c =
    spells_so c.put_item-written.result c.args.item.now _ c.args.into.now c.put_item-written.new.into c.put_item-written.ensures.puts c.put_item-written.ensures.ranges
