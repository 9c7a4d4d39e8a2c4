-- What is printed reads as the item, since that is in range.

use Rattle.std.proofs.Common.{Result, Ok, Err}
use Rattle.std.specs.Prelude.{OnOk}
use Rattle.secs_items.specs.declared.item.Item.{Item}
use Rattle.secs_items.specs.Ranges.{InRange}
use Rattle.secs_text.specs.Grammar.{IsShallow, ReadsAs}
use Rattle.secs_text.specs.Text.{text_of}
use Rattle.secs_text.proofs.PrintLaws.{printed_reads}
use Rattle.secs_text.proofs.printing.print.Goals as goal

reads_so : {E : Type 0} (r : Result (Unit {0}) E) (item : Item) → OnOk r (InRange item) → OnOk r (IsShallow item → ReadsAs (text_of item) item)
reads_so (Ok u) item ranges = printed_reads item ranges
reads_so (Err e) item ranges = tt

pub returns-then-is_err-clause-reads : goal.returns-then-is_err-clause-reads
returns-then-is_err-clause-reads c = reads_so c.put_item-printed.result c.args.item.now c.put_item-printed.ensures.ranges

pub returns-else-is_err-clause-reads : goal.returns-else-is_err-clause-reads
returns-else-is_err-clause-reads c = reads_so c.put_item-printed.result c.args.item.now c.put_item-printed.ensures.ranges
