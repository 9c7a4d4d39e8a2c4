-- What is left behind an entry breaks where all does.

use Rattle.std.proofs.Common.{◌∙◌, length, arith}
use Rattle.setup_store.proofs.ReadLists.{breaks_behind}
use Rattle.setup_store.proofs.reading.list_break.Goals as goal

pub entries-preserved : goal.entries-preserved
entries-preserved c = (
  omega (arith, c.in-Ok.ensures.within, c.entries.invariant.0),
  breaks_behind (length c.args.list.now) c.entries.rest.now _ c.in-Ok.ensures.ok ∙ c.entries.invariant.1,
)
