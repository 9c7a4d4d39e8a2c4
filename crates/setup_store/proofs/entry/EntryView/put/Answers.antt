-- A body's length fits.

use Rattle.std.proofs.Common.{arith}
use Rattle.setup_store.proofs.entry.EntryView.put.Goals as goal

pub overflow_cast-self : goal.overflow_cast-self
overflow_cast-self c = omega (arith, c.requires)
