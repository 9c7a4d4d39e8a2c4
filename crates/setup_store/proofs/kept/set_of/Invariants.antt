-- The identifiers so far are in the set.

use Rattle.std.proofs.Common.{take}
use Rattle.setup_store.specs.Kept.{HasSame}
use Rattle.setup_store.proofs.kept.set_of.Given as goal

abbrev pub invariant-loop-id : goal.invariant-loop-id
invariant-loop-id l = HasSame l.set.keys (take l.id-index l.ids)
