-- Each message takes a slot, so there are no more messages than slots.

use Rattle.std.proofs.Common.{arith}
use Rattle.spool_ledger.proofs.Keeping.{some-sum}
use Rattle.spool_ledger.proofs.ledger.Ledger.new.Goals as goal

pub of-requires-clause-len : goal.of-requires-clause-len
of-requires-clause-len c =
    let few = some-sum c.args.sizes.now c.requires.each in
    omega (arith, few, c.requires.room, c.requires.most)
