-- Bytes that are passed over in one move.

use Rattle.std.proofs.Common.{arith}
use Rattle.secs_items.proofs.Passing.{passes_front}
use Rattle.secs_items.proofs.body_check.BodyCheck.feed_some.Goals as goal

pub returns-clause-fed : goal.returns-clause-fed
returns-clause-fed c =
    let count = c.min-count.result in
    passes_front c.args.self.now c.pass.new.self c.args.piece.now c.split_at.result.0.now c.split_at.result.1.now count
    c.split_at.ensures.front c.split_at.ensures.back (omega (arith, c.min-count.ensures))
    (c.idle.ensures count (omega (arith, c.min-count.ensures))) c.pass.ensures
