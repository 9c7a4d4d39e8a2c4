-- The message whose block failed waits no longer, and is noted.

use Rattle.std.proofs.Common.{rules}
use Rattle.message_end.proofs.Ended.{failed_one}
use Rattle.message_end.proofs.end.MessageEnd.end_failed.Goals as goal

pub returns-clause-carries : goal.returns-clause-carries
returns-clause-carries g c =
    failed_one c.args.was_open c.args.header.now c.args.self.now c.recall.new.self c.args.out.now c.push.new.self
    c.if-was_open.false (c.recall.ensures.carries c.args.out.now) (search rules)
