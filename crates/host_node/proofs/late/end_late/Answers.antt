-- What T4 drops and then what T3 ends, unless the first stops.

use Rattle.std.proofs.Common.{replicate}
use Rattle.message_end.specs.Parts.{on_the_way}
use Rattle.host_node.specs.Host.{drops, expires, late_duties}
use Rattle.host_node.proofs.Overdue.{both_err, both_ok}
use Rattle.host_node.proofs.late.end_late.Goals as goal

pub returns-in-Ok-clause-does : goal.returns-in-Ok-clause-does
unfolding late_duties
returns-in-Ok-clause-does c =
    both_ok (replicate 16 (drops c.args.now)) (replicate 64 (expires c.args.now))
    (on_the_way c.args.core.now c.args.out.now) c.drop_all.new.core c.expire_all.new.core c.drop_all.new.out
    c.expire_all.new.out c.expire_all.result c.in-Ok.ensures.does c.expire_all.ensures.does

pub returns-in-Err-clause-does : goal.returns-in-Err-clause-does
unfolding late_duties
returns-in-Err-clause-does c =
    both_err (replicate 16 (drops c.args.now)) (replicate 64 (expires c.args.now))
    (on_the_way c.args.core.now c.args.out.now) c.drop_all.new.core c.drop_all.new.out c.in-Err.stop
    c.in-Err.ensures.does
