-- With none due any more, the turns that are left change nothing.

use Rattle.std.proofs.Common.{sym, ◌∙◌}
use Rattle.trace_log.specs.Text.{printed_note}
use Rattle.message_end.specs.Parts.{on_the_way}
use Rattle.host_node.specs.Host.{expires}
use Rattle.host_node.proofs.Overdue.{done_none}
use Rattle.host_node.proofs.late.expire_all.Goals as goal

pub returns-then-not-branch-clause-does : goal.returns-then-not-branch-clause-does
returns-then-not-branch-clause-does c =
    let none = c.in_ok-expire_one.ensures.none c.if-not-branch.true in
    sym c.transactions.invariant.done
    ∙ done_none printed_note c.transactions.left (expires c.args.now)
    (on_the_way c.transactions.core c.transactions.out) none
    ∙ sym none ∙ c.in_ok-expire_one.ensures.carries
