-- With none due any more, the turns that are left change nothing.

use Rattle.std.proofs.Common.{sym, ◌∙◌}
use Rattle.trace_log.specs.Text.{printed_note}
use Rattle.message_end.specs.Parts.{on_the_way}
use Rattle.host_node.specs.Host.{drops}
use Rattle.host_node.proofs.Overdue.{done_none}
use Rattle.host_node.proofs.late.drop_all.Goals as goal

pub returns-then-not-branch-clause-does : goal.returns-then-not-branch-clause-does
returns-then-not-branch-clause-does c =
    let none = c.in_ok-drop_one.ensures.none c.if-not-branch.true in
    sym c.messages.invariant.done
    ∙ done_none printed_note c.messages.left (drops c.args.now) (on_the_way c.messages.core c.messages.out) none
    ∙ sym none ∙ c.in_ok-drop_one.ensures.carries
