-- The item of the body decides; a body that is none doesn't establish.

use Rattle.std.proofs.Common.{ap, ◌∙◌}
use Rattle.host_node.specs.Replies.{establishes_item}
use Rattle.host_node.proofs.Reading.{established, faulty}
use Rattle.host_node.proofs.replies.is_established_by.Goals as goal

pub returns-in_ok-item-in-Ok : goal.returns-in_ok-item-in-Ok
returns-in_ok-item-in-Ok c =
    c.establishes.ensures ∙ ap establishes_item c.in_ok-item-in-Ok.ensures
    ∙ established c.in-Ok.view.item c.args.body.now c.in-Ok.ensures.found

pub returns-in-Err : goal.returns-in-Err
returns-in-Err c = faulty c.args.body.now c.in-Err.field-0 c.in-Err.ensures.fault
