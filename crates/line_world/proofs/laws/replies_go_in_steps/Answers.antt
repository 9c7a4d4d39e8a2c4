-- The law, by the lemmas of `Replies`.

use Rattle.line_world.proofs.Replies.{replies-in-steps}
use Rattle.line_world.proofs.laws.replies_go_in_steps.Goals as goal

pub returns : goal.returns
returns c = replies-in-steps
