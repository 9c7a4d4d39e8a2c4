-- Without the message in front the queue stays a queue.

use Rattle.message_flow.proofs.Queue.{front-left}
use Rattle.message_flow.proofs.outgoing.Outgoing.drop_front.Goals as goal

pub invariant_of-self-2 : goal.invariant_of-self-2
invariant_of-self-2 c = front-left _ _ c.self.inside.waiting.items _ c.self.invariant c.pop_front.ensures.rest
