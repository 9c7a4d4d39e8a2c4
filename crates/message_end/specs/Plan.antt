-- The plan of an end, and what follows from it.
use Rattle.std.specs.Prelude.{ℕ, Some}
use Rattle.block_codec.specs.Block.{BlockView}
use Rattle.gl_base.specs.declared.side.Side.{Side}
use Rattle.line_end.specs.declared.plan.LinePlan.{LinePlan}
use Rattle.line_end.specs.State.{LineState, new_state}
use Rattle.message_flow.specs.declared.message.Message.{Message}
use Rattle.message_flow.specs.Blocks.{numbered_block}
use Rattle.message_flow.specs.Receiver.{Receiver}

-- the side of the end, and the parameters of its line
pub record EndPlan : Type 0 where
  pub side : Side
  pub line : LinePlan

-- its line at a start
abbrev pub new_line_of : EndPlan → LineState
new_line_of plan = new_state plan.side plan.line.times

-- its receiver
abbrev pub receiver_of : EndPlan → Receiver
receiver_of plan = record {
  side = plan.side;
  device = Some plan.line.device;
  t4 = plan.line.t4;
  max_body = plan.line.max_body;
}

-- the block of this number of a message that it sends
abbrev pub block_of : EndPlan → Message → ℕ → BlockView
block_of plan message number = numbered_block plan.side plan.line.device message number
