-- The state of one end of the line.
use Rattle.std.specs.Prelude.{◌≡◌, ◌≢◌, ◌⊎◌, ◌≤◌, ◌<◌, ◌+◌, ℕ, List, [], length, slice_index, Option, None, IsSome, IfSome}
use Rattle.block_codec.specs.Block.{BlockView}
use Rattle.gl_base.specs.declared.side.Side.{Side}
use Rattle.line_end.specs.declared.event.LineCause.{LineCause}
use Rattle.line_end.specs.declared.event.Phase.{Phase}
use Rattle.line_end.specs.declared.event.Phase.TheVariants.{Idle, AwaitEot, AwaitAck, Gathering, Settling}
use Rattle.line_end.specs.declared.plan.Times.{Times}
use Rattle.line_end.specs.Plan.{TimesFit}

-- the state of an end: held is the block that is still to go out, and its tries are numbered from 1; gathered is what
-- has come of a frame; cause is the reason where a frame is to be refused; at the deadline the end acts by itself
-- (SEMI E4, block transfer)
pub record LineState : Type 0 where
  pub side : Side
  pub times : Times
  pub phase : Phase
  pub held : Option BlockView
  pub try_number : ℕ
  pub gathered : List ℕ
  pub cause : Option LineCause
  pub deadline : Option ℕ

-- a length byte from 10 to 254 came, and of the characters that it announces and the two of the sum some are missing
-- (SEMI E4, block)
pub record IsBegun (gathered : List ℕ) : Type 0 where
  pub some : 0 < length gathered
  pub at_least_10 : 10 ≤ slice_index gathered 0
  pub at_most_254 : slice_index gathered 0 ≤ 254
  pub missing : length gathered < slice_index gathered 0 + 3

-- what an end knows of itself in each phase (SEMI E4, block transfer)
pub record IsLineState (s : LineState) : Type 0 where
  pub times : TimesFit s.times
  pub counts : IfSome s.held (λ _. 1 ≤ s.try_number)
  pub tries : s.try_number ≤ s.times.rty + 1
  pub free : s.held ≡ None → s.try_number ≡ 0
  pub await_eot : s.phase ≡ AwaitEot → IsSome s.held
  pub await_ack : s.phase ≡ AwaitAck → IsSome s.held
  pub gathering : s.phase ≡ Gathering → IsBegun s.gathered
  pub ungathered : s.phase ≢ Gathering → s.gathered ≡ []
  pub settling : s.phase ≡ Settling → IsSome s.cause
  pub settled : s.phase ≢ Settling → s.cause ≡ None
  pub idle : s.phase ≡ Idle → s.deadline ≡ None
  pub busy : s.phase ≢ Idle → IsSome s.deadline

-- a block may be given to it: it is idle and holds none
pub record CanSend (s : LineState) : Type 0 where
  pub idle : s.phase ≡ Idle
  pub free : s.held ≡ None

-- it is idle and holds a block, as after a yield
pub record HoldsIdle (s : LineState) : Type 0 where
  pub idle : s.phase ≡ Idle
  pub block : IsSome s.held

-- an end at its start: idle, without a block
abbrev pub new_state : Side → Times → LineState
new_state side times = record {
  side = side;
  times = times;
  phase = Idle;
  held = None;
  try_number = 0;
  gathered = [];
  cause = None;
  deadline = None;
}

-- it is in none of the phases in which a frame comes
pub record IsNotReceiving (phase : Phase) : Type 0 where
  pub gathering : phase ≢ Gathering
  pub settling : phase ≢ Settling

-- it has written ENQ or a frame, and awaits EOT or ACK
abbrev pub AwaitsAnswer : Phase → Type 0
AwaitsAnswer phase = (phase ≡ AwaitEot) ⊎ (phase ≡ AwaitAck)
