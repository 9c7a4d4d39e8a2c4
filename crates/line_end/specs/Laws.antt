-- What holds of every run of an end, and of two ends together.
use Rattle.std.specs.Prelude.{◌≡◌, ◌≤◌, ◌↔◌, ◌⊎◌, ℕ, ◌+◌, List, [], ◌∷◌, ◌++◌, length, Option, Some, None, IfSome}
use Rattle.block_codec.specs.Block.{BlockView, IsBlock}
use Rattle.block_codec.specs.Frame.{frame_bytes}
use Rattle.gl_base.specs.declared.side.Side.{Side}
use Rattle.line_end.specs.declared.event.LineEvent.TheVariants.{Arrived, Sent, Failed}
use Rattle.line_end.specs.declared.event.Phase.TheVariants.{Idle, Gathering}
use Rattle.line_end.specs.declared.plan.Times.{Times}
use Rattle.line_end.specs.Exchange.{exchanged, opened}
use Rattle.line_end.specs.Plan.{TimesFit}
use Rattle.line_end.specs.Runs.{CanCall, IsUnderWay, characters, failed_tries, frames_written, outcome_after, state_after, taken_by}
use Rattle.line_end.specs.State.{CanSend, IsLineState, LineState, new_state}
use Rattle.line_end.specs.Step.{eot, LineCall, line_step}
use Rattle.line_end.specs.Step.LineCall.{Send}

-- n + 6 characters, those of both directions together, bring over a block whose header and body are n bytes: ENQ, EOT,
-- n + 3 of the frame, ACK. It arrives unchanged, and both ends are as they were: idle, and what the receiver held it
-- holds (SEMI E4, block transfer)
abbrev pub CleanExchange : Type 0
CleanExchange =
    (sender receiver : LineState) (block : BlockView) (now : ℕ) (at : ℕ → ℕ)
    → IsLineState sender → CanSend sender → IsLineState receiver → receiver.phase ≡ Idle → IsBlock block
    → let n = 10 + length block.body in
    exchanged at (n + 6) (opened sender receiver block now) ≡ record {
      sender = sender;
      receiver = receiver;
      to_receiver = [];
      to_sender = [];
      handed = n + 6;
      sender_told = Sent ∷ [];
      receiver_told = Arrived block ∷ [];
    }

-- from a send on, as long as the transfer is under way and in the call that ends it
pub record LimitsTries (block : BlockView) (start : LineState) (before : List LineCall) (call : LineCall) : Type 0 where
  pub held : (state_after start before).held ≡ Some block
  pub written : frames_written block start (call ∷ before) ≤ start.times.rty + 1
  pub failed :
      ((outcome_after start before call).event ≡ Failed)
      ↔ (failed_tries start (call ∷ before) ≡ start.times.rty + 1)

-- the frame of a block is written at most RTY + 1 times, and Failed is told at the failed try of that number and never
-- else (SEMI E4, retry limit)
abbrev pub TriesAreLimited : Type 0
TriesAreLimited =
    (s : LineState) (block : BlockView) (now : ℕ) (before : List LineCall) (call : LineCall)
    → CanSend s
    → let start = (line_step s (Send block now)).next in
    IsUnderWay start before → CanCall (state_after start before) call → LimitsTries block start before call

-- what is written is nothing or one character, or it is the frame of the block that is held
abbrev pub IsOwn : Option BlockView → List ℕ → Type 0
IsOwn held written =
    (length written ≤ 1) ⊎ ((block : BlockView) × (held ≡ Some block) × (written ≡ frame_bytes block))

-- an end never writes a frame but of the block that it holds (SEMI E4, send)
pub record FramesAreOwn : Type 0 where
  pub written : (s : LineState) (call : LineCall) → IsOwn s.held (line_step s call).written
  pub frame :
      (s : LineState) (call : LineCall) (block : BlockView) → IfSome s.held IsBlock → IsBlock block
      → (line_step s call).written ≡ frame_bytes block → s.held ≡ Some block

-- the calls since the end granted the line gave it the frame of a block, and nothing else
pub record CameWhole (start : LineState) (calls : List LineCall) (block : BlockView) : Type 0 where
  pub since : List LineCall
  pub granting : LineCall
  pub earlier : List LineCall
  pub parts : calls ≡ since ++ granting ∷ earlier
  pub granted : (outcome_after start earlier granting).written ≡ eot ∷ []
  pub frame : characters since ≡ frame_bytes block
  pub last : characters calls ≡ characters (granting ∷ earlier) ++ frame_bytes block

-- the frame of a block that arrives is what came last, all of it after the EOT that asked for it, whatever calls were
-- made (SEMI E4, receive)
abbrev pub ArrivedFramesCame : Type 0
ArrivedFramesCame =
    (side : Side) (times : Times) (before : List LineCall) (call : LineCall) (block : BlockView)
    → let start = new_state side times in
    (outcome_after start before call).event ≡ Arrived block → CameWhole start (call ∷ before) block

-- a new end is in a state, and each call that may be made leads from a state to a state
pub record StatesAreKept : Type 0 where
  pub new : (side : Side) (times : Times) → TimesFit times → IsLineState (new_state side times)
  pub next : (s : LineState) (call : LineCall) → IsLineState s → CanCall s call → IsLineState (line_step s call).next

-- they stay, are dropped, begin with the character that was taken, or go on with it
abbrev pub IsGathered : List ℕ → List ℕ → List ℕ → Type 0
IsGathered old taken new = (new ≡ old) ⊎ ((new ≡ []) ⊎ ((new ≡ taken) ⊎ (new ≡ old ++ taken)))

-- the block is what was gathered with the character that was taken
abbrev pub IsArrived : LineState → LineCall → BlockView → Type 0
IsArrived s call block =
    (s.phase ≡ Gathering) × (s.gathered ++ taken_by call ≡ frame_bytes block) × ((line_step s call).next.gathered ≡ [])

-- it stays, is dropped, or is the one that was given
abbrev pub IsHeld : Option BlockView → LineCall → Option BlockView → Type 0
IsHeld old call new =
    (new ≡ old) ⊎ ((new ≡ None) ⊎ ((block : BlockView) × (now : ℕ) × (call ≡ Send block now) × (new ≡ Some block)))

-- what a layer above wants to know of any call, whatever its row of the table
pub record StepFacts (s : LineState) (call : LineCall) : Type 0 where
  pub gathered : IsGathered s.gathered (taken_by call) (line_step s call).next.gathered
  pub arrived : (block : BlockView) → (line_step s call).event ≡ Arrived block → IsArrived s call block
  pub written : IsOwn s.held (line_step s call).written
  pub held : IsHeld s.held call (line_step s call).next.held
  pub side : (line_step s call).next.side ≡ s.side
  pub times : (line_step s call).next.times ≡ s.times

-- any call changes little
abbrev pub StepsAreSmall : Type 0
StepsAreSmall = (s : LineState) (call : LineCall) → StepFacts s call
