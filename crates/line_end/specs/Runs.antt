-- Calls of one end, one after the other. Lists of calls have the newest first.
use Rattle.std.specs.Prelude.{◌≢◌, ℕ, Bool, false, not, ◌+◌, ◌==◌, List, [], ◌∷◌, ◌++◌, Option, if◌then◌else◌}
use Rattle.std.specs.Str.{bytes_eq}
use Rattle.block_codec.specs.Block.{BlockView}
use Rattle.block_codec.specs.Frame.{frame_bytes}
use Rattle.line_end.specs.declared.event.LineEvent.TheVariants.{Sent, Failed}
use Rattle.line_end.specs.declared.event.Phase.{Phase}
use Rattle.line_end.specs.declared.event.Phase.TheVariants.{AwaitEot, AwaitAck}
use Rattle.line_end.specs.State.{CanSend, HoldsIdle, LineState}
use Rattle.line_end.specs.Step.{ack, LineCall, Outcome, is_due, line_step}
use Rattle.line_end.specs.Step.LineCall.{Send, Resume, Cancel, Take, Tick}

-- the state after the calls
abbrev pub state_after : LineState → List LineCall → LineState
state_after start [] = start
state_after start (call ∷ before) = (line_step (state_after start before) call).next

-- what the call leaves that was made after the others
abbrev pub outcome_after : LineState → List LineCall → LineCall → Outcome
outcome_after start before call = line_step (state_after start before) call

-- the condition on which a call may be made
abbrev pub CanCall : LineState → LineCall → Type 0
CanCall s (Send block now) = CanSend s
CanCall s (Resume now) = HoldsIdle s
CanCall s Cancel = HoldsIdle s
CanCall s (Take byte now) = Unit {0}
CanCall s (Tick now) = Unit {0}

-- the characters that were given to the end, in their order
abbrev pub taken_by : LineCall → List ℕ
taken_by (Take byte now) = byte ∷ []
taken_by _ = []

abbrev pub characters : List LineCall → List ℕ
characters [] = []
characters (call ∷ before) = characters before ++ taken_by call

-- a try fails: EOT or ACK doesn't come in time, or another character answers the frame (SEMI E4, retry limit)
abbrev pub fails_in : Phase → LineCall → Option ℕ → Bool
fails_in AwaitEot (Tick now) deadline = is_due deadline now
fails_in AwaitAck (Tick now) deadline = is_due deadline now
fails_in AwaitAck (Take byte now) deadline = not (byte == ack)
fails_in _ _ deadline = false

abbrev pub is_failed_try : LineState → LineCall → Bool
is_failed_try s call = fails_in s.phase call s.deadline

-- how many tries have failed
abbrev pub failed_tries : LineState → List LineCall → ℕ
failed_tries start [] = 0
failed_tries start (call ∷ before) =
    failed_tries start before + (if is_failed_try (state_after start before) call then 1 else 0)

-- how often the frame of a block was written
abbrev pub frames_written : BlockView → LineState → List LineCall → ℕ
frames_written block start [] = 0
frames_written block start (call ∷ before) =
    frames_written block start before
    + (if bytes_eq (outcome_after start before call).written (frame_bytes block) then 1 else 0)

-- a call that may be made, and that leaves the transfer of the held block under way
pub record GoesOn (s : LineState) (call : LineCall) : Type 0 where
  pub can : CanCall s call
  pub not_cancelled : call ≢ Cancel
  pub not_sent : (line_step s call).event ≢ Sent
  pub not_failed : (line_step s call).event ≢ Failed

-- the transfer is under way after these calls
abbrev pub IsUnderWay : LineState → List LineCall → Type 0
IsUnderWay start [] = Unit {0}
IsUnderWay start (call ∷ before) = GoesOn (state_after start before) call × IsUnderWay start before
