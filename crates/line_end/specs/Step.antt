-- The block transfer between the two ends of a line, as the table of one end.
use Rattle.std.specs.Prelude.{ℕ, Bool, false, ◌+◌, ◌==◌, ◌&&◌, nat_le, nat_lt, List, [], ◌∷◌, ◌++◌, length, slice_index, Option, Some, None, if◌then◌else◌}
use Rattle.block_codec.specs.Block.{BlockView}
use Rattle.block_codec.specs.Frame.{frame_bytes}
use Rattle.gl_base.specs.declared.side.Side.{Side}
use Rattle.gl_base.specs.declared.side.Side.TheVariants.{Equipment, Host}
use Rattle.line_end.specs.declared.event.LineCause.{LineCause}
use Rattle.line_end.specs.declared.event.LineCause.TheVariants.{Length, T1, T2}
use Rattle.line_end.specs.declared.event.LineEvent.{LineEvent}
use Rattle.line_end.specs.declared.event.LineEvent.TheVariants.{Nothing, Arrived, Sent, Failed, Refused}
use Rattle.line_end.specs.declared.event.Phase.{Phase}
use Rattle.line_end.specs.declared.event.Phase.TheVariants.{Idle, AwaitEot, AwaitAck, AwaitLength, Gathering, Settling}
use Rattle.line_end.specs.Frames.{block_in, is_frame, sum_cause}
use Rattle.line_end.specs.State.{LineState}

-- the control characters of the line (SEMI E4, handshake codes)
abbrev pub enq : ℕ
enq = 5

abbrev pub eot : ℕ
eot = 4

abbrev pub ack : ℕ
ack = 6

abbrev pub nak : ℕ
nak = 21

-- a call of an end, with its moment in milliseconds
pub data LineCall : Type 0 where
  Send : (block : BlockView) (now : ℕ) → LineCall
  Resume : (now : ℕ) → LineCall
  Cancel : LineCall
  Take : (byte now : ℕ) → LineCall
  Tick : (now : ℕ) → LineCall

-- what an end meets in a phase: a character, or its deadline
pub data LineInput : Type 0 where
  Character : (byte : ℕ) → LineInput
  Deadline : LineInput

-- what a call leaves: the next state, the characters that it has written, and what it tells
pub record Outcome : Type 0 where
  pub next : LineState
  pub written : List ℕ
  pub event : LineEvent

-- the end goes on, and has neither written nor told anything
abbrev pub quietly : LineState → Outcome
quietly next = record { next = next; written = []; event = Nothing }

-- a wait of at most T1, or of at most T2, begins (SEMI E4, T1 and T2)
abbrev pub within_t1 : LineState → ℕ → Option ℕ
within_t1 s now = Some (now + s.times.t1)

abbrev pub within_t2 : LineState → ℕ → Option ℕ
within_t2 s now = Some (now + s.times.t2)

-- ENQ is written, EOT awaited (SEMI E4, line control)
abbrev pub asks : LineState → ℕ → Outcome
asks s now = record {
  next = record s { phase = AwaitEot; deadline = within_t2 s now };
  written = enq ∷ [];
  event = Nothing;
}

-- EOT is written, the length byte awaited; a held block stays held (SEMI E4, line control)
abbrev pub grants : LineState → ℕ → Outcome
grants s now = record {
  next = record s { phase = AwaitLength; deadline = within_t2 s now };
  written = eot ∷ [];
  event = Nothing;
}

-- both ends have asked: the slave yields and its try doesn't count, the master goes on waiting (SEMI E4, contention)
abbrev pub contends : Side → LineState → ℕ → Outcome
contends Host s now = grants s now
contends Equipment s now = quietly s

-- the frame of a block (SEMI E4, block)
abbrev pub frame_of_held : Option BlockView → List ℕ
frame_of_held None = []
frame_of_held (Some block) = frame_bytes block

-- the frame is written, ACK awaited (SEMI E4, send)
abbrev pub sends_frame : LineState → ℕ → Outcome
sends_frame s now = record {
  next = record s { phase = AwaitAck; deadline = within_t2 s now };
  written = frame_of_held s.held;
  event = Nothing;
}

-- the end is idle and holds no block any more
abbrev pub without_block : LineState → LineState
without_block s = record s { phase = Idle; held = None; try_number = 0; deadline = None }

-- the transfer of the held block ends, well or not (SEMI E4, completion)
abbrev pub ends_with : LineEvent → LineState → Outcome
ends_with event s = record { next = without_block s; written = []; event = event }

-- a try has failed: the last of RTY + 1 tries ends it, after another one the end asks again (SEMI E4, retry limit)
abbrev pub fails_try : LineState → ℕ → Outcome
fails_try s now =
    if s.try_number == s.times.rty + 1 then ends_with Failed s
    else asks (record s { try_number = s.try_number + 1 }) now

-- the characters of a frame so far, and more to come (SEMI E4, receive)
abbrev pub gathers : List ℕ → LineState → ℕ → Outcome
gathers gathered s now =
    quietly (record s { phase = Gathering; gathered = gathered; deadline = within_t1 s now })

-- the frame is bad for this cause, which the end says when the line is quiet (SEMI E4, receive)
abbrev pub settles : LineCause → LineState → ℕ → Outcome
settles cause s now =
    quietly (record s { phase = Settling; gathered = []; cause = Some cause; deadline = within_t1 s now })

-- ACK is written, and the block has arrived (SEMI E4, receive)
abbrev pub arrives : BlockView → LineState → Outcome
arrives block s = record {
  next = record s { phase = Idle; gathered = []; deadline = None };
  written = ack ∷ [];
  event = Arrived block;
}

-- NAK is written, and the frame is refused (SEMI E4, receive)
abbrev pub refuses : LineCause → LineState → Outcome
refuses cause s = record {
  next = record s { phase = Idle; gathered = []; cause = None; deadline = None };
  written = nak ∷ [];
  event = Refused cause;
}

-- at the deadline of a bad frame: for the cause that is kept
abbrev pub refuses_at_last : Option LineCause → LineState → Outcome
refuses_at_last (Some cause) s = refuses cause s
refuses_at_last None s = quietly s

-- the characters with the newest one: more to come; the last one, and the frame of a block; the last one, and another
-- sum (SEMI E4, receive)
abbrev pub gathered_in : List ℕ → LineState → ℕ → Outcome
gathered_in characters s now =
    if nat_lt (length characters) (slice_index characters 0 + 3) then gathers characters s now
    else if is_frame characters then arrives (block_in characters) s
    else settles (sum_cause characters) s now

-- the table of the block transfer: phase, input, and what follows (SEMI E4, block transfer). That characters other than
-- EOT and ENQ are passed over where EOT is awaited, and that all but ACK count as NAK where ACK is, is this profile's
abbrev pub line_row : Phase → LineInput → LineState → ℕ → Outcome
line_row Idle (Character byte) s now =
    if byte == enq then grants s now
    else quietly s
line_row Idle Deadline s now = quietly s
line_row AwaitEot (Character byte) s now =
    if byte == eot then sends_frame s now
    else if byte == enq then contends s.side s now
    else quietly s
line_row AwaitEot Deadline s now = fails_try s now
line_row AwaitAck (Character byte) s now =
    if byte == ack then ends_with Sent s
    else fails_try s now
line_row AwaitAck Deadline s now = fails_try s now
line_row AwaitLength (Character byte) s now =
    if nat_le 10 byte && nat_le byte 254 then gathers (byte ∷ []) s now
    else settles (Length byte) s now
line_row AwaitLength Deadline s now = refuses T2 s
line_row Gathering (Character byte) s now = gathered_in (s.gathered ++ byte ∷ []) s now
line_row Gathering Deadline s now = refuses T1 s
line_row Settling (Character byte) s now =
    quietly (record s { deadline = within_t1 s now })
line_row Settling Deadline s now = refuses_at_last s.cause s

-- what a character brings in a phase
abbrev pub character_in : Phase → LineState → ℕ → ℕ → Outcome
character_in phase s byte now = line_row phase (Character byte) s now

-- the deadline has come: the moment is not before it (SEMI E4, timers)
abbrev pub is_due : Option ℕ → ℕ → Bool
is_due None now = false
is_due (Some deadline) now = nat_le deadline now

-- one call of an end. A block to send is held, and its first try begins; resume begins the present try again, and
-- cancel drops the block (SEMI E4, block transfer; resume and cancel are this profile's)
abbrev pub line_step : LineState → LineCall → Outcome
line_step s (Send block now) = asks (record s { held = Some block; try_number = 1 }) now
line_step s (Resume now) = asks s now
line_step s Cancel = quietly (without_block s)
line_step s (Take byte now) = line_row s.phase (Character byte) s now
line_step s (Tick now) =
    if is_due s.deadline now then line_row s.phase Deadline s now
    else quietly s
