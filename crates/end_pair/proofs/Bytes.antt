-- What lawful ends write on their line are bytes.
use Rattle.std.proofs.Common.{◌<◌, suc, ℕ, ◌+◌, ◌/◌, ◌==◌, ◌&&◌, nat_le, nat_lt, Bool, true, false, List, [], ◌∷◌, ◌++◌, length, slice_index, Option, Some, None, arith}
use Rattle.std.specs.Int.{w16, w32, to_be_bytes}
use Rattle.std.specs.List.{All}
use Rattle.block_codec.specs.Block.{BlockView, IsBlock}
use Rattle.block_codec.specs.Frame.{checksum, counted_bytes, frame_bytes}
use Rattle.block_codec.specs.Header.{IsHeader, flag_byte, header_bytes}
use Rattle.block_codec.specs.declared.header.Header.{Header}
use Rattle.gl_base.specs.declared.side.Side.{Side}
use Rattle.gl_base.specs.declared.side.Side.TheVariants.{Equipment, Host}
use Rattle.line_end.specs.declared.event.LineCause.{LineCause}
use Rattle.line_end.specs.declared.event.LineCause.TheVariants.{T1, T2}
use Rattle.line_end.specs.declared.event.Phase.{Phase}
use Rattle.line_end.specs.declared.event.Phase.TheVariants.{Idle, AwaitEot, AwaitAck, AwaitLength, Gathering, Settling}
use Rattle.line_end.specs.Frames.{is_frame}
use Rattle.line_end.specs.State.{LineState}
use Rattle.line_end.specs.Step.{ack, enq, eot, LineCall, LineInput, Outcome, contends, fails_try, frame_of_held, gathered_in, grants, is_due, line_row, line_step, quietly, refuses, refuses_at_last, sends_frame}
use Rattle.line_end.specs.Step.LineCall.{Cancel, Resume, Send, Take, Tick}
use Rattle.line_end.specs.Step.LineInput.{Character, Deadline}
use Rattle.line_end.proofs.ByTest.{by_test}
use Rattle.message_end.specs.Doings.{AreLawful, Doing, IsNoSend, line_of}
use Rattle.message_end.specs.Doings.Doing.{Calls, Does, Gives, Says}
use Rattle.message_end.specs.History.{written_in}
use Rattle.message_end.specs.Plan.{EndPlan}

abbrev pub IsByte : ℕ → Type 0
IsByte byte = byte < 256

abbrev pub AreBytes : List ℕ → Type 0
AreBytes [] = Unit {0}
AreBytes (byte ∷ bytes) = (byte < 256) × AreBytes bytes

from-all : (bytes : List ℕ) → All (λ byte. byte < 256) bytes → AreBytes bytes
from-all [] all = tt
from-all (byte ∷ bytes) all =
    (all 0 byte (omega arith), from-all bytes (λ k d within. all (suc k) d (omega (arith, within))))

pub append : (front bytes : List ℕ) → AreBytes front → AreBytes bytes → AreBytes (front ++ bytes)
append [] bytes one two = two
append (byte ∷ front) bytes one two = (one.0, append front bytes one.1 two)

two_bytes : (n : ℕ) → n < 65536 → AreBytes (to_be_bytes w16 n)
two_bytes n small = (omega (arith, small), (omega (arith, small), tt))

four_bytes : (n : ℕ) → n < 4294967296 → AreBytes (to_be_bytes w32 n)
four_bytes n small = (omega (arith, small), (omega (arith, small), (omega (arith, small), (omega (arith, small), tt))))

flag-byte : (flag : Bool) (low : ℕ) → low < 128 → flag_byte flag low < 256
flag-byte true low small = omega (arith, small)
flag-byte false low small = omega (arith, small)

header-bytes : (header : Header) → IsHeader header → AreBytes (header_bytes header)
header-bytes header is = (
  flag-byte header.from_equipment (header.device / 256) (omega (arith, is.fits.device)),
  (
    omega arith,
    (
      flag-byte header.wait header.stream is.fits.stream,
      (
        is.function,
        (
          flag-byte header.last (header.number / 256) (omega (arith, is.fits.number)),
          (omega arith, four_bytes header.system (omega (arith, is.system))),
        ),
      ),
    ),
  ),
)

frame-bytes : (block : BlockView) → IsBlock block → AreBytes (frame_bytes block)
frame-bytes block is = (
  omega (arith, is.at_most_244),
  append (counted_bytes block) (to_be_bytes w16 (checksum (counted_bytes block)))
      (append (header_bytes block.header) block.body (header-bytes block.header is.header)
      (from-all block.body is.bytes))
      (two_bytes (checksum (counted_bytes block)) (omega arith)),
)

pub behind : (front bytes : List ℕ) → AreBytes (front ++ bytes) → AreBytes bytes
behind [] bytes all = all
behind (byte ∷ front) bytes all = behind front bytes all.1

-- ---- a call

-- the block that is held, if any, is one
abbrev pub HoldsBlock : Option BlockView → Type 0
HoldsBlock None = Unit {0}
HoldsBlock (Some block) = IsBlock block

-- what is written are bytes, and so it is with what is held then
pub record IsClean (o : Outcome) : Type 0 where
  pub bytes : AreBytes o.written
  pub held : HoldsBlock o.next.held

clean-quietly : (s : LineState) → HoldsBlock s.held → IsClean (quietly s)
clean-quietly s held = record { bytes = tt; held = held }

clean-fails : (s : LineState) (now : ℕ) → HoldsBlock s.held → IsClean (fails_try s now)
clean-fails s now held =
    by_test IsClean (s.try_number == s.times.rty + 1) (record { bytes = tt; held = tt })
    (record { bytes = (omega arith, tt); held = held })

clean-grants : (s : LineState) (now : ℕ) → HoldsBlock s.held → IsClean (grants s now)
clean-grants s now held = record { bytes = (omega arith, tt); held = held }

clean-contends : (side : Side) (s : LineState) (now : ℕ) → HoldsBlock s.held → IsClean (contends side s now)
clean-contends Host s now held = clean-grants s now held
clean-contends Equipment s now held = clean-quietly s held

clean-frame : (s : LineState) (now : ℕ) → HoldsBlock s.held → IsClean (sends_frame s now)
clean-frame s now held = record { bytes = go s.held held; held = held }
  where
    go : (h : Option BlockView) → HoldsBlock h → AreBytes (frame_of_held h)
    go None held = tt
    go (Some block) held = frame-bytes block held

clean-refuses : (cause : LineCause) (s : LineState) → HoldsBlock s.held → IsClean (refuses cause s)
clean-refuses cause s held = record { bytes = (omega arith, tt); held = held }

clean-last : (cause : Option LineCause) (s : LineState) → HoldsBlock s.held → IsClean (refuses_at_last cause s)
clean-last None s held = clean-quietly s held
clean-last (Some cause) s held = clean-refuses cause s held

clean-gathered : (all : List ℕ) (s : LineState) (now : ℕ) → HoldsBlock s.held → IsClean (gathered_in all s now)
clean-gathered all s now held =
    by_test IsClean (nat_lt (length all) (slice_index all 0 + 3)) (record { bytes = tt; held = held })
    (by_test IsClean (is_frame all) (record { bytes = (omega arith, tt); held = held })
    (record { bytes = tt; held = held }))

clean-row : (phase : Phase) (input : LineInput) (s : LineState) (now : ℕ) → HoldsBlock s.held
    → IsClean (line_row phase input s now)
clean-row Idle (Character byte) s now held =
    by_test IsClean (byte == enq) (clean-grants s now held) (clean-quietly s held)
clean-row Idle Deadline s now held = clean-quietly s held
clean-row AwaitEot (Character byte) s now held =
    by_test IsClean (byte == eot) (clean-frame s now held)
    (by_test IsClean (byte == enq) (clean-contends s.side s now held) (clean-quietly s held))
clean-row AwaitEot Deadline s now held = clean-fails s now held
clean-row AwaitAck (Character byte) s now held =
    by_test IsClean (byte == ack) (record { bytes = tt; held = tt }) (clean-fails s now held)
clean-row AwaitAck Deadline s now held = clean-fails s now held
clean-row AwaitLength (Character byte) s now held =
    by_test IsClean (nat_le 10 byte && nat_le byte 254) (record { bytes = tt; held = held })
    (record { bytes = tt; held = held })
clean-row AwaitLength Deadline s now held = clean-refuses T2 s held
clean-row Gathering (Character byte) s now held = clean-gathered (s.gathered ++ byte ∷ []) s now held
clean-row Gathering Deadline s now held = clean-refuses T1 s held
clean-row Settling (Character byte) s now held = record { bytes = tt; held = held }
clean-row Settling Deadline s now held = clean-last s.cause s held

clean-call : (s : LineState) (call : LineCall) → IsNoSend call → HoldsBlock s.held → IsClean (line_step s call)
clean-call s (Send block now) other held = absurd other
clean-call s (Resume now) other held = record { bytes = (omega arith, tt); held = held }
clean-call s Cancel other held = record { bytes = tt; held = tt }
clean-call s (Take byte now) other held = clean-row s.phase (Character byte) s now held
clean-call s (Tick now) other held = by_test IsClean (is_due s.deadline now) (clean-row s.phase Deadline s now held)
    (clean-quietly s held)

-- ---- a history

pub record IsWritten (plan : EndPlan) (doings : List Doing) : Type 0 where
  pub bytes : AreBytes (written_in plan doings)
  pub held : HoldsBlock (line_of plan doings).held

pub are-written : (plan : EndPlan) (base : ℕ) (doings : List Doing) → AreLawful plan base doings → IsWritten plan doings
are-written plan base [] lawful = record { bytes = tt; held = tt }
are-written plan base (Does own ∷ before) lawful =
    let is = are-written plan base before lawful.1 in record { bytes = is.bytes; held = is.held }
are-written plan base (Says what ∷ before) lawful =
    let is = are-written plan base before lawful.1 in record { bytes = is.bytes; held = is.held }
are-written plan base (Gives place number block now ∷ before) lawful =
    let is = are-written plan base before lawful.1 in
    record {
      bytes = append (written_in plan before) (enq ∷ []) is.bytes ((omega arith, tt));
      held = lawful.0.in_block;
    }
are-written plan base (Calls call ∷ before) lawful =
    let is = are-written plan base before lawful.1 in
    let next = clean-call (line_of plan before) call lawful.0.no_send is.held in
    record {
      bytes = append (written_in plan before) (line_step (line_of plan before) call).written is.bytes next.bytes;
      held = next.held;
    }
