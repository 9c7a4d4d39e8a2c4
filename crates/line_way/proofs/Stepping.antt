-- A step of an end, as the calls that it is.
use Rattle.std.proofs.Common.{◌≡◌, ◌≢◌, ◌≤◌, ◌⊎◌, ℕ, ◌+◌, ◌==◌, ◌&&◌, Bool, true, false, List, [], ◌∷◌, ◌++◌, length, map, drop, Option, Some, None, if◌then◌else◌, not, nat_le, nat_lt, slice_index, refl, sym, ap, subst, arith, inl, inr}
use Rattle.std.proofs.lemmas.Bool.Decides.{nat_tests}
use Rattle.block_codec.specs.Block.{BlockView}
use Rattle.block_codec.specs.Frame.{frame_bytes}
use Rattle.block_codec.proofs.Frames.{length-frame_bytes}
use Rattle.gl_base.specs.declared.side.Side.{Side}
use Rattle.gl_base.specs.declared.side.Side.TheVariants.{Equipment, Host}
use Rattle.line_end.specs.declared.event.LineCause.{LineCause}
use Rattle.line_end.specs.declared.event.Phase.{Phase}
use Rattle.line_end.specs.declared.event.Phase.TheVariants.{Idle, AwaitEot, AwaitAck, AwaitLength, Gathering, Settling}
use Rattle.line_end.specs.Frames.{is_frame}
use Rattle.line_end.specs.Runs.{CanCall}
use Rattle.line_end.specs.State.{LineState}
use Rattle.line_end.specs.Step.{ack, enq, eot, LineCall, Outcome, contends, fails_try, frame_of_held, is_due, line_row, line_step, quietly, refuses_at_last}
use Rattle.line_end.specs.Step as row
use Rattle.line_end.specs.Step.LineCall.{Send, Resume, Cancel, Take, Tick}
use Rattle.line_end.specs.Step.LineInput.{Character, Deadline}
use Rattle.line_end.proofs.ByTest.{by_test}
use Rattle.line_order.specs.Acts.{number_after}
use Rattle.line_order.specs.Characters as order
use Rattle.line_way.specs.Kept.{asks_first, control, count_after, framed_from, has_frame, written_as}
use Rattle.line_way.specs.Step.{IsDecision}
use Rattle.line_way.proofs.Calls.{call_written}

-- what the timer leaves
pub record IsTicked (s : LineState) (o : Outcome) : Type 0 where
  pub few : length o.written ≤ 1
  pub asks : o.next.phase ≡ AwaitEot → (o.written ≡ []) ⊎ (o.written ≡ enq ∷ [])
  pub in_gathering : o.next.phase ≡ Gathering → s.phase ≡ Gathering
  pub in_length : o.next.phase ≡ AwaitLength → s.phase ≡ AwaitLength

ticked-quietly : (s : LineState) → IsTicked s (quietly s)
ticked-quietly s = record { few = omega arith; asks = λ _. inl refl; in_gathering = λ is. is; in_length = λ is. is }

ticked-refuses : (s : LineState) (cause : Option LineCause) → IsTicked s (refuses_at_last cause s)
ticked-refuses s None = ticked-quietly s
ticked-refuses s (Some cause) =
    record { few = omega arith; asks = λ is. cc; in_gathering = λ is. cc; in_length = λ is. cc }

ticked-fails : (s : LineState) (now : ℕ) → IsTicked s (fails_try s now)
ticked-fails s now =
    by_test (IsTicked s) (s.try_number == s.times.rty + 1)
    (record { few = omega arith; asks = λ is. cc; in_gathering = λ is. cc; in_length = λ is. cc })
    (record { few = omega arith; asks = λ is. inr refl; in_gathering = λ is. cc; in_length = λ is. cc })

ticked-row : (phase : Phase) (s : LineState) (now : ℕ) → IsTicked s (line_row phase Deadline s now)
ticked-row Idle s now = ticked-quietly s
ticked-row AwaitEot s now = ticked-fails s now
ticked-row AwaitAck s now = ticked-fails s now
ticked-row AwaitLength s now =
    record { few = omega arith; asks = λ is. cc; in_gathering = λ is. cc; in_length = λ is. cc }
ticked-row Gathering s now =
    record { few = omega arith; asks = λ is. cc; in_gathering = λ is. cc; in_length = λ is. cc }
ticked-row Settling s now = ticked-refuses s s.cause

pub ticked : (s : LineState) (now : ℕ) → IsTicked s (line_step s (Tick now))
ticked s now = by_test (IsTicked s) (is_due s.deadline now) (ticked-row s.phase s now) (ticked-quietly s)

-- a character makes an end write a frame in one phase alone
pub record WritesFrame (s : LineState) (o : Outcome) : Type 0 where
  pub before : s.phase ≡ AwaitEot
  pub after : o.next.phase ≡ AwaitAck
  pub block : BlockView
  pub frame : o.written ≡ frame_bytes block

abbrev pub IsTaken : LineState → Outcome → Type 0
IsTaken s o = (length o.written ≤ 1) ⊎ WritesFrame s o

taken-none : (s : LineState) (o : Outcome) → o.written ≡ [] → IsTaken s o
taken-none s o is = inl (omega (arith, ap length is))

taken-one : (s : LineState) (o : Outcome) (byte : ℕ) → o.written ≡ byte ∷ [] → IsTaken s o
taken-one s o byte is = inl (omega (arith, ap length is))

taken-fails : (s : LineState) (now : ℕ) → IsTaken s (fails_try s now)
taken-fails s now =
    by_test (IsTaken s) (s.try_number == s.times.rty + 1) (inl (omega arith)) (inl (omega arith))

taken-contends : (side : Side) (s : LineState) (now : ℕ) → IsTaken s (contends side s now)
taken-contends Equipment s now = inl (omega arith)
taken-contends Host s now = inl (omega arith)

taken-sends : (s : LineState) (o : Outcome) (held : Option BlockView) → s.phase ≡ AwaitEot → o.next.phase ≡ AwaitAck
    → o.written ≡ frame_of_held held → IsTaken s o
taken-sends s o None before after is = taken-none s o is
taken-sends s o (Some block) before after is = inr (record { before = before; after = after; block = block; frame = is })

taken-gathered : (all : List ℕ) (s : LineState) (now : ℕ) → IsTaken s (row.gathered_in all s now)
taken-gathered all s now =
    by_test (IsTaken s) (nat_lt (length all) (slice_index all 0 + 3)) (inl (omega arith))
    (by_test (IsTaken s) (is_frame all) (inl (omega arith)) (inl (omega arith)))

taken-row : (phase : Phase) (s : LineState) (byte now : ℕ) → s.phase ≡ phase → IsTaken s (line_row phase (Character byte) s now)
taken-row Idle s byte now is = by_test (IsTaken s) (byte == enq) (inl (omega arith)) (inl (omega arith))
taken-row AwaitEot s byte now is =
    by_test (IsTaken s) (byte == eot) (taken-sends s _ s.held is refl refl)
    (by_test (IsTaken s) (byte == enq) (taken-contends s.side s now) (inl (omega arith)))
taken-row AwaitAck s byte now is = by_test (IsTaken s) (byte == ack) (inl (omega arith)) (taken-fails s now)
taken-row AwaitLength s byte now is =
    by_test (IsTaken s) (nat_le 10 byte && nat_le byte 254) (inl (omega arith)) (inl (omega arith))
taken-row Gathering s byte now is = taken-gathered (s.gathered ++ byte ∷ []) s now
taken-row Settling s byte now is = inl (omega arith)

pub taken : (s : LineState) (byte now : ℕ) → IsTaken s (line_step s (Take byte now))
taken s byte now = taken-row s.phase s byte now refl

-- decided calls are made in one phase alone
pub record IsDecided (s : LineState) (o : Outcome) : Type 0 where
  pub idle : s.phase ≡ Idle
  pub few : length o.written ≤ 1
  pub still : (o.next.phase ≡ Idle) → o.written ≡ []
  pub other : o.next.phase ≢ Gathering

pub decided : (s : LineState) (call : LineCall) → IsDecision call → CanCall s call → IsDecided s (line_step s call)
decided s (Send block now) is can =
    record { idle = can.idle; few = omega arith; still = λ it. cc; other = λ it. cc }
decided s (Resume now) is can =
    record { idle = can.idle; few = omega arith; still = λ it. cc; other = λ it. cc }
decided s Cancel is can =
    record { idle = can.idle; few = omega arith; still = λ it. refl; other = λ it. cc }
decided s (Take byte now) is can = absurd is
decided s (Tick now) is can = absurd is

-- characters that are no frame
pub few-written : (n : ℕ) (written : List ℕ) → length written ≤ 3
    → (written_as n written ≡ map control written) × (count_after n written ≡ n)
few-written n written few = go (nat_le (length written) 3) (grind (arith, nat_tests))
  where
    go : (b : Bool) → b ≡ true
        → ((if (not b) then (if asks_first written then control enq ∷ framed_from n 0 (drop 1 written) else framed_from n 0 written) else map control written) ≡ map control written)
        × ((if (not b) then n + 1 else n) ≡ n)
    go true same = (refl, refl)
    go false same = cc

pub one-written : (n : ℕ) (written : List ℕ) → length written ≤ 1
    → (call_written n written ≡ map control written) × (number_after n written ≡ n)
one-written n written few = go (nat_lt 1 (length written)) (grind (arith, nat_tests))
  where
    go : (b : Bool) → b ≡ false
        → ((if b then framed_from n 0 written else map control written) ≡ map control written)
        × ((if b then n + 1 else n) ≡ n)
    go false is = (refl, refl)
    go true is = cc

-- a frame, and what stands in front of it
pub frame-written : (n : ℕ) (first : List ℕ) (block : BlockView) → (first ≡ []) ⊎ (first ≡ enq ∷ [])
    → (written_as n (first ++ frame_bytes block) ≡ map control first ++ call_written n (frame_bytes block))
    × (count_after n (first ++ frame_bytes block) ≡ number_after n (frame_bytes block))
frame-written n first block (inl none) =
    subst (λ (front : List ℕ). (written_as n (front ++ frame_bytes block) ≡ map control front ++ call_written n (frame_bytes block)) × (count_after n (front ++ frame_bytes block) ≡ number_after n (frame_bytes block)))
    (sym none) (go (has_frame (frame_bytes block)) (order.writes_frame (frame_bytes block)) (asks_first (frame_bytes block)) (grind (arith, nat_tests, length-frame_bytes block)) (grind (arith, nat_tests, length-frame_bytes block)) (grind (arith, nat_tests)))
  where
    go : (b w a : Bool) → b ≡ true → w ≡ true → a ≡ false
        → ((if b then (if a then control enq ∷ framed_from n 0 (drop 1 (frame_bytes block)) else framed_from n 0 (frame_bytes block)) else map control (frame_bytes block)) ≡ (if w then framed_from n 0 (frame_bytes block) else map control (frame_bytes block)))
        × ((if b then n + 1 else n) ≡ (if w then n + 1 else n))
    go true true false _ _ _ = (refl, refl)
    go true true true _ _ other = cc
    go true false a _ other _ = cc
    go false w a other _ _ = cc
frame-written n first block (inr asks) =
    subst (λ (front : List ℕ). (written_as n (front ++ frame_bytes block) ≡ map control front ++ call_written n (frame_bytes block)) × (count_after n (front ++ frame_bytes block) ≡ number_after n (frame_bytes block)))
    (sym asks) (go (has_frame (enq ∷ frame_bytes block)) (order.writes_frame (frame_bytes block)) (grind (arith, nat_tests, length-frame_bytes block)) (grind (arith, nat_tests, length-frame_bytes block)))
  where
    go : (b w : Bool) → b ≡ true → w ≡ true
        → ((if b then control enq ∷ framed_from n 0 (frame_bytes block) else map control (enq ∷ frame_bytes block)) ≡ control enq ∷ (if w then framed_from n 0 (frame_bytes block) else map control (frame_bytes block)))
        × ((if b then n + 1 else n) ≡ (if w then n + 1 else n))
    go true true _ _ = (refl, refl)
    go true false _ other = cc
    go false w other _ = cc
