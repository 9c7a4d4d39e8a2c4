-- What any one call leaves of an end.
use Rattle.std.specs.Prelude.{◌≡◌, ℕ, ◌+◌, ◌==◌, ◌&&◌, nat_le, nat_lt, [], ◌∷◌, ◌++◌, length, slice_index, Option, Some, None, refl}
use Rattle.std.proofs.Common.{inl, inr}
use Rattle.gl_base.specs.declared.side.Side.{Side}
use Rattle.gl_base.specs.declared.side.Side.TheVariants.{Equipment, Host}
use Rattle.line_end.specs.declared.event.LineCause.{LineCause}
use Rattle.line_end.specs.declared.event.Phase.{Phase}
use Rattle.line_end.specs.declared.event.Phase.TheVariants.{Idle, AwaitEot, AwaitAck, AwaitLength, Gathering, Settling}
use Rattle.line_end.specs.Frames.{is_frame}
use Rattle.line_end.specs.Laws.{IsGathered, IsHeld, StepFacts}
use Rattle.line_end.specs.Runs.{taken_by}
use Rattle.line_end.specs.State.{LineState}
use Rattle.line_end.specs.Step.{ack, enq, eot, LineCall, Outcome, contends, fails_try, gathered_in, is_due, line_row, line_step, quietly, refuses_at_last}
use Rattle.line_end.specs.Step.LineCall.{Send, Resume, Cancel, Take, Tick}
use Rattle.line_end.specs.Step.LineInput.{Character, Deadline}
use Rattle.line_end.proofs.Arrivals.{ended}
use Rattle.line_end.proofs.Written.{own-written}
use Rattle.line_end.proofs.ByTest.{by_test}

-- what an outcome leaves
pub record IsSmall (s : LineState) (call : LineCall) (o : Outcome) : Type 0 where
  pub gathered : IsGathered s.gathered (taken_by call) o.next.gathered
  pub held : IsHeld s.held call o.next.held
  pub side : o.next.side ≡ s.side
  pub times : o.next.times ≡ s.times

small-of :
    {s : LineState} {call : LineCall} {o : Outcome} → IsGathered s.gathered (taken_by call) o.next.gathered
    → IsHeld s.held call o.next.held → o.next.side ≡ s.side → o.next.times ≡ s.times → IsSmall s call o
small-of gathered held side times = record { gathered = gathered; held = held; side = side; times = times }

-- an outcome that leaves both
unmoved :
    {s : LineState} {call : LineCall} {o : Outcome} → o.next.gathered ≡ s.gathered → o.next.held ≡ s.held
    → o.next.side ≡ s.side → o.next.times ≡ s.times → IsSmall s call o
unmoved gathered held side times = small-of (inl gathered) (inl held) side times

-- nothing changes
pub as_before : (s : LineState) (call : LineCall) → IsSmall s call (quietly s)
as_before s call = unmoved refl refl refl refl

-- what was gathered is dropped
pub dropped :
    (s : LineState) (call : LineCall) (cause : Option LineCause) → IsSmall s call (refuses_at_last cause s)
dropped s call None = as_before s call
dropped s call (Some cause) = small-of (inr (inl refl)) (inl refl) refl refl

pub small-fails : (s : LineState) (call : LineCall) (now : ℕ) → IsSmall s call (fails_try s now)
small-fails s call now =
    by_test (IsSmall s call) (s.try_number == s.times.rty + 1) (small-of (inl refl) (inr (inl refl)) refl refl)
    (unmoved refl refl refl refl)

pub small-contends :
    (side : Side) (s : LineState) (call : LineCall) (now : ℕ) → IsSmall s call (contends side s now)
small-contends Host s call now = unmoved refl refl refl refl
small-contends Equipment s call now = unmoved refl refl refl refl

pub small-gathered :
    (s : LineState) (byte now : ℕ)
    → IsSmall s (Take byte now) (gathered_in (s.gathered ++ byte ∷ []) s now)
small-gathered s byte now =
    let all = s.gathered ++ byte ∷ [] in
    by_test (IsSmall s (Take byte now)) (nat_lt (length all) (slice_index all 0 + 3)) (small-of (inr (inr (inr refl))) (inl refl) refl refl)
    (by_test (IsSmall s (Take byte now)) (is_frame all) (small-of (inr (inl refl)) (inl refl) refl refl)
    (small-of (inr (inl refl)) (inl refl) refl refl))

pub small-character :
    (phase : Phase) (s : LineState) (byte now : ℕ)
    → IsSmall s (Take byte now) (line_row phase (Character byte) s now)
small-character Idle s byte now =
    by_test (IsSmall s (Take byte now)) (byte == enq) (unmoved refl refl refl refl) (unmoved refl refl refl refl)
small-character AwaitEot s byte now =
    by_test (IsSmall s (Take byte now)) (byte == eot) (unmoved refl refl refl refl)
    (by_test (IsSmall s (Take byte now)) (byte == enq) (small-contends s.side s (Take byte now) now)
    (unmoved refl refl refl refl))
small-character AwaitAck s byte now =
    by_test (IsSmall s (Take byte now)) (byte == ack) (small-of (inl refl) (inr (inl refl)) refl refl)
    (small-fails s (Take byte now) now)
small-character AwaitLength s byte now =
    by_test (IsSmall s (Take byte now)) (nat_le 10 byte && nat_le byte 254) (small-of (inr (inr (inl refl))) (inl refl) refl refl)
    (small-of (inr (inl refl)) (inl refl) refl refl)
small-character Gathering s byte now = small-gathered s byte now
small-character Settling s byte now = unmoved refl refl refl refl

pub small-deadline :
    (phase : Phase) (s : LineState) (call : LineCall) (now : ℕ)
    → IsSmall s call (line_row phase Deadline s now)
small-deadline Idle s call now = as_before s call
small-deadline AwaitEot s call now = small-fails s call now
small-deadline AwaitAck s call now = small-fails s call now
small-deadline AwaitLength s call now = small-of (inr (inl refl)) (inl refl) refl refl
small-deadline Gathering s call now = small-of (inr (inl refl)) (inl refl) refl refl
small-deadline Settling s call now = dropped s call s.cause

pub small : (s : LineState) (call : LineCall) → IsSmall s call (line_step s call)
small s (Send block now) = small-of (inl refl) (inr (inr (block, now, refl, refl))) refl refl
small s (Resume now) = unmoved refl refl refl refl
small s Cancel = small-of (inl refl) (inr (inl refl)) refl refl
small s (Take byte now) = small-character s.phase s byte now
small s (Tick now) =
    by_test (IsSmall s (Tick now)) (is_due s.deadline now) (small-deadline s.phase s (Tick now) now)
    (as_before s (Tick now))

pub step_facts : (s : LineState) (call : LineCall) → StepFacts s call
step_facts s call =
    let both = small s call in
    record {
      gathered = both.gathered;
      arrived = ended s call;
      written = own-written s call;
      held = both.held;
      side = both.side;
      times = both.times;
    }
