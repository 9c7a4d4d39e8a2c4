-- What holds of a state is kept by each call.
use Rattle.std.specs.Prelude.{◌≡◌, ◌≢◌, ◌≤◌, ◌<◌, ℕ, Bool, true, false, ◌+◌, ◌==◌, ◌&&◌, nat_le, nat_lt, List, [], ◌∷◌, ◌++◌, length, slice_index, Option, Some, None, IsSome, if◌then◌else◌, refl}
use Rattle.std.proofs.Common.{inl, inr, arith, rules, length-append}
use Rattle.std.proofs.lemmas.Bool.Decides.{nat_tests}
use Rattle.block_codec.specs.Block.{BlockView}
use Rattle.gl_base.specs.declared.side.Side.{Side}
use Rattle.gl_base.specs.declared.side.Side.TheVariants.{Equipment, Host}
use Rattle.line_end.specs.declared.event.LineCause.{LineCause}
use Rattle.line_end.specs.declared.event.LineCause.TheVariants.{Length, T1, T2}
use Rattle.line_end.specs.declared.event.LineEvent.TheVariants.{Failed}
use Rattle.line_end.specs.declared.event.Phase.{Phase}
use Rattle.line_end.specs.declared.event.Phase.TheVariants.{Idle, AwaitEot, AwaitAck, AwaitLength, Gathering, Settling}
use Rattle.line_end.specs.declared.plan.Times.{Times}
use Rattle.line_end.specs.Frames.{block_in, is_frame, sum_cause}
use Rattle.line_end.specs.Plan.{TimesFit}
use Rattle.line_end.specs.Runs.{CanCall}
use Rattle.line_end.specs.State.{AwaitsAnswer, CanSend, IsBegun, IsLineState, IsNotReceiving, LineState, new_state}
use Rattle.line_end.specs.Step.{ack, enq, eot, LineCall, Outcome, arrives, asks, contends, ends_with, fails_try, gathered_in, gathers, grants, is_due, line_row, line_step, refuses, refuses_at_last, sends_frame, settles, without_block}
use Rattle.line_end.specs.Step.LineCall.{Send, Resume, Cancel, Take, Tick}
use Rattle.line_end.specs.Step.LineInput.{Character, Deadline}
use Rattle.line_end.proofs.Arrivals.{decided}
use Rattle.line_end.proofs.ByTest.{by_test}

-- a call leaves a state
abbrev pub KeepsState : Outcome → Type 0
KeepsState o = IsLineState o.next

pub kept-new : (side : Side) (times : Times) → TimesFit times → IsLineState (new_state side times)
kept-new side times fit = search rules

pub kept-asks :
    (s : LineState) (now : ℕ) → IsLineState s → IsNotReceiving s.phase → IsSome s.held
    → IsLineState (asks s now).next
kept-asks s now is receives held = search rules

pub kept-grants :
    (s : LineState) (now : ℕ) → IsLineState s → IsNotReceiving s.phase → IsLineState (grants s now).next
kept-grants s now is receives = search rules

pub kept-without_block : (s : LineState) → IsLineState s → IsNotReceiving s.phase → IsLineState (without_block s)
kept-without_block s is receives = search rules

pub kept-refuses : (cause : LineCause) (s : LineState) → IsLineState s → IsLineState (refuses cause s).next
kept-refuses cause s is = search rules

pub kept-arrives :
    (block : BlockView) (s : LineState) → IsLineState s → s.phase ≡ Gathering
    → IsLineState (arrives block s).next
kept-arrives block s is gathering = search rules

pub kept-settles :
    (cause : LineCause) (s : LineState) (now : ℕ) → IsLineState s → IsLineState (settles cause s now).next
kept-settles cause s now is = search rules

pub kept-gathers :
    (all : List ℕ) (s : LineState) (now : ℕ) → IsLineState s → s.phase ≢ Settling → IsBegun all
    → IsLineState (gathers all s now).next
kept-gathers all s now is receives begun = search rules

pub kept-sends :
    (s : LineState) (now : ℕ) → IsLineState s → s.phase ≡ AwaitEot → IsLineState (sends_frame s now).next
kept-sends s now is awaits = search rules

pub kept-waits :
    (s : LineState) (deadline : ℕ) → IsLineState s → s.phase ≡ Settling
    → IsLineState (record s { deadline = Some deadline })
kept-waits s deadline is settling = search rules

-- phases in which no frame comes
pub not_receiving : (phase : Phase) → AwaitsAnswer phase → IsNotReceiving phase
not_receiving phase (inl is) = record { gathering = λ other. cc; settling = λ other. cc }
not_receiving phase (inr is) = record { gathering = λ other. cc; settling = λ other. cc }

pub not_receiving-idle : (phase : Phase) → phase ≡ Idle → IsNotReceiving phase
not_receiving-idle phase is = record { gathering = λ other. cc; settling = λ other. cc }

-- an end that awaits an answer holds a block
pub awaits-held : (s : LineState) → IsLineState s → AwaitsAnswer s.phase → IsSome s.held
awaits-held s is (inl awaits) = is.await_eot awaits
awaits-held s is (inr awaits) = is.await_ack awaits

-- the first character stays the first
pub first-append : (xs ys : List ℕ) → 0 < length xs → slice_index (xs ++ ys) 0 ≡ slice_index xs 0
first-append [] ys some = absurd (omega arith)
first-append (x ∷ xs) ys some = refl

pub kept-next_try :
    (s : LineState) → IsLineState s → IsSome s.held → s.try_number ≢ s.times.rty + 1
    → IsLineState (record s { try_number = s.try_number + 1 })
kept-next_try s is held more =
    let most = is.tries in
    let tries : s.try_number + 1 ≤ s.times.rty + 1 = omega arith in
    search rules

pub kept-fails :
    (s : LineState) (now : ℕ) → IsLineState s → AwaitsAnswer s.phase → IsLineState (fails_try s now).next
kept-fails s now is awaits = go (s.try_number == s.times.rty + 1) refl
  where
    go : (b : Bool) → (s.try_number == s.times.rty + 1) ≡ b
        → IsLineState (if b then ends_with Failed s else asks (record s { try_number = s.try_number + 1 }) now).next
    go true last = kept-without_block s is (not_receiving s.phase awaits)
    go false more =
        let held = awaits-held s is awaits in
        let other : s.try_number ≢ s.times.rty + 1 = λ same. grind (arith, nat_tests) in
        kept-asks (record s { try_number = s.try_number + 1 }) now (kept-next_try s is held other) (not_receiving s.phase awaits) held

pub kept-contends :
    (side : Side) (s : LineState) (now : ℕ) → IsLineState s → IsNotReceiving s.phase
    → IsLineState (contends side s now).next
kept-contends Host s now is receives = kept-grants s now is receives
kept-contends Equipment s now is receives = is

pub kept-gathered :
    (s : LineState) (byte now : ℕ) → IsLineState s → s.phase ≡ Gathering
    → IsLineState (gathered_in (s.gathered ++ byte ∷ []) s now).next
kept-gathered s byte now is gathering =
    go (nat_lt (length (s.gathered ++ byte ∷ [])) (slice_index (s.gathered ++ byte ∷ []) 0 + 3)) (is_frame (s.gathered ++ byte ∷ [])) refl
  where
    go : (more framed : Bool) → nat_lt (length (s.gathered ++ byte ∷ [])) (slice_index (s.gathered ++ byte ∷ []) 0 + 3) ≡ more
        → IsLineState (decided (s.gathered ++ byte ∷ []) s now more framed).next
    go true framed more =
        let begun = is.gathering gathering in
        let first = first-append s.gathered (byte ∷ []) begun.some in
        let long = length-append s.gathered (byte ∷ []) in
        let least = begun.at_least_10 in
        let most = begun.at_most_254 in
        let missing : length (s.gathered ++ byte ∷ []) < slice_index (s.gathered ++ byte ∷ []) 0 + 3 =
        grind (arith, nat_tests)
        in
        kept-gathers (s.gathered ++ byte ∷ []) s now is (λ other. cc) (record {
          some = omega arith;
          at_least_10 = omega arith;
          at_most_254 = omega arith;
          missing = missing;
        })
    go false true more = kept-arrives (block_in (s.gathered ++ byte ∷ [])) s is gathering
    go false false more = kept-settles (sum_cause (s.gathered ++ byte ∷ [])) s now is

pub kept-length :
    (s : LineState) (byte now : ℕ) → IsLineState s → s.phase ≡ AwaitLength
    → IsLineState (line_row AwaitLength (Character byte) s now).next
kept-length s byte now is awaits = go (nat_le 10 byte && nat_le byte 254) refl
  where
    go : (b : Bool) → (nat_le 10 byte && nat_le byte 254) ≡ b
        → IsLineState (if b then gathers (byte ∷ []) s now else settles (Length byte) s now).next
    go true right =
        let least : 10 ≤ byte = grind (arith, nat_tests) in
        let most : byte ≤ 254 = grind (arith, nat_tests) in
        kept-gathers (byte ∷ []) s now is (λ other. cc) (record {
          some = omega arith;
          at_least_10 = least;
          at_most_254 = most;
          missing = omega arith;
        })
    go false wrong = kept-settles (Length byte) s now is

pub kept-character :
    (phase : Phase) (s : LineState) (byte now : ℕ) → s.phase ≡ phase → IsLineState s
    → IsLineState (line_row phase (Character byte) s now).next
kept-character Idle s byte now at is =
    by_test KeepsState (byte == enq) (kept-grants s now is (not_receiving-idle s.phase at)) is
kept-character AwaitEot s byte now at is =
    by_test KeepsState (byte == eot) (kept-sends s now is at)
    (by_test KeepsState (byte == enq) (kept-contends s.side s now is (not_receiving s.phase (inl at)))
    is)
kept-character AwaitAck s byte now at is =
    by_test KeepsState (byte == ack) (kept-without_block s is (not_receiving s.phase (inr at)))
    (kept-fails s now is (inr at))
kept-character AwaitLength s byte now at is = kept-length s byte now is at
kept-character Gathering s byte now at is = kept-gathered s byte now is at
kept-character Settling s byte now at is = kept-waits s (now + s.times.t1) is at

pub kept-deadline :
    (phase : Phase) (s : LineState) (now : ℕ) → s.phase ≡ phase → IsLineState s → IsLineState (line_row phase Deadline s now).next
kept-deadline Idle s now at is = is
kept-deadline AwaitEot s now at is = kept-fails s now is (inl at)
kept-deadline AwaitAck s now at is = kept-fails s now is (inr at)
kept-deadline AwaitLength s now at is = kept-refuses T2 s is
kept-deadline Gathering s now at is = kept-refuses T1 s is
kept-deadline Settling s now at is =
    elim s.cause as (λ (cause : Option LineCause). IsLineState (refuses_at_last cause s).next)
    [ None ↦ is | Some cause ↦ kept-refuses cause s is ]

pub kept-held :
    (s : LineState) (block : BlockView) → IsLineState s → CanSend s
    → IsLineState (record s { held = Some block; try_number = 1 })
kept-held s block is can = search rules

pub kept : (s : LineState) (call : LineCall) → IsLineState s → CanCall s call → IsLineState (line_step s call).next
kept s (Send block now) is can =
    kept-asks (record s { held = Some block; try_number = 1 }) now (kept-held s block is can) (not_receiving-idle s.phase can.idle) refl
kept s (Resume now) is can = kept-asks s now is (not_receiving-idle s.phase can.idle) can.block
kept s Cancel is can = kept-without_block s is (not_receiving-idle s.phase can.idle)
kept s (Take byte now) is can = kept-character s.phase s byte now refl is
kept s (Tick now) is can =
    by_test KeepsState (is_due s.deadline now) (kept-deadline s.phase s now refl is) is
