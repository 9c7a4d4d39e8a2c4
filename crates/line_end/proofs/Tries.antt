-- The tries of a block.
use Rattle.std.specs.Prelude.{◌≡◌, ◌≢◌, ◌≤◌, ◌⊎◌, ℕ, Bool, true, false, not, ◌+◌, ◌==◌, ◌&&◌, nat_le, nat_lt, List, [], ◌∷◌, ◌++◌, length, slice_index, Option, Some, None, if◌then◌else◌, refl}
use Rattle.std.specs.Str.{bytes_eq}
use Rattle.std.proofs.Common.{ap, ◌∙◌, inl, inr, arith}
use Rattle.std.proofs.lemmas.Bool.Decides.{nat_tests}
use Rattle.block_codec.specs.Block.{BlockView}
use Rattle.block_codec.specs.Frame.{frame_bytes}
use Rattle.gl_base.specs.declared.side.Side.{Side}
use Rattle.gl_base.specs.declared.side.Side.TheVariants.{Equipment, Host}
use Rattle.line_end.specs.declared.event.LineCause.{LineCause}
use Rattle.line_end.specs.declared.event.LineEvent.TheVariants.{Sent, Failed}
use Rattle.line_end.specs.declared.event.Phase.{Phase}
use Rattle.line_end.specs.declared.event.Phase.TheVariants.{Idle, AwaitEot, AwaitAck, AwaitLength, Gathering, Settling}
use Rattle.line_end.specs.declared.plan.Times.{Times}
use Rattle.line_end.specs.Frames.{is_frame}
use Rattle.line_end.specs.Laws.{LimitsTries}
use Rattle.line_end.specs.Runs.{CanCall, GoesOn, IsUnderWay, failed_tries, fails_in, frames_written, is_failed_try, outcome_after, state_after}
use Rattle.line_end.specs.State.{LineState}
use Rattle.line_end.specs.Step.{ack, enq, eot, LineCall, nak, Outcome, asks, contends, ends_with, fails_try, gathered_in, grants, is_due, line_row, line_step, quietly, refuses_at_last}
use Rattle.line_end.specs.Step.LineCall.{Send, Resume, Cancel, Take, Tick}
use Rattle.line_end.specs.Step.LineInput.{Character, Deadline}
use Rattle.line_end.proofs.ByTest.{by_test}

-- how many frames await their answer
abbrev pub awaited : Phase → ℕ
awaited AwaitAck = 1
awaited _ = 0

pub awaited-at_most : (phase : Phase) → awaited phase ≤ 1
awaited-at_most Idle = omega arith
awaited-at_most AwaitEot = omega arith
awaited-at_most AwaitAck = omega arith
awaited-at_most AwaitLength = omega arith
awaited-at_most Gathering = omega arith
awaited-at_most Settling = omega arith

-- a try stays what it is
pub record IsSameTry (s next : LineState) : Type 0 where
  pub held : next.held ≡ s.held
  pub times : next.times ≡ s.times
  pub number : next.try_number ≡ s.try_number

-- what a call is to the tries of a block: nothing, its frame, a failed try, the last one, or the end
pub data Tried (block : BlockView) (s : LineState) (failed : Bool) (call : LineCall) (o : Outcome) : Type 0 where
  no_try : failed ≡ false → bytes_eq o.written (frame_bytes block) ≡ false → o.event ≢ Failed → IsSameTry s o.next
      → awaited s.phase ≤ awaited o.next.phase → Tried block s failed call o
  framed : failed ≡ false → awaited s.phase ≡ 0 → awaited o.next.phase ≡ 1 → o.event ≢ Failed → IsSameTry s o.next
      → Tried block s failed call o
  failed_try : failed ≡ true → bytes_eq o.written (frame_bytes block) ≡ false → o.event ≢ Failed
      → s.try_number ≢ s.times.rty + 1 → o.next.held ≡ s.held → o.next.times ≡ s.times
      → o.next.try_number ≡ s.try_number + 1 → Tried block s failed call o
  last_try : failed ≡ true → bytes_eq o.written (frame_bytes block) ≡ false → o.event ≡ Failed
      → s.try_number ≡ s.times.rty + 1 → Tried block s failed call o
  ended : failed ≡ false → bytes_eq o.written (frame_bytes block) ≡ false → o.event ≢ Failed
      → (o.event ≡ Sent) ⊎ (call ≡ Cancel) → Tried block s failed call o

-- one character is no frame
pub and_false : (b : Bool) → (b && false) ≡ false
and_false true = refl
and_false false = refl

pub no_frame-one : (c : ℕ) (block : BlockView) → bytes_eq (c ∷ []) (frame_bytes block) ≡ false
no_frame-one c block = and_false (c == 10 + length block.body)

pub same_try : (s : LineState) → IsSameTry s s
same_try s = record { held = refl; times = refl; number = refl }

pub tried-same :
    (block : BlockView) (s : LineState) (call : LineCall) → Tried block s false call (quietly s)
tried-same block s call = no_try refl refl (λ told. cc) (same_try s) (omega arith)

pub tried-grants :
    (block : BlockView) (s : LineState) (call : LineCall) (now : ℕ) → awaited s.phase ≡ 0
    → Tried block s false call (grants s now)
tried-grants block s call now none =
    no_try refl (no_frame-one eot block) (λ told. cc) (record { held = refl; times = refl; number = refl }) (omega arith)

pub tried-contends :
    (block : BlockView) (side : Side) (s : LineState) (call : LineCall) (now : ℕ) → awaited s.phase ≡ 0
    → Tried block s false call (contends side s now)
tried-contends block Host s call now none = tried-grants block s call now none
tried-contends block Equipment s call now none = tried-same block s call

pub tried-fails :
    (block : BlockView) (s : LineState) (call : LineCall) (now : ℕ) → Tried block s true call (fails_try s now)
tried-fails block s call now = go (s.try_number == s.times.rty + 1) refl
  where
    go : (b : Bool) → (s.try_number == s.times.rty + 1) ≡ b
        → Tried block s true call (if b then ends_with Failed s else asks (record s { try_number = s.try_number + 1 }) now)
    go true is = last_try refl refl refl (grind (arith, nat_tests))
    go false is = failed_try refl (no_frame-one enq block) (λ told. cc) (λ same. grind (arith, nat_tests)) refl refl refl

pub tried-gathered :
    (block : BlockView) (all : List ℕ) (s : LineState) (call : LineCall) (now : ℕ) → awaited s.phase ≡ 0
    → Tried block s false call (gathered_in all s now)
tried-gathered block all s call now none =
    let same : IsSameTry s s = same_try s in
    by_test (Tried block s false call) (nat_lt (length all) (slice_index all 0 + 3)) (no_try refl refl (λ told. cc) (record { held = refl; times = refl; number = refl }) (omega arith))
    (by_test (Tried block s false call) (is_frame all) (no_try refl (no_frame-one ack block) (λ told. cc) (record { held = refl; times = refl; number = refl }) (omega arith))
    (no_try refl refl (λ told. cc) (record { held = refl; times = refl; number = refl }) (omega arith)))

-- a character, phase by phase
pub tried-character :
    (block : BlockView) (phase : Phase) (s : LineState) (byte now : ℕ) → s.phase ≡ phase
    → Tried block s (fails_in phase (Take byte now) s.deadline) (Take byte now) (line_row phase (Character byte) s now)
tried-character block Idle s byte now is =
    let none : awaited s.phase ≡ 0 = ap awaited is in
    by_test (Tried block s false (Take byte now)) (byte == enq) (tried-grants block s (Take byte now) now none)
    (tried-same block s (Take byte now))
tried-character block AwaitEot s byte now is =
    let none : awaited s.phase ≡ 0 = ap awaited is in
    by_test (Tried block s false (Take byte now)) (byte == eot) (framed refl none refl (λ told. cc) (record { held = refl; times = refl; number = refl }))
    (by_test (Tried block s false (Take byte now)) (byte == enq) (tried-contends block s.side s (Take byte now) now none)
    (tried-same block s (Take byte now)))
tried-character block AwaitAck s byte now is =
    elim (byte == ack) as (λ (b : Bool). Tried block s (not b) (Take byte now) (if b then ends_with Sent s else fails_try s now))
    [ true ↦ ended refl refl (λ told. cc) (inl refl) | false ↦ tried-fails block s (Take byte now) now ]
tried-character block AwaitLength s byte now is =
    let none : awaited s.phase ≡ 0 = ap awaited is in
    by_test (Tried block s false (Take byte now)) (nat_le 10 byte && nat_le byte 254) (no_try refl refl (λ told. cc) (record { held = refl; times = refl; number = refl }) (omega arith))
    (no_try refl refl (λ told. cc) (record { held = refl; times = refl; number = refl }) (omega arith))
tried-character block Gathering s byte now is = tried-gathered block (s.gathered ++ byte ∷ []) s (Take byte now) now (ap awaited is)
tried-character block Settling s byte now is =
    no_try refl refl (λ told. cc) (record { held = refl; times = refl; number = refl }) (omega arith)

pub tried-refuses :
    (block : BlockView) (cause : Option LineCause) (s : LineState) (now : ℕ) → awaited s.phase ≡ 0
    → Tried block s false (Tick now) (refuses_at_last cause s)
tried-refuses block None s now none = tried-same block s (Tick now)
tried-refuses block (Some cause) s now none =
    no_try refl (no_frame-one nak block) (λ told. cc) (record { held = refl; times = refl; number = refl }) (omega arith)

-- a moment, phase by phase
pub tried-tick :
    (block : BlockView) (phase : Phase) (s : LineState) (now : ℕ) → s.phase ≡ phase
    → Tried block s (fails_in phase (Tick now) s.deadline) (Tick now) (if is_due s.deadline now then line_row phase Deadline s now else quietly s)
tried-tick block Idle s now is =
    by_test (Tried block s false (Tick now)) (is_due s.deadline now) (tried-same block s (Tick now))
    (tried-same block s (Tick now))
tried-tick block AwaitEot s now is =
    elim (is_due s.deadline now) as (λ (b : Bool). Tried block s b (Tick now) (if b then fails_try s now else quietly s))
    [ true ↦ tried-fails block s (Tick now) now | false ↦ tried-same block s (Tick now) ]
tried-tick block AwaitAck s now is =
    elim (is_due s.deadline now) as (λ (b : Bool). Tried block s b (Tick now) (if b then fails_try s now else quietly s))
    [ true ↦ tried-fails block s (Tick now) now | false ↦ tried-same block s (Tick now) ]
tried-tick block AwaitLength s now is =
    by_test (Tried block s false (Tick now)) (is_due s.deadline now) (tried-refuses block (Some _) s now (ap awaited is))
    (tried-same block s (Tick now))
tried-tick block Gathering s now is =
    by_test (Tried block s false (Tick now)) (is_due s.deadline now) (tried-refuses block (Some _) s now (ap awaited is))
    (tried-same block s (Tick now))
tried-tick block Settling s now is =
    by_test (Tried block s false (Tick now)) (is_due s.deadline now) (tried-refuses block s.cause s now (ap awaited is))
    (tried-same block s (Tick now))

-- each call that may be made while the block is held
pub tried :
    (block : BlockView) (s : LineState) (call : LineCall) → s.held ≡ Some block → CanCall s call
    → Tried block s (is_failed_try s call) call (line_step s call)
tried block s (Send other now) holds can =
    let free = can.free in
    cc
tried block s (Resume now) holds can =
    let quiet : fails_in s.phase (Resume now) s.deadline ≡ false =
    ap (λ (p : Phase). fails_in p (Resume now) s.deadline) can.idle
    in
    let none : awaited s.phase ≡ 0 = ap awaited can.idle in
    no_try quiet (no_frame-one enq block) (λ told. cc) (record { held = refl; times = refl; number = refl }) (omega arith)
tried block s Cancel holds can =
    let quiet : fails_in s.phase Cancel s.deadline ≡ false =
    ap (λ (p : Phase). fails_in p Cancel s.deadline) can.idle
    in
    ended quiet refl (λ told. cc) (inr refl)
tried block s (Take byte now) holds can = tried-character block s.phase s byte now refl
tried block s (Tick now) holds can = tried-tick block s.phase s now refl

-- while the transfer is under way
pub record Counts (block : BlockView) (start : LineState) (before : List LineCall) : Type 0 where
  pub held : (state_after start before).held ≡ Some block
  pub times : (state_after start before).times ≡ start.times
  pub number : (state_after start before).try_number ≡ failed_tries start before + 1
  pub below : failed_tries start before ≤ start.times.rty
  pub written : frames_written block start before ≤ failed_tries start before + awaited (state_after start before).phase

-- 1 where a test holds
abbrev pub once : Bool → ℕ
once b = if b then 1 else 0

pub once-at_most : (b : Bool) → once b ≤ 1
once-at_most true = omega arith
once-at_most false = omega arith

abbrev pub failed_once : LineState → List LineCall → LineCall → ℕ
failed_once start before call = once (is_failed_try (state_after start before) call)

abbrev pub wrote_once : BlockView → LineState → List LineCall → LineCall → ℕ
wrote_once block start before call = once (bytes_eq (outcome_after start before call).written (frame_bytes block))

-- one call more
pub counts_on :
    (block : BlockView) (start : LineState) (before : List LineCall) (call : LineCall)
    → Counts block start before → GoesOn (state_after start before) call
    → Tried block (state_after start before) (is_failed_try (state_after start before) call) call (outcome_after start before call)
    → Counts block start (call ∷ before)
counts_on block start before call counts goes (no_try quiet silent untold same waits) =
    let f : failed_once start before call ≡ 0 = ap once quiet in
    let w : wrote_once block start before call ≡ 0 = ap once silent in
    let number = same.number in
    record {
      held = same.held ∙ counts.held;
      times = same.times ∙ counts.times;
      number = omega arith;
      below = omega arith;
      written = omega arith;
    }
counts_on block start before call counts goes (framed quiet none waits untold same) =
    let f : failed_once start before call ≡ 0 = ap once quiet in
    let w : wrote_once block start before call ≤ 1 = once-at_most _ in
    let number = same.number in
    record {
      held = same.held ∙ counts.held;
      times = same.times ∙ counts.times;
      number = omega arith;
      below = omega arith;
      written = omega arith;
    }
counts_on block start before call counts goes (failed_try fails silent untold more held times number) =
    let f : failed_once start before call ≡ 1 = ap once fails in
    let w : wrote_once block start before call ≡ 0 = ap once silent in
    let waits : awaited (state_after start before).phase ≤ 1 = awaited-at_most _ in
    let rty : (state_after start before).times.rty ≡ start.times.rty = ap (λ (t : Times). t.rty) counts.times in
    let last : failed_tries start before + 1 ≢ start.times.rty + 1 =
    λ is. more (counts.number ∙ is ∙ omega arith)
    in
    record {
      held = held ∙ counts.held;
      times = times ∙ counts.times;
      number = omega arith;
      below = omega arith;
      written = omega arith;
    }
counts_on block start before call counts goes (last_try fails silent told last) = absurd (goes.not_failed told)
counts_on block start before call counts goes (ended quiet silent untold (inl sent)) = absurd (goes.not_sent sent)
counts_on block start before call counts goes (ended quiet silent untold (inr cancelled)) = absurd (goes.not_cancelled cancelled)

-- all calls while the transfer is under way
pub counts_all :
    (block : BlockView) (start : LineState) → start.held ≡ Some block → start.try_number ≡ 1 → start.phase ≡ AwaitEot
    → (before : List LineCall) → IsUnderWay start before → Counts block start before
counts_all block start held number phase [] under_way = record {
  held = held;
  times = refl;
  number = number;
  below = omega arith;
  written = omega arith;
}
counts_all block start held number phase (call ∷ before) under_way =
    let counts = counts_all block start held number phase before under_way.1 in
    counts_on block start before call counts under_way.0
    (tried block (state_after start before) call counts.held under_way.0.can)

-- and the call after them
pub tries_end :
    (block : BlockView) (start : LineState) (before : List LineCall) (call : LineCall) → Counts block start before
    → Tried block (state_after start before) (is_failed_try (state_after start before) call) call (outcome_after start before call)
    → LimitsTries block start before call
tries_end block start before call counts (no_try quiet silent untold same waits) =
    let f : failed_once start before call ≡ 0 = ap once quiet in
    let w : wrote_once block start before call ≡ 0 = ap once silent in
    let most : awaited (state_after start before).phase ≤ 1 = awaited-at_most _ in
    record {
      held = counts.held;
      written = omega arith;
      failed = (λ told. absurd (untold told), λ all. absurd (omega arith));
    }
tries_end block start before call counts (framed quiet none waits untold same) =
    let f : failed_once start before call ≡ 0 = ap once quiet in
    let w : wrote_once block start before call ≤ 1 = once-at_most _ in
    record {
      held = counts.held;
      written = omega arith;
      failed = (λ told. absurd (untold told), λ all. absurd (omega arith));
    }
tries_end block start before call counts (failed_try fails silent untold more held times number) =
    let f : failed_once start before call ≡ 1 = ap once fails in
    let w : wrote_once block start before call ≡ 0 = ap once silent in
    let most : awaited (state_after start before).phase ≤ 1 = awaited-at_most _ in
    let rty : (state_after start before).times.rty ≡ start.times.rty = ap (λ (t : Times). t.rty) counts.times in
    record {
      held = counts.held;
      written = omega arith;
      failed = (λ told. absurd (untold told), λ all. absurd (more (omega arith)));
    }
tries_end block start before call counts (last_try fails silent told last) =
    let f : failed_once start before call ≡ 1 = ap once fails in
    let w : wrote_once block start before call ≡ 0 = ap once silent in
    let most : awaited (state_after start before).phase ≤ 1 = awaited-at_most _ in
    let rty : (state_after start before).times.rty ≡ start.times.rty = ap (λ (t : Times). t.rty) counts.times in
    record {
      held = counts.held;
      written = omega arith;
      failed = (λ _. omega arith, λ _. told);
    }
tries_end block start before call counts (ended quiet silent untold why) =
    let f : failed_once start before call ≡ 0 = ap once quiet in
    let w : wrote_once block start before call ≡ 0 = ap once silent in
    let most : awaited (state_after start before).phase ≤ 1 = awaited-at_most _ in
    record {
      held = counts.held;
      written = omega arith;
      failed = (λ told. absurd (untold told), λ all. absurd (omega arith));
    }

-- from a send on
pub tries_limited :
    (s : LineState) (block : BlockView) (now : ℕ) (before : List LineCall) (call : LineCall)
    → IsUnderWay (line_step s (Send block now)).next before
    → CanCall (state_after (line_step s (Send block now)).next before) call
    → LimitsTries block (line_step s (Send block now)).next before call
tries_limited s block now before call under_way can =
    let start = (line_step s (Send block now)).next in
    let counts = counts_all block start refl refl refl before under_way in
    tries_end block start before call counts (tried block (state_after start before) call counts.held can)
