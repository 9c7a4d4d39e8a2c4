-- Which loss of a step is that of a call of one of its works.
use Rattle.std.proofs.Common.{◌≡◌, refl, sym, ap, subst, arith, zero, suc, ◌+◌, ℕ, List, [], ◌∷◌, ◌++◌, length}
use Rattle.std.proofs.Common.{length-append, map, take, Some}
use Rattle.std.proofs.lemmas.List.{length-map}
use Rattle.std.specs.Prelude.{slice_get}
use Rattle.gem_spool.specs.Standing.{Standing}
use Rattle.message_end.specs.Ends.{Loss, call_of}
use Rattle.trace_log.specs.Log.{Happening}
use Rattle.spool_works.specs.DiskWorks.{DiskWork, front_at, fronts_of, lines_behind, lines_up_to, standing_behind}
use Rattle.spool_works.specs.DiskWorks.{standings_behind}
use Rattle.tool_step.specs.Equipment.{EquipmentView}
use Rattle.tool_step.specs.Losses.{loss_at, losses_of}
use Rattle.gem_spool.specs.Updates.{Left}
use Rattle.spool_works.specs.WorkLosses.{calls_at, lost_calls}
use Rattle.spool_works.proofs.CallPlaces.{call-before, call-behind}
use Rattle.spool_works.proofs.LossCounts.{calls-count, lost-call, lost-count}
use Rattle.spool_works.proofs.OwedLosses.{lefts_of}

-- of all calls with the same front
get-map : {X Y : Type 0} (f : X → Y) (xs : List X) (n : ℕ) (x : X) → slice_get xs n ≡ Some x
    → slice_get (map f xs) n ≡ Some (f x)
get-map f [] n x is = absurd (cc)
get-map f (y ∷ xs) zero x is = ap (λ z. Some (f z)) (let same : y ≡ x = cc in same)
get-map f (y ∷ xs) (suc n) x is = get-map f xs n x is

pub call-map : {X Y : Type 0} (f : X → Y) (xs : List X) (n : ℕ) (x : X) → call_of n xs ≡ Some x
    → call_of n (map f xs) ≡ Some (f x)
call-map f xs zero x is = absurd (cc)
call-map f xs (suc n) x is = get-map f xs n x is

-- at a call of a work behind some others: the loss is that of its place, and so is what is noted by then
pub record IsLossAt
    (s : EquipmentView) (losses : List (Loss EquipmentView)) (call : ℕ) (fronts : List (List Happening)) (place : ℕ)
    (left : Left) : Type 0 where
  pub front : List Happening
  pub bytes : ℕ
  pub is : call_of call losses ≡ Some (loss_at s front (bytes, left))
  pub noted : slice_get fronts place ≡ Some front

pub same-some : {X : Type 0} (one two : X) → Some one ≡ Some two → one ≡ two
same-some one two same = cc

pub loss-of :
    (s : EquipmentView) (works more : List DiskWork) (at : ℕ) (one : DiskWork) (st : Standing)
    (before notes : List Happening) (call : ℕ) (left : Left) → slice_get works at ≡ Some one
    → call_of call (calls_at (standings_behind st (take at works)) one) ≡ Some left
    → IsLossAt s (losses_of s st before (works ++ more) notes) (length (lefts_of st (take at works)) + call)
    (fronts_of before (works ++ more) notes) at left
loss-of s [] more at one st before notes call left place is = absurd (cc)
loss-of s (x ∷ works) more zero one st before notes call left place is =
    let front = front_at x before notes in
    let calls = subst (λ (w : DiskWork). call_of call (calls_at st w) ≡ Some left) (sym (same-some x one place)) is in
    let lost = lost-call st x call left calls in
    let same : call ≡ 0 + call = omega arith in
    record {
      front = front;
      bytes = lost.0;
      is =
          subst
          (λ (k : ℕ).
          call_of k
          (map (loss_at s front) (lost_calls st x)
          ++ losses_of s (standing_behind st x) (lines_up_to x before notes) (works ++ more) (lines_behind x notes))
          ≡ Some (loss_at s front (lost.0, left))) same
          (call-before (map (loss_at s front) (lost_calls st x))
          (losses_of s (standing_behind st x) (lines_up_to x before notes) (works ++ more) (lines_behind x notes)) call
          (loss_at s front (lost.0, left))
          (call-map (loss_at s front) (lost_calls st x) call (lost.0, left) lost.1));
      noted = refl;
    }
loss-of s (x ∷ works) more (suc at) one st before notes call left place is =
    let front = front_at x before notes in
    let behind =
    loss-of s works more at one (standing_behind st x) (lines_up_to x before notes) (lines_behind x notes) call left
    place is in
    let long = length-map (lost_calls st x) (loss_at s front) in
    let lost = lost-count st x in
    let calls = calls-count st x in
    let both = length-append (calls_at st x) (lefts_of (standing_behind st x) (take at works)) in
    let same : length (map (loss_at s front) (lost_calls st x))
    + (length (lefts_of (standing_behind st x) (take at works)) + call)
    ≡ length (calls_at st x ++ lefts_of (standing_behind st x) (take at works)) + call =
    omega (arith, long, lost, calls, both) in
    record {
      front = behind.front;
      bytes = behind.bytes;
      is =
          subst
          (λ (k : ℕ).
          call_of k
          (map (loss_at s front) (lost_calls st x)
          ++ losses_of s (standing_behind st x) (lines_up_to x before notes) (works ++ more) (lines_behind x notes))
          ≡ Some (loss_at s behind.front (behind.bytes, left))) same
          (call-behind (map (loss_at s front) (lost_calls st x))
          (losses_of s (standing_behind st x) (lines_up_to x before notes) (works ++ more) (lines_behind x notes))
          (length (lefts_of (standing_behind st x) (take at works)) + call) (loss_at s behind.front (behind.bytes, left))
          behind.is);
      noted = behind.noted;
    }
