-- What some calls and then more calls count and keep.
use Rattle.std.proofs.Common.{◌≡◌, ◌⊎◌, inl, inr, ⊎_elim, ℕ, ◌+◌, suc, ◌-◌, ◌<◌, ◌≤◌, Bool, true, false, List, length, Option, ◌∙◌, refl, sym, ap, subst, arith}
use Rattle.std.proofs.lemmas.Bool.{cases_eq, cases_lt}
use Rattle.disk_base.specs.Calls.{DiskCall, Logs, sync_call, with_call, write_call}
use Rattle.disk_base.specs.Settle.{LogsBoth}
use Rattle.disk_base.specs.Faults.{DiskFault, DiskHealth, GoesAsListed, HasCause, IsAmong, IsCrowded, IsLeftOut, IsPlanned, IsUsed, one_more}
use Rattle.disk_base.specs.declared.disk.DiskAnswer.{DiskAnswer}
use Rattle.disk_base.specs.declared.disk.DiskAnswer.TheVariants.{Done, Failed}

-- of no calls none is to fail
pub none_planned : (a : DiskHealth) → IsPlanned a 0 → ⊥
none_planned a = ⊎_elim (λ is. omega (arith, is.0, is.1)) (⊎_elim (λ is. omega (arith, is.0, is.1)) (λ is. omega (arith, is.1)))

-- no calls at all
pub used_none : (a : DiskHealth) → IsUsed a a 0 0
used_none a = record {
  same = refl;
  calls_left = omega arith;
  room_left = omega arith;
  calls_kept = omega arith;
  room_kept = omega arith;
  fail_left = omega arith;
  stop_left = omega arith;
  unplanned = none_planned a;
  going = refl;
  exact = refl;
  counted = λ goes. omega arith;
  room_is = λ goes. omega arith;
  bounds_kept = refl;
}

among_by : (before now n k all : ℕ) → (before < suc n) ⊎ (suc n ≤ before) → now ≡ before - n → (IsAmong before n → ⊥) → n + k ≡ all →
    IsAmong before all → IsAmong now k
among_by before now n k all (inl early) left none sum is = absurd (none (is.0, omega (arith, early)))
among_by before now n k all (inr late) left none sum is = (omega (arith, left, late), omega (arith, left, late, is.1, sum))

stopped_by : (a b : DiskHealth) (n k all : ℕ) → (0 < n) ⊎ (n ≤ 0) → b.stopped ≡ a.stopped → ((a.stopped ≡ true) × (0 < n) → ⊥) → n + k ≡ all →
    (a.stopped ≡ true) × (0 < all) → (b.stopped ≡ true) × (0 < k)
stopped_by a b n k all (inl some) going none sum is = absurd (none (is.0, some))
stopped_by a b n k all (inr zero) going none sum is = (going ∙ is.0, omega (arith, sum, zero, is.1))

module _ (a b : DiskHealth) (n x : ℕ) (first : IsUsed a b n x) where
  -- where one of all calls is to fail, one of those behind is
  pub planned_behind : (k all : ℕ) → n + k ≡ all → IsPlanned a all → IsPlanned b k
  planned_behind k all sum (inl is) =
      inl (among_by a.fail_in b.fail_in n k all (cases_lt a.fail_in (suc n)) first.fail_left (λ early. first.unplanned (inl early)) sum is)
  planned_behind k all sum (inr (inl is)) =
      inr (inl (among_by a.stop_in b.stop_in n k all (cases_lt a.stop_in (suc n)) first.stop_left (λ early. first.unplanned (inr (inl early))) sum is))
  planned_behind k all sum (inr (inr is)) =
      inr (inr (stopped_by a b n k all (cases_lt 0 n) first.going (λ early. first.unplanned (inr (inr early))) sum is))

  -- and the other way round
  pub planned_before : (k all : ℕ) → n + k ≤ all → IsPlanned b k → IsPlanned a all
  planned_before k all sum (inl is) = inl (omega (arith, first.fail_left, is.0), omega (arith, first.fail_left, is.1, sum))
  planned_before k all sum (inr (inl is)) = inr (inl (omega (arith, first.stop_left, is.0), omega (arith, first.stop_left, is.1, sum)))
  planned_before k all sum (inr (inr is)) = inr (inr (sym first.going ∙ is.0, omega (arith, is.1, sum)))

  -- what is listed behind them comes to what it says, if what was listed first does
  pub lists_on : GoesAsListed a → GoesAsListed b
  lists_on goes = record { exact = first.exact ∙ goes.exact; on = first.going ∙ goes.on }

  pub used_behind : (c : DiskHealth) (k y all both : ℕ) → n + k ≡ all → x + y ≡ both → IsUsed b c k y → IsUsed a c all both
  used_behind c k y all both sum bytes second = record {
    same = second.same ∙ first.same;
    calls_left = omega (arith, sum, first.calls_left, second.calls_left);
    room_left = omega (arith, bytes, first.room_left, second.room_left);
    calls_kept = omega (arith, first.calls_kept, second.calls_kept);
    room_kept = omega (arith, first.room_kept, second.room_kept);
    fail_left = omega (arith, sum, first.fail_left, second.fail_left);
    stop_left = omega (arith, sum, first.stop_left, second.stop_left);
    unplanned = λ is. second.unplanned (planned_behind k all sum is);
    going = second.going ∙ first.going;
    exact = second.exact ∙ first.exact;
    counted = λ goes. omega (arith, sum, first.counted goes, second.counted (lists_on goes));
    room_is = λ goes. omega (arith, bytes, first.room_is goes, second.room_is (lists_on goes));
    bounds_kept = second.bounds_kept ∙ first.bounds_kept;
  }

  pub fault_behind : (c : DiskHealth) (k all : ℕ) (L M : Type 0) → n + k ≤ all → (L → M) → DiskFault b c k L → DiskFault a c all M
  fault_behind c k all L M sum more second = record {
    rose = record {
      by_one = second.rose.by_one ∙ ap one_more first.same;
      later = omega (arith, first.same, second.rose.later);
    };
    made = n + second.made;
    few = omega (arith, sum, second.few);
    unplanned = λ is. second.unplanned (planned_behind second.made (n + second.made) refl is);
    lacking = λ sure. ⊎_elim (λ is. inl (planned_before (second.made + 1) (n + second.made + 1) (omega arith) is)) (λ is. inr (more is))
        (second.lacking (omega (arith, sure, first.calls_left)));
    stays = λ is. second.stays (first.going ∙ is);
    stops = λ is. ⊎_elim (λ stopped. inl (sym first.going ∙ stopped)) (λ here. inr (omega (arith, here, first.stop_left))) (second.stops is);
    last = λ goes is. omega (arith, first.counted goes, second.last (lists_on goes) is);
    bounds_kept = second.bounds_kept ∙ first.bounds_kept;
    calls_kept = omega (arith, first.calls_kept, second.calls_kept);
    room_kept = omega (arith, first.room_kept, second.room_kept);
  }

  -- where there was no room for the calls behind, there was none for all
  crowded_behind : (k y all both : ℕ) → n + k ≤ all → x + y ≤ both → IsCrowded b k y → IsCrowded a all both
  crowded_behind k y all both sum bytes (inl less) = inl (omega (arith, sum, less, first.calls_left))
  crowded_behind k y all both sum bytes (inr less) = inr (omega (arith, bytes, less, first.room_left))

  -- the cause of an answer, too
  pub cause_behind : (c : DiskHealth) (k y all both : ℕ) (L M : Type 0) (answer : DiskAnswer) → n + k ≡ all → x + y ≡ both → (L → M) →
      HasCause b c k y L answer → HasCause a c all both M answer
  cause_behind c k y all both L M Done sum bytes more second = used_behind c k y all both sum bytes second
  cause_behind c k y all both L M Failed sum bytes more second = fault_behind c k all L M (omega (arith, sum)) more second

  -- what is left out behind them is left out of all
  pub left_out_behind : (c : DiskHealth) (made y all both : ℕ) → n + made ≡ all → x + y ≤ both → IsLeftOut b c made y → IsLeftOut a c all both
  left_out_behind c made y all both sum bytes is = record {
    unplanned = λ due. is.unplanned (planned_behind made all sum due);
    crowded = crowded_behind (made + 1) y (all + 1) both (omega (arith, sum)) bytes is.crowded;
    going = is.going ∙ first.going;
    waits = λ here. is.waits (omega (arith, here, sum, first.stop_left));
  }

  -- also one that writes nothing, which wants no room for bytes
  pub unwritten_behind : (c : DiskHealth) (made all : ℕ) → n + made ≡ all → IsLeftOut b c made 0 → IsLeftOut a c all 0
  unwritten_behind c made all sum is = record {
    unplanned = λ due. is.unplanned (planned_behind made all sum due);
    crowded = ⊎_elim (λ less. inl (omega (arith, sum, less, first.calls_left))) (λ less. absurd (omega (arith, less))) is.crowded;
    going = is.going ∙ first.going;
    waits = λ here. is.waits (omega (arith, here, sum, first.stop_left));
  }

-- of more calls than there were
pub fault_wider : (a b : DiskHealth) (n all : ℕ) (L M : Type 0) → n ≤ all → (L → M) → DiskFault a b n L → DiskFault a b all M
fault_wider a b n all L M sum more is = fault_behind a a 0 0 (used_none a) b n all L M (omega (arith, sum)) more is

-- with room for more bytes
pub left_out_wider : (a c : DiskHealth) (made x both : ℕ) → x ≤ both → IsLeftOut a c made x → IsLeftOut a c made both
left_out_wider a c made x both bytes is = left_out_behind a a 0 0 (used_none a) c made x made both (omega arith) (omega (arith, bytes)) is

-- a call that fails on a disk that goes on was to fail, or is left out
module _ (a c : DiskHealth) (all x : ℕ) (on : a.stopped ≡ false) (fault : DiskFault a c all (a.room < x)) where
  due : IsPlanned a (fault.made + 1) → IsPlanned a all
  due is = planned_before a a 0 0 (used_none a) (fault.made + 1) all (omega (arith, fault.few)) is

  -- it isn't the one that was to stop the disk
  module _ (goes : c.stopped ≡ false) (other : a.stop_in ≡ fault.made + 1 → ⊥) where
    left_out : IsCrowded a (fault.made + 1) x → IsLeftOut a c fault.made x
    left_out crowded = record {
      unplanned = fault.unplanned;
      crowded = crowded;
      going = goes ∙ sym on;
      waits = λ here. absurd (other here);
    }

    by_room : (fault.made < a.calls) ⊎ (a.calls ≤ fault.made) → IsPlanned a all ⊎ IsLeftOut a c fault.made x
    by_room (inl some) = ⊎_elim (λ is. inl (due is)) (λ less. inr (left_out (inr less))) (fault.lacking some)
    by_room (inr none) = inr (left_out (inl (omega (arith, none))))

  to_stop : a.stop_in ≡ fault.made + 1 → IsPlanned a all ⊎ IsLeftOut a c fault.made x
  to_stop here = inl (inr (inl (omega (arith, here), omega (arith, here, fault.few))))

  by_stop : (stopped : Bool) → c.stopped ≡ stopped → IsPlanned a all ⊎ IsLeftOut a c fault.made x
  by_stop true is = ⊎_elim (λ before. absurd (both before on)) to_stop (fault.stops is)
    where
      both : a.stopped ≡ true → a.stopped ≡ false → ⊥
      both one two = cc
  by_stop false is =
      ⊎_elim to_stop (λ other. by_room is other (cases_lt fault.made a.calls)) (cases_eq a.stop_in (fault.made + 1))

  pub planned_or_left_out : IsPlanned a all ⊎ IsLeftOut a c fault.made x
  planned_or_left_out = by_stop c.stopped refl

-- a call that failed, with another want of room
pub logs_wider : (call : DiskAnswer → DiskCall) (C E : Type 0) (before after : Option (List DiskCall)) → (C → E) → Logs call C before after Failed →
    Logs call E before after Failed
logs_wider call C E before after more (inl is) = inl (more is.0, is.1)
logs_wider call C E before after more (inr is) = inr is

pub both_wider : (at : ℕ) (bytes : List ℕ) (C E : ℕ → ℕ → Type 0) (before after : Option (List DiskCall)) (answer : DiskAnswer) →
    ((made n : ℕ) → made < 2 → n ≤ length bytes → C made n → E made n) →
    LogsBoth at bytes C before after answer → LogsBoth at bytes E before after answer
both_wider at bytes C E before after Done more is = is
both_wider at bytes C E before after Failed more (inl is) =
    inl (logs_wider (write_call at bytes) (C 0 (length bytes)) (E 0 (length bytes)) _ _ (more 0 (length bytes) (omega arith) (omega arith)) is)
both_wider at bytes C E before after Failed more (inr is) =
    inr (logs_wider sync_call (C 1 0) (E 1 0) _ _ (more 1 0 (omega arith) (omega arith)) is)

-- a write that was made, and its sync
pub both_logged : (a b c : DiskHealth) (at : ℕ) (bytes : List ℕ) (before mid after : Option (List DiskCall)) (answer : DiskAnswer) →
    IsUsed a b 1 (length bytes) → mid ≡ with_call (write_call at bytes Done) before → Logs sync_call (IsLeftOut b c 0 0) mid after answer →
    LogsBoth at bytes (IsLeftOut a c) before after answer
both_logged a b c at bytes before mid after Done used written logs = logs ∙ ap (with_call (sync_call Done)) written
both_logged a b c at bytes before mid after Failed used written logs =
    inr (subst (λ (o : Option (List DiskCall)). Logs sync_call (IsLeftOut a c 1 0) o after Failed) written
    (logs_wider sync_call (IsLeftOut b c 0 0) (IsLeftOut a c 1 0) mid after (unwritten_behind a b 1 (length bytes) used c 0 1 (omega arith)) logs))

-- what both stretches keep: the disk, its file, and whether it tells
pub same_then : {A B C : Type 0} {a b c : A} {x y z : B} {k l m : C} → (b ≡ a) × (y ≡ x) × (l ≡ k) →
    (c ≡ b) × (z ≡ y) × (m ≡ l) → (c ≡ a) × (z ≡ x) × (m ≡ k)
same_then one two = (two.0 ∙ one.0, two.1 ∙ one.1, two.2 ∙ one.2)
