-- What the calls of a disk in memory count.
use Rattle.std.proofs.Common.{◌≡◌, ℕ, ◌+◌, ◌-◌, ◌^◌, ◌<◌, ◌≤◌, ◌⊎◌, inl, inr, ◌∙◌, Bool, true, false, ◌&&◌, ◌||◌, not, ◌==◌, nat_le, nat_lt, [], ◌∷◌, length, length-append, if◌then◌else◌, refl, sym, ap, subst, ⊎_elim, arith}
use Rattle.std.proofs.lemmas.Bool.Decides.{nat_tests}
use Rattle.disk_base.specs.Calls.{DiskCall}
use Rattle.disk_base.specs.Faults.{DiskHealth, HasCause, IsAmong, IsCrowded, IsPlanned, Rose, one_more}
use Rattle.disk_base.specs.MemDisk.{DiskState, after_call, after_entry, after_refusal, answer_of, disk_health, disk_size, faults_after, is_full, next_attach, spare_if, spare_now}
use Rattle.disk_base.specs.Plan.{next_answer, next_plan}
use Rattle.disk_base.proofs.Stretches.{none_planned}
use Rattle.disk_base.specs.declared.disk.DiskAnswer.{DiskAnswer}
use Rattle.disk_base.specs.declared.disk.DiskAnswer.TheVariants.{Done, Failed}
use Rattle.disk_base.specs.declared.fault_plan.FaultPlan.{FaultPlan}

pub rose : (faults : ℕ) → faults < 2 ^ 64 → Rose faults (one_more faults)
rose faults below = record { by_one = refl; later = omega (arith, below) }

-- a full list has no room for sure, whatever it has to spare
crowded_by : (most more calls room other used n : ℕ) (full : Bool) → nat_le (most + more) calls ≡ full → (full || nat_lt (room + other - used) n) ≡ true →
    (most - calls < 1) ⊎ (room - used < n)
crowded_by most more calls room other used n true is crowded =
    let all : most + more ≤ calls = grind (arith, nat_tests, is) in inl (omega (arith, all))
crowded_by most more calls room other used n false is crowded =
    let less : room + other - used < n = grind (arith, nat_tests, crowded) in inr (omega (arith, less))

crowded_of : (s : DiskState) (n : ℕ) → is_full n s ≡ true → IsCrowded (disk_health s) 1 n
crowded_of s n full =
    crowded_by s.most (spare_now s).0 (length s.calls) s.room (spare_now s).1 s.used n (nat_le (s.most + (spare_now s).0) (length s.calls)) refl full

-- a call fails as planned exactly where one of the next one call is to fail
is_next : (n : ℕ) → (n == 1) ≡ true → IsAmong n 1
is_next n is = (grind (arith, nat_tests, is), grind (arith, nat_tests, is))

planned_by : (h : DiskHealth) (stopped one two : Bool) → h.stopped ≡ stopped → (h.fail_in == 1) ≡ one → (h.stop_in == 1) ≡ two →
    (if stopped || (one || two) then Failed else Done) ≡ Failed → IsPlanned h 1
planned_by h true one two a b c is = inr (inr (a, omega arith))
planned_by h false true two a b c is = inl (is_next h.fail_in b)
planned_by h false false true a b c is = inr (inl (is_next h.stop_in c))
planned_by h false false false a b c is = absurd (grind (arith, is))

planned : (s : DiskState) → next_answer s.plan ≡ Failed → IsPlanned (disk_health s) 1
planned s is = planned_by (disk_health s) s.plan.stopped (s.plan.fail_in == 1) (s.plan.stop_in == 1) refl refl refl is

not_next : (n : ℕ) → (n == 1) ≡ false → IsAmong n 1 → ⊥
not_next n is among = grind (arith, nat_tests, is, among.0, among.1)

none_stops : (stopped : Bool) → stopped ≡ false → stopped ≡ true → ⊥
none_stops stopped is now = cc

unplanned_by : (h : DiskHealth) (stopped one two : Bool) → h.stopped ≡ stopped → (h.fail_in == 1) ≡ one → (h.stop_in == 1) ≡ two →
    (if stopped || (one || two) then Failed else Done) ≡ Done → IsPlanned h 1 → ⊥
unplanned_by h true one two a b c is due = grind (arith, is)
unplanned_by h false true two a b c is due = grind (arith, is)
unplanned_by h false false true a b c is due = grind (arith, is)
unplanned_by h false false false a b c is due =
    ⊎_elim (not_next h.fail_in b) (⊎_elim (not_next h.stop_in c) (λ other. none_stops h.stopped a other.0)) due

unplanned : (s : DiskState) → next_answer s.plan ≡ Done → IsPlanned (disk_health s) 1 → ⊥
unplanned s is = unplanned_by (disk_health s) s.plan.stopped (s.plan.fail_in == 1) (s.plan.stop_in == 1) refl refl refl is

-- of a disk that goes on one call more was made
made_more : (made : ℕ) (stopped : Bool) → stopped ≡ false → (if stopped then made else made + 1) ≡ made + 1
made_more made true is = absurd (grind (arith, is))
made_more made false is = refl

-- a call that is done leaves the disk as it was, stopped or not
going_on : (fail stop : ℕ) (stopped : Bool) → (if stopped || (fail == 1 || stop == 1) then Failed else Done) ≡ Done → (stopped || stop == 1) ≡ stopped
going_on fail stop true is = refl
going_on fail stop false is = by_stop (fail == 1) (stop == 1) is where
  by_stop : (a b : Bool) → (if a || b then Failed else Done) ≡ Done → b ≡ false
  by_stop a false is = refl
  by_stop true true is = absurd (grind (arith, is))
  by_stop false true is = absurd (grind (arith, is))

-- it found room without what there is to spare, which is for a stop
none_spared : (stopped next : Bool) → stopped ≡ false → (stopped || next) ≡ stopped → (not stopped && next) ≡ false
none_spared true next on is = absurd (none_stops true on refl)
none_spared false true on is = absurd (none_stops true is refl)
none_spared false false on is = refl

room_by : (room other used n : ℕ) (full : Bool) → (full || nat_lt (room + other - used) n) ≡ false → other ≡ 0 → n ≤ room - used
room_by room other used n true is none = absurd (none_stops true is refl)
room_by room other used n false is none =
    let fits : n ≤ room + other - used = grind (arith, nat_tests, is) in omega (arith, fits, none)

room_of : (s : DiskState) (n : ℕ) → is_full n s ≡ false → s.plan.stopped ≡ false → (s.plan.stopped || s.plan.stop_in == 1) ≡ s.plan.stopped →
    n ≤ s.room - s.used
room_of s n free on goes =
    room_by s.room (spare_now s).1 s.used n (nat_le (s.most + (spare_now s).0) (length s.calls)) free
    (ap (λ (b : Bool). (spare_if b s.spare).1) (none_spared s.plan.stopped (s.plan.stop_in == 1) on goes))

-- one that fails stops it where it was to do so
stops_next : (n : ℕ) (stopped next : Bool) → (n == 1) ≡ next → (stopped || next) ≡ true → (stopped ≡ true) ⊎ (n ≡ 0 + 1)
stops_next n true next is now = inl refl
stops_next n false true is now = inr (grind (arith, nat_tests, is))
stops_next n false false is now = absurd (grind (arith, now))

-- one that has stopped stays so
stays : (plan : FaultPlan) → plan.stopped ≡ true → (next_plan plan).stopped ≡ true
stays plan is = ap (λ (b : Bool). b || plan.stop_in == 1) is

room_lacks : (s : DiskState) (n : ℕ) (Lacking : Type 0) → (s.room - s.used < n → Lacking) → IsCrowded (disk_health s) 1 n → 1 ≤ s.most - length s.calls →
    IsPlanned (disk_health s) 1 ⊎ Lacking
room_lacks s n Lacking lacking (inl none) sure = absurd (omega (arith, none, sure))
room_lacks s n Lacking lacking (inr less) sure = inr (lacking less)

module _ (s : DiskState) (call : DiskCall) (Lacking : Type 0) (below : s.faults < 2 ^ 64)
    (lacking : s.room - s.used < length call.bytes → Lacking) (done : call.answer ≡ Done → next_answer s.plan ≡ Done)
    (failed : call.answer ≡ Failed → (next_answer s.plan ≡ Failed) ⊎ Lacking) where
  go : (full : Bool) (answer : DiskAnswer) → is_full (length call.bytes) s ≡ full → call.answer ≡ answer →
      HasCause (disk_health s) (disk_health (if full then after_refusal s else after_entry call s)) 1 (length call.bytes) Lacking (if full then Failed else answer)
  go true answer full answered = record {
    rose = rose s.faults below;
    made = 0;
    few = omega arith;
    unplanned = none_planned (disk_health s);
    lacking = λ some. room_lacks s (length call.bytes) Lacking lacking (crowded_of s (length call.bytes) full) (omega (arith, some));
    stays = λ stopped. stopped;
    stops = λ stopped. inl stopped;
    last = λ goes stopped. absurd (none_stops s.plan.stopped goes.on stopped);
    bounds_kept = refl;
    calls_kept = omega arith;
    room_kept = omega arith;
  }
  go false Done full answered = record {
    same = ap (λ answer. faults_after answer s.faults) answered;
    calls_left = omega (arith, length-append s.calls (call ∷ []));
    room_left = omega arith;
    calls_kept = omega (arith, length-append s.calls (call ∷ []));
    room_kept = omega arith;
    fail_left = refl;
    stop_left = refl;
    unplanned = unplanned s (done answered);
    going = going_on s.plan.fail_in s.plan.stop_in s.plan.stopped (done answered);
    exact = refl;
    counted = λ goes. made_more s.made s.plan.stopped goes.on;
    room_is = λ goes.
        let fits =
        room_of s (length call.bytes) full goes.on (going_on s.plan.fail_in s.plan.stop_in s.plan.stopped (done answered)) in
        omega (arith, fits);
    bounds_kept = refl;
  }
  go false Failed full answered = record {
    rose = subst (λ answer. Rose s.faults (faults_after answer s.faults)) (sym answered) (rose s.faults below);
    made = 0;
    few = omega arith;
    unplanned = none_planned (disk_health s);
    lacking = λ some. ⊎_elim (λ is. inl (planned s is)) (λ is. inr is) (failed answered);
    stays = stays s.plan;
    stops = stops_next s.plan.stop_in s.plan.stopped (s.plan.stop_in == 1) refl;
    last = λ goes stopped. made_more s.made s.plan.stopped goes.on;
    bounds_kept = refl;
    calls_kept = omega (arith, length-append s.calls (call ∷ []));
    room_kept = omega arith;
  }

  pub cause_of : HasCause (disk_health s) (disk_health (after_call call s)) 1 (length call.bytes) Lacking (answer_of call s)
  cause_of = go (is_full (length call.bytes) s) call.answer refl refl

-- a call that answers as planned
pub cause : (s : DiskState) (call : DiskCall) (Lacking : Type 0) → s.faults < 2 ^ 64 → (s.room - s.used < length call.bytes → Lacking) →
    call.answer ≡ next_answer s.plan →
    HasCause (disk_health s) (disk_health (after_call call s)) 1 (length call.bytes) Lacking (answer_of call s)
cause s call Lacking below lacking answered =
    cause_of s call Lacking below lacking (λ is. sym answered ∙ is) (λ is. inl (sym answered ∙ is))

-- an attaching, which may ask for more bytes than there are
module _ (s : DiskState) (grow : ℕ) where
  planned_done : (more : Bool) → (if more then Failed else next_answer s.plan) ≡ Done → next_answer s.plan ≡ Done
  planned_done true is = absurd (grind (arith, is))
  planned_done false is = is

  planned_failed : (more : Bool) → nat_lt (disk_size s) grow ≡ more → (if more then Failed else next_answer s.plan) ≡ Failed →
      (next_answer s.plan ≡ Failed) ⊎ (disk_size s < grow)
  planned_failed true less is = inr (grind (arith, nat_tests, less))
  planned_failed false less is = inl is

  pub attach_cause : s.faults < 2 ^ 64 →
      HasCause (disk_health s) (disk_health (after_call (next_attach grow s) s)) 1 0 (disk_size s < grow) (answer_of (next_attach grow s) s)
  attach_cause below =
      cause_of s (next_attach grow s) (disk_size s < grow) below (λ less. absurd (omega (arith, less)))
      (planned_done (nat_lt (disk_size s) grow)) (planned_failed (nat_lt (disk_size s) grow) refl)
