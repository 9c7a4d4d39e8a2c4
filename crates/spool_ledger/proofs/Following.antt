-- That the list that was noted is the one that is counted.
use Rattle.std.proofs.Common.{◌≡◌, ◌==◌, ◌&&◌, ℕ, ◌+◌, ◌%◌, ◌<◌, ◌≤◌, nat_lt, Bool, true, false, not, is_none, if◌then◌else◌, List, [], ◌∷◌, ◌++◌, length, Option, Some, None, refl, sym, ap, ◌∙◌, arith}
use Rattle.std.proofs.lemmas.Bool.Decides.{nat_tests}
use Rattle.std.specs.Prelude.{All, drop, sum, unwrap_or}
use Rattle.std.specs.Option.{option_map}
use Rattle.std.proofs.lemmas.List.Elements.{All-head, All-tail, filter_map-append}
use Rattle.std.proofs.lemmas.List.Sums.{fold-append}
use Rattle.gem_spool.specs.declared.spool.Room.{Room}
use Rattle.gem_spool.specs.declared.spool.Room.TheVariants as room
use Rattle.gem_spool.specs.declared.works.Work.TheVariants as work
use Rattle.trace_log.specs.Log.{Happening}
use Rattle.trace_log.specs.Log.Happening.{Discarded, Spool, TooLong, Try}
use Rattle.trace_log.specs.Names.{Spooled, spooled_name}
use Rattle.trace_log.specs.declared.names.Cause.{Cause}
use Rattle.trace_log.specs.declared.names.Cause.TheVariants.{Confirmed, Overwritten, Purged}
use Rattle.spool_ledger.specs.Activity.{changed, is_done}
use Rattle.spool_ledger.specs.Laws.{Call, HasCome, MayCall, all_bring, brings, given_by, given_in, listed, listed_after, numbers_from, numbers_of, size_by, sizes_in, without}
use Rattle.spool_ledger.specs.Laws.Call.{Activate, BeginUnload, Confirm, EndUnload, Granted, NextUnload, Purge, Rest, Store, TakeUp, TakeWorks}
use Rattle.spool_ledger.specs.Ledger.{Booked, IsLedger, IsSome, LedgerView, and_then, carried_out, confirmed_of, is_full, next_of, owed, quiet, room_for, size_of}
use Rattle.spool_ledger.specs.Sizes.{oldest_of}
use Rattle.spool_ledger.specs.Storing.{all_out, oldest_out, put, room_made, stored_by, with_room}
use Rattle.spool_ledger.specs.Unloading.{confirmed, counted, fresh, is_oldest_tried, is_over, let_go, settled, tries, trying, unload_next, with_each, with_unload}
use Rattle.spool_ledger.specs.declared.unload.Unload.{Unload}
use Rattle.spool_ledger.proofs.Keeping.{all_out_keeps, makes_room, oldest-some, oldest_out_keeps, put_keeps, sum-both, sum-cons, sum-last, sum-parted}

-- ---- numbers

numbers_two : (first : ℕ) (one two : List ℕ) →
    numbers_from first one ++ numbers_from (first + sum one) two ≡ numbers_from first (one ++ two)
numbers_two first [] two = ap (λ (k : ℕ). numbers_from k two) (omega arith)
numbers_two first (size ∷ one) two =
    let more = sum-cons size one in
    let behind : first + sum (size ∷ one) ≡ first + size + sum one = omega (arith, more) in
    ap (λ (ns : List ℕ). first ∷ ns)
    (ap (λ (k : ℕ). numbers_from (first + size) one ++ numbers_from k two) behind ∙ numbers_two (first + size) one two)

-- the front number is the only one of its kind
is_other : (n m : ℕ) → n < m → not (n == m) ≡ true
is_other n m below = grind (arith, nat_tests, below)

is_same : (n : ℕ) → not (n == n) ≡ false
is_same n = grind (arith, nat_tests)

without_above : (n m : ℕ) (sizes : List ℕ) → n < m → without n (numbers_from m sizes) ≡ numbers_from m sizes
without_above n m [] below = refl
without_above n m (size ∷ sizes) below =
    rw (is_other n m below)
    (ap (λ (ns : List ℕ). m ∷ ns) (without_above n (m + size) sizes (omega (arith, below))))

front_out : (first : ℕ) (sizes : List ℕ) → All IsSome sizes → 0 < length sizes →
    without first (numbers_from first sizes) ≡ numbers_from (first + oldest_of sizes) (drop 1 sizes)
front_out first [] each some = absurd (omega (arith, some))
front_out first (size ∷ sizes) each some =
    let one : 1 ≤ size = All-head IsSome size sizes each in
    rw (is_same first) (without_above first (first + size) sizes (omega (arith, one)))

-- two lists of numbers that rise, one behind the other
rises : (n m : ℕ) (first second both one two : List ℕ) → both ≡ first ++ second → first ≡ numbers_from n one →
    m ≡ n + sum one → second ≡ numbers_from m two → both ≡ numbers_from n (one ++ two)
rises n m first second both one two are rise behind more =
    are
    ∙ ap (λ (ns : List ℕ). ns ++ second) rise
    ∙ ap (λ (ns : List ℕ). numbers_from n one ++ ns) (more ∙ ap (λ (k : ℕ). numbers_from k two) behind)
    ∙ numbers_two n one two

-- ---- one call behind the other

come_then : (v : LedgerView) (booked : Booked) (next : LedgerView → Booked) → HasCome v booked →
    HasCome booked.next (next booked.next) → HasCome v (and_then booked next)
come_then v booked next one two =
    let more = (next booked.next).lines in
    let sizes = filter_map-append size_by booked.lines more in
    let taken : sum (sizes_in (booked.lines ++ more)) ≡ sum (sizes_in booked.lines) + sum (sizes_in more) =
    ap (λ (ns : List ℕ). sum ns) sizes ∙ sum-both (sizes_in booked.lines) (sizes_in more) in
    record {
      is = two.is;
      list = fold-append listed_after (numbers_of v) booked.lines more
          ∙ ap (λ (ns : List ℕ). listed ns more) one.list
          ∙ two.list;
      rise = rises (next_of v) (next_of booked.next) (given_in booked.lines) (given_in more)
          (given_in (booked.lines ++ more)) (sizes_in booked.lines) (sizes_in more)
          (filter_map-append given_by booked.lines more) one.rise one.next two.rise
          ∙ ap (λ (ns : List ℕ). numbers_from (next_of v) ns) (sym sizes);
      next = two.next ∙ omega (arith, one.next, taken);
      no_lower = omega (arith, one.no_lower, two.no_lower);
    }

-- ---- each call

-- a call that notes nothing, and one that notes what is no matter of the list
same_numbers : (v w : LedgerView) → w.first ≡ v.first → w.sizes ≡ v.sizes → numbers_of v ≡ numbers_of w
same_numbers v w first sizes =
    ap (λ (k : ℕ). numbers_from k v.sizes) (sym first) ∙ ap (λ (ns : List ℕ). numbers_from w.first ns) (sym sizes)

same_next : (v w : LedgerView) → w.first ≡ v.first → w.sizes ≡ v.sizes → next_of w ≡ next_of v + 0
same_next v w first sizes =
    let all = ap (λ (ns : List ℕ). sum ns) sizes in omega (arith, first, all)

still : (v w : LedgerView) → IsLedger w → w.first ≡ v.first → w.sizes ≡ v.sizes → HasCome v (quiet w)
still v w is first sizes = record {
  is = is;
  list = same_numbers v w first sizes;
  rise = refl;
  next = same_next v w first sizes;
  no_lower = omega (arith, first);
}

beside : (v w : LedgerView) (what : Happening) → IsLedger w → w.first ≡ v.first → w.sizes ≡ v.sizes →
    listed_after (numbers_of v) what ≡ numbers_of v → given_by what ≡ None → size_by what ≡ None →
    HasCome v (record { next = w; lines = what ∷ [] })
beside v w what is first sizes unlisted ungiven unsized = record {
  is = is;
  list = unlisted ∙ same_numbers v w first sizes;
  rise = rw ungiven (rw unsized refl);
  next = rw unsized (same_next v w first sizes);
  no_lower = omega (arith, first);
}

put_comes : (v : LedgerView) (message : Spooled) → IsLedger v → message.function % 2 ≡ 1 → message.stream < 128 →
    room_for v (length message.body) ≡ room.Fits → HasCome v (put message v)
put_comes v message is odd stream fits =
    let all = sum-last v.sizes (size_of message) in
    let one = sum-cons (size_of message) [] in
    record {
      is = put_keeps v message (owed v (work.Put message.stream message.function message.body)) is odd stream fits refl;
      list = numbers_two v.first v.sizes (size_of message ∷ []);
      rise = refl;
      next = omega (arith, all, one);
      no_lower = omega arith;
    }

-- the oldest leaves, of which the cause isn't that all leave
abbrev IsAlone : Cause → Type 0
IsAlone Confirmed = Unit {0}
IsAlone Overwritten = Unit {0}
IsAlone Purged = ⊥

oldest_list : (cause : Cause) (for_one : Option Spooled) (v : LedgerView) → IsAlone cause → IsLedger v →
    0 < length v.sizes → listed (numbers_of v) (oldest_out cause for_one v).lines
    ≡ numbers_from (v.first + oldest_of v.sizes) (drop 1 v.sizes)
oldest_list Confirmed for_one v alone is some = front_out v.first v.sizes is.each some
oldest_list Overwritten for_one v alone is some = front_out v.first v.sizes is.each some
oldest_list Purged for_one v alone is some = absurd alone

oldest_comes : (cause : Cause) (for_one : Option Spooled) (v : LedgerView) → IsAlone cause → IsLedger v →
    0 < length v.sizes → HasCome v (oldest_out cause for_one v)
oldest_comes cause for_one v alone is some =
    let parted = sum-parted v.sizes in
    record {
      is = oldest_out_keeps v (owed v (work.DropOldest (oldest_of v.sizes))) is some refl;
      list = oldest_list cause for_one v alone is some;
      rise = refl;
      next = omega (arith, parted);
      no_lower = omega arith;
    }

-- by the two cases of a test
by_case : (P : Booked → Type 0) (test : Bool) {x y : Booked} → (test ≡ true → P x) → (test ≡ false → P y) →
    P (if test then x else y)
by_case P true one two = one refl
by_case P false one two = two refl

all_comes : (v : LedgerView) → IsLedger v → HasCome v (all_out v)
all_comes v is = by_case (HasCome v) (length v.sizes == 0) (λ empty. still v v is refl refl) (λ some. record {
  is = all_out_keeps v (next_of v) (owed v work.Purge) is refl refl;
  list = refl;
  rise = refl;
  next = omega arith;
  no_lower = omega arith;
})

-- the oldest ones leave, as long as there is no room
pub made_comes : (size : ℕ) (for_one : Option Spooled) (sizes : List ℕ) (v : LedgerView) → IsLedger v →
    sizes ≡ v.sizes → HasCome v (room_made size for_one sizes v)
made_comes size for_one [] v is same = still v v is refl refl
made_comes size for_one (oldest ∷ sizes) v is same =
    by_case (HasCome v) (is_full v.slots v.sizes size)
    (λ full.
    let long = ap (λ (ns : List ℕ). length ns) same in
    let first = oldest_comes Overwritten for_one v tt is (omega (arith, long)) in
    come_then v (oldest_out Overwritten for_one v) (room_made size for_one sizes) first
    (made_comes size for_one sizes (oldest_out Overwritten for_one v).next first.is (ap (drop 1) same)))
    (λ free. still v v is refl refl)

-- a message is stored, by what there is room for
stored_comes : (found : Room) (overwrites : Bool) (message : Spooled) (v : LedgerView) → IsLedger v →
    MayCall (Store message overwrites) → room_for v (length message.body) ≡ found →
    HasCome v (unwrap_or (stored_by found overwrites message v) (quiet v))
stored_comes room.Fits overwrites message v is may found = put_comes v message is may.0 may.1 found
stored_comes room.Full true message v is may found =
    let first = made_comes (size_of message) (Some message) v.sizes v is refl in
    come_then v (with_room message v) (put message) first
    (put_comes (with_room message v).next message first.is may.0 may.1 (makes_room v message is found))
stored_comes room.Full false message v is may found =
    beside v v (Discarded (spooled_name message)) is refl refl refl refl refl
stored_comes room.TooLong overwrites message v is may found =
    beside v v (TooLong (spooled_name message)) is refl refl refl refl refl
stored_comes room.NumbersSpent overwrites message v is may found = still v v is refl refl

-- ---- the unload

unload_keeps : (v : LedgerView) (unload : Option Unload) → IsLedger v → confirmed_of unload ≤ v.first →
    IsLedger (with_unload unload v)
unload_keeps v unload is confirmed = record {
  some = is.some;
  most = is.most;
  room = is.room;
  each = is.each;
  bound = is.bound;
  confirmed = confirmed;
  due = is.due;
  sized = is.sized;
  come_to = is.come_to;
  leave = is.leave;
}

unload_comes : (v : LedgerView) (unload : Option Unload) → IsLedger v → confirmed_of unload ≤ v.first →
    HasCome v (quiet (with_unload unload v))
unload_comes v unload is confirmed = still v (with_unload unload v) (unload_keeps v unload is confirmed) refl refl

-- a change that adds at most so many to those confirmed
each_confirmed : (change : Unload → Unload) (more : ℕ) →
    ((unload : Unload) → (change unload).confirmed ≤ unload.confirmed + more) → (unload : Option Unload) →
    confirmed_of (option_map change unload) ≤ confirmed_of unload + more
each_confirmed change more adds None = omega arith
each_confirmed change more adds (Some unload) = adds unload

each_keeps : (v : LedgerView) (change : Unload → Unload) → IsLedger v →
    ((unload : Unload) → (change unload).confirmed ≤ unload.confirmed + 0) → IsLedger (with_each change v)
each_keeps v change is adds =
    let confirmed = each_confirmed change 0 adds v.unload in
    unload_keeps v (option_map change v.unload) is (omega (arith, confirmed, is.confirmed))

each_comes : (v : LedgerView) (change : Unload → Unload) → IsLedger v →
    ((unload : Unload) → (change unload).confirmed ≤ unload.confirmed + 0) → HasCome v (quiet (with_each change v))
each_comes v change is adds = still v (with_each change v) (each_keeps v change is adds) refl refl

pub and_first : (one two : Bool) → (one && two) ≡ true → one ≡ true
and_first true two both = refl
and_first false two both = both

has_some : (len : ℕ) → nat_lt 0 len ≡ true → 0 < len
has_some len some = grind (arith, nat_tests, some)

-- a message that leaves as confirmed is counted
counts_comes : (v : LedgerView) → IsLedger v → 0 < length v.sizes →
    HasCome v (and_then (oldest_out Confirmed None v) (λ w. quiet (with_each counted w)))
counts_comes v is some =
    let first = oldest_comes Confirmed None v tt is some in
    let more = each_confirmed counted 1 (λ unload. omega arith) v.unload in
    let one = oldest-some v.sizes is.each some in
    come_then v (oldest_out Confirmed None v) (λ w. quiet (with_each counted w)) first
    (unload_comes (oldest_out Confirmed None v).next (option_map counted v.unload) first.is
    (omega (arith, more, one, is.confirmed)))

confirm_comes : (v : LedgerView) → IsLedger v → HasCome v (confirmed v)
confirm_comes v is = by_case (HasCome v) (is_oldest_tried v)
    (λ oldest. counts_comes v is (has_some (length v.sizes)
    (and_first (nat_lt 0 (length v.sizes)) (tries v.first v.unload) oldest)))
    (λ other. each_comes v settled is (λ unload. omega arith))

unload_next_confirmed : (most : ℕ) (v : LedgerView) (unload : Option Unload) →
    confirmed_of (unload_next most v unload) ≤ confirmed_of unload
unload_next_confirmed most v None = omega arith
unload_next_confirmed most v (Some unload) = go (is_none unload.tried && is_over most v unload)
  where
    go : (over : Bool) → confirmed_of (if over then None else Some unload) ≤ unload.confirmed
    go true = omega arith
    go false = omega arith

-- ---- all calls

active_keeps : (v : LedgerView) (active : Bool) → IsLedger v → IsLedger (record v { is_active = active })
active_keeps v active is = record {
  some = is.some;
  most = is.most;
  room = is.room;
  each = is.each;
  bound = is.bound;
  confirmed = is.confirmed;
  due = is.due;
  sized = is.sized;
  come_to = is.come_to;
  leave = is.leave;
}

changed_comes : (v : LedgerView) (active : Bool) → IsLedger v → HasCome v (changed active v)
changed_comes v active is =
    beside v (record v { is_active = active }) (Spool active) (active_keeps v active is) refl refl refl refl refl

carried_keeps : (v : LedgerView) → IsLedger v → IsLedger (carried_out v)
carried_keeps v is = record {
  some = is.some;
  most = is.most;
  room = is.room;
  each = is.each;
  bound = is.bound;
  confirmed = is.confirmed;
  due = tt;
  sized = tt;
  come_to = refl;
  leave = refl;
}

call_comes : (one : Call) (v : LedgerView) → IsLedger v → MayCall one → HasCome v (brings one v)
call_comes (Store message overwrites) v is may =
    stored_comes (room_for v (length message.body)) overwrites message v is may refl
call_comes Purge v is may = all_comes v is
call_comes Confirm v is may = confirm_comes v is
call_comes (Activate enabled) v is may =
    by_case (HasCome v) (enabled && not v.is_active) (λ on. changed_comes v true is) (λ off. still v v is refl refl)
call_comes (Rest communicating) v is may =
    by_case (HasCome v) (communicating && v.is_active && is_done v) (λ done. changed_comes v false is)
    (λ more. still v v is refl refl)
call_comes BeginUnload v is may = unload_comes v (Some fresh) is (omega arith)
call_comes EndUnload v is may = unload_comes v None is (omega arith)
call_comes (NextUnload most) v is may =
    let confirmed = unload_next_confirmed most v v.unload in
    unload_comes v (unload_next most v v.unload) is (omega (arith, confirmed, is.confirmed))
call_comes (TakeUp number system waiting) v is may =
    beside v (with_each (trying number waiting) v) (Try number system)
    (each_keeps v (trying number waiting) is (λ unload. omega arith)) refl refl refl refl refl
call_comes Granted v is may = each_comes v let_go is (λ unload. omega arith)
call_comes TakeWorks v is may = still v (carried_out v) (carried_keeps v is) refl refl

pub calls_come : (v : LedgerView) (calls : List Call) → IsLedger v → All MayCall calls → HasCome v (all_bring calls v)
calls_come v [] is may = still v v is refl refl
calls_come v (one ∷ calls) is may =
    let first = call_comes one v is (All-head MayCall one calls may) in
    come_then v (brings one v) (all_bring calls) first (calls_come (brings one v).next calls first.is
    (All-tail MayCall one calls may))
