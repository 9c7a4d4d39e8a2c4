-- That each work is due when it is decided.
use Rattle.std.proofs.Common.{◌≡◌, ℕ, ◌+◌, ◌-◌, ◌%◌, ◌^◌, ◌<◌, ◌≤◌, Bool, true, false, if◌then◌else◌, List, [], ◌∷◌, ◌++◌, drop, length, length-append, Option, Some, refl, sym, ap, subst, ◌∙◌, arith}
use Rattle.std.specs.Prelude.{All, sum}
use Rattle.std.proofs.lemmas.List.Elements.{All-append, All-cons, All-head, All-nil, All-tail}
use Rattle.std.proofs.lemmas.List.Sums.{fold-append, sum_by-append, sum_by-cons}
use Rattle.gem_spool.specs.Works.{AreDue, IsDue, count_after, counts_after}
use Rattle.gem_spool.specs.declared.count.Count.{Count}
use Rattle.gem_spool.specs.declared.spool.Room.TheVariants as room
use Rattle.gem_spool.specs.declared.works.Work.{Work}
use Rattle.gem_spool.specs.declared.works.Work.TheVariants as work
use Rattle.gem_spool.proofs.Doing.{due_more}
use Rattle.spool_file.specs.Sizes.{is_too_long, slots_for}
use Rattle.spool_file.proofs.BodySizes.{some_slots}
use Rattle.trace_log.specs.Log.Happening.{TooLong}
use Rattle.trace_log.specs.Names.{Spooled, spooled_name}
use Rattle.trace_log.specs.declared.names.Cause.TheVariants.{Overwritten}
use Rattle.spool_ledger.specs.Ledger.{Booked, IsLedger, IsSome, LedgerView, Numbered, and_then, confirmed_of, decided_count, is_full, new_ledger, next_of, owed, quiet, room_for, size_of, stood_count}
use Rattle.spool_ledger.specs.Sizes.{AreSizedBy, IsSizedBy, all_sizes_after, oldest_of, sizes_after}
use Rattle.spool_ledger.specs.Storing.{oldest_out, room_made, stored, unstored, with_room}
use Rattle.spool_ledger.proofs.Limits.{full_within, fits_within, is-below, none-below, over_never, room_within, within_short}

-- ---- sizes

pub sum-cons : (size : ℕ) (sizes : List ℕ) → sum (size ∷ sizes) ≡ size + sum sizes
sum-cons size sizes = sum_by-cons (λ (n : ℕ). n) size sizes

pub sum-both : (one two : List ℕ) → sum (one ++ two) ≡ sum one + sum two
sum-both one two = sum_by-append (λ (n : ℕ). n) one two

pub sum-last : (sizes : List ℕ) (size : ℕ) → sum (sizes ++ size ∷ []) ≡ sum sizes + size
sum-last sizes size =
    let both = sum-both sizes (size ∷ []) in
    let last = sum-cons size [] in
    omega (arith, both, last)

-- the oldest and all others
pub sum-parted : (sizes : List ℕ) → sum sizes ≡ oldest_of sizes + sum (drop 1 sizes)
sum-parted [] = refl
sum-parted (size ∷ sizes) = sum-cons size sizes

pub long-last : (sizes : List ℕ) (size : ℕ) → length (sizes ++ size ∷ []) ≡ length sizes + 1
long-last sizes size = length-append sizes (size ∷ [])

pub long-rest : (sizes : List ℕ) → length (drop 1 sizes) ≡ length sizes - 1
long-rest [] = refl
long-rest (size ∷ sizes) = omega arith

-- messages of a slot at least
pub some-sum : (sizes : List ℕ) → All IsSome sizes → length sizes ≤ sum sizes
some-sum [] each = omega arith
some-sum (size ∷ sizes) each =
    let more = sum-cons size sizes in
    let one : 1 ≤ size = All-head IsSome size sizes each in
    let rest = some-sum sizes (All-tail IsSome size sizes each) in
    omega (arith, more, one, rest)

pub some-rest : (sizes : List ℕ) → All IsSome sizes → All IsSome (drop 1 sizes)
some-rest [] each = each
some-rest (size ∷ sizes) each = All-tail IsSome size sizes each

some-last : (sizes : List ℕ) (size : ℕ) → All IsSome sizes → 1 ≤ size → All IsSome (sizes ++ size ∷ [])
some-last sizes size each one =
    All-append IsSome sizes (size ∷ []) each (All-cons IsSome size [] one (All-nil IsSome))

pub oldest-some : (sizes : List ℕ) → All IsSome sizes → 0 < length sizes → 1 ≤ oldest_of sizes
oldest-some [] each some = absurd (omega (arith, some))
oldest-some (size ∷ sizes) each some = All-head IsSome size sizes each

-- one message takes all that is taken
sum-none : (sizes : List ℕ) → length sizes ≡ 0 → sum sizes ≡ 0
sum-none [] none = refl
sum-none (size ∷ sizes) none = absurd (omega (arith, none))

oldest-alone : (sizes : List ℕ) → length sizes ≡ 1 → oldest_of sizes ≡ sum sizes
oldest-alone sizes one =
    let rest = long-rest sizes in
    let none = sum-none (drop 1 sizes) (omega (arith, rest, one)) in
    let parted = sum-parted sizes in
    omega (arith, parted, none)

-- ---- works

-- a work more is due behind the others, and they come to what it makes of the list
module _ (v : LedgerView) (is : IsLedger v) (one : Work) where
  owes : IsDue (decided_count v) one → AreDue (stood_count v) (owed v one)
  owes due = due_more (stood_count v) v.works one is.due (subst (λ (c : Count). IsDue c one) (sym is.come_to) due)

  comes : counts_after (stood_count v) (owed v one) ≡ count_after (decided_count v) one
  comes = fold-append count_after (stood_count v) v.works (one ∷ []) ∙ ap (λ (c : Count). count_after c one) is.come_to

  sizes_come : all_sizes_after v.stood.sizes (owed v one) ≡ sizes_after v.sizes one
  sizes_come =
      fold-append sizes_after v.stood.sizes v.works (one ∷ []) ∙ ap (λ (ns : List ℕ). sizes_after ns one) is.leave

  sized_more : IsSizedBy v.sizes one → AreSizedBy v.stood.sizes (owed v one)
  sized_more last = go v.stood.sizes v.works is.sized (subst (λ (ns : List ℕ). IsSizedBy ns one) (sym is.leave) last)
    where
      go : (sizes : List ℕ) (xs : List Work) → AreSizedBy sizes xs → IsSizedBy (all_sizes_after sizes xs) one →
          AreSizedBy sizes (xs ++ one ∷ [])
      go sizes [] sized last = (last, tt)
      go sizes (x ∷ xs) sized last = (sized.0, go (sizes_after sizes x) xs sized.1 last)

abbrev counted_to : (slots len used next : ℕ) → Count
counted_to slots len used next = record { version = 2; slots = slots; next = next; len = len; used = used }

same_count : (slots k l m n o p : ℕ) → k ≡ l → m ≡ n → o ≡ p → counted_to slots k m o ≡ counted_to slots l n p
same_count slots k l m n o p len used next =
    ap (λ (x : ℕ). counted_to slots x m o) len
    ∙ ap (λ (x : ℕ). counted_to slots l x o) used
    ∙ ap (λ (x : ℕ). counted_to slots l n x) next

-- ---- what there is room for

-- a message more finds a place among the sizes
pub fits_more : (v : LedgerView) (long : ℕ) → IsLedger v → room_for v long ≡ room.Fits →
    (sum v.sizes + slots_for long ≤ 65535) × (length v.sizes < 65535)
fits_more v long is fits =
    let free = (fits_within v long fits).1 in
    let one = some_slots long in
    let some = some-sum v.sizes is.each in
    (omega (arith, free, is.most), omega (arith, free, is.most, one, some))

-- ---- each call

pub new_keeps : (slots first : ℕ) (sizes : List ℕ) → 0 < slots → slots ≤ 65535 → All IsSome sizes → sum sizes ≤ slots →
    first + sum sizes ≤ 2 ^ 63 + 65535 → IsLedger (new_ledger slots first sizes)
new_keeps slots first sizes some most each room bound = record {
  some = some;
  most = most;
  room = room;
  each = each;
  bound = bound;
  confirmed = omega arith;
  due = tt;
  sized = tt;
  come_to = refl;
  leave = refl;
}

pub put_keeps : (v : LedgerView) (message : Spooled) (works : List Work) → IsLedger v → message.function % 2 ≡ 1 →
    message.stream < 128 → room_for v (length message.body) ≡ room.Fits →
    works ≡ owed v (work.Put message.stream message.function message.body) →
    IsLedger (record v { sizes = v.sizes ++ size_of message ∷ []; works = works })
put_keeps v message works is odd stream fits owing =
    let size = size_of message in
    let within = fits_within v (length message.body) fits in
    let number = within.0.number in
    let free = within.1 in
    let all = sum-last v.sizes size in
    let made = work.Put message.stream message.function message.body in
    rw owing (record {
      some = is.some;
      most = is.most;
      room = omega (arith, all, free);
      each = some-last v.sizes size is.each (some_slots (length message.body));
      bound = omega (arith, all, number);
      confirmed = is.confirmed;
      due = owes v is made (odd, stream, fits);
      sized = sized_more v is made tt;
      come_to = comes v is made
          ∙ same_count v.slots (length v.sizes + 1) (length (v.sizes ++ size ∷ [])) (sum v.sizes + size)
          (sum (v.sizes ++ size ∷ [])) (next_of v + size) (v.first + sum (v.sizes ++ size ∷ []))
          (sym (long-last v.sizes size)) (sym all) (omega (arith, all));
      leave = sizes_come v is made;
    })

pub oldest_out_keeps : (v : LedgerView) (works : List Work) → IsLedger v → 0 < length v.sizes →
    works ≡ owed v (work.DropOldest (oldest_of v.sizes)) →
    IsLedger (record v { first = v.first + oldest_of v.sizes; sizes = drop 1 v.sizes; works = works })
oldest_out_keeps v works is some owing =
    let parted = sum-parted v.sizes in
    let one = oldest-some v.sizes is.each some in
    let rest = some-sum (drop 1 v.sizes) (some-rest v.sizes is.each) in
    let fewer = long-rest v.sizes in
    let made = work.DropOldest (oldest_of v.sizes) in
    rw owing (record {
      some = is.some;
      most = is.most;
      room = omega (arith, is.room, parted);
      each = some-rest v.sizes is.each;
      bound = omega (arith, is.bound, parted);
      confirmed = omega (arith, is.confirmed);
      due = owes v is made (some, one, omega (arith, parted, rest, fewer), oldest-alone v.sizes);
      sized = sized_more v is made refl;
      come_to = comes v is made
          ∙ same_count v.slots (length v.sizes - 1) (length (drop 1 v.sizes)) (sum v.sizes - oldest_of v.sizes)
          (sum (drop 1 v.sizes)) (next_of v) (v.first + oldest_of v.sizes + sum (drop 1 v.sizes))
          (sym fewer) (omega (arith, parted)) (omega (arith, parted));
      leave = sizes_come v is made;
    })

-- the same of what a call makes of the parts
abbrev stood_as : LedgerView → List ℕ → Numbered
stood_as v stood = record { first = v.stood.first; sizes = stood }

pub put_as : (v : LedgerView) (message : Spooled) (sizes stood : List ℕ) (works : List Work) → IsLedger v →
    message.function % 2 ≡ 1 → message.stream < 128 → room_for v (length message.body) ≡ room.Fits →
    sizes ≡ v.sizes ++ size_of message ∷ [] → stood ≡ v.stood.sizes →
    works ≡ owed v (work.Put message.stream message.function message.body) →
    IsLedger (record v { sizes = sizes; stood = stood_as v stood; works = works })
put_as v message sizes stood works is odd stream fits all stays owing =
    rw all (rw stays (put_keeps v message works is odd stream fits owing))

pub oldest_out_as : (v : LedgerView) (first : ℕ) (sizes stood : List ℕ) (works : List Work) → IsLedger v →
    0 < length v.sizes → first ≡ v.first + oldest_of v.sizes → sizes ≡ drop 1 v.sizes → stood ≡ v.stood.sizes →
    works ≡ owed v (work.DropOldest (oldest_of v.sizes)) →
    IsLedger (record v { first = first; sizes = sizes; stood = stood_as v stood; works = works })
oldest_out_as v first sizes stood works is some behind rest stays owing =
    rw behind (rw rest (rw stays (oldest_out_keeps v works is some owing)))

-- one that was confirmed lies below
pub rises : (v : LedgerView) → IsLedger v → 0 < length v.sizes → confirmed_of v.unload < v.first + oldest_of v.sizes
rises v is some = let one = oldest-some v.sizes is.each some in omega (arith, one, is.confirmed)

pub all_out_keeps : (v : LedgerView) (first : ℕ) (works : List Work) → IsLedger v → first ≡ next_of v →
    works ≡ owed v work.Purge → IsLedger (record v { first = first; sizes = []; works = works })
all_out_keeps v first works is behind owing =
    rw behind (rw owing (record {
      some = is.some;
      most = is.most;
      room = omega arith;
      each = All-nil IsSome;
      bound = omega (arith, is.bound);
      confirmed = omega (arith, is.confirmed);
      due = owes v is work.Purge tt;
      sized = sized_more v is work.Purge tt;
      come_to = comes v is work.Purge ∙ same_count v.slots 0 0 0 0 (next_of v) (next_of v + 0) refl refl (omega arith);
      leave = sizes_come v is work.Purge;
    }))

pub all_out_as : (v : LedgerView) (first : ℕ) (sizes stood : List ℕ) (works : List Work) → IsLedger v →
    first ≡ next_of v → sizes ≡ [] → stood ≡ v.stood.sizes → works ≡ owed v work.Purge →
    IsLedger (record v { first = first; sizes = sizes; stood = stood_as v stood; works = works })
all_out_as v first sizes stood works is behind none stays owing =
    rw none (rw stays (all_out_keeps v first works is behind owing))

-- ---- a full spool

pub full_has_some : (v : LedgerView) (size : ℕ) → size ≤ v.slots → is_full v.slots v.sizes size ≡ true →
    0 < length v.sizes
full_has_some v size fits full = go v.sizes (is-below v.slots (sum v.sizes + size) full)
  where
    go : (sizes : List ℕ) → v.slots < sum sizes + size → 0 < length sizes
    go [] over = absurd (omega (arith, over, fits))
    go (oldest ∷ sizes) over = omega arith

-- a message that isn't too long takes no more slots than there are
pub full_fits : (v : LedgerView) (long : ℕ) → room_for v long ≡ room.Full →
    (slots_for long ≤ v.slots) × (is_full v.slots v.sizes (slots_for long) ≡ true)
full_fits v long full =
    let within = full_within v long full in ((within_short v long within.0).1, within.1)

-- what could never be put is too long
pub keeps_all : (v : LedgerView) (message : Spooled) (overwrites : Bool) → v.slots < size_of message →
    stored overwrites message v ≡ Some (unstored (TooLong (spooled_name message)) v)
keeps_all v message overwrites over = rw (over_never v (length message.body) over) refl

-- the removals, by the two cases of the test
module _ (size : ℕ) (for_one : Option Spooled) where
  abbrev pub made_if : Bool → List ℕ → LedgerView → Booked
  made_if full sizes v =
      if full then and_then (oldest_out Overwritten for_one v) (room_made size for_one sizes) else quiet v

  -- one more leaves, or there is room
  pub made_step : (sizes : List ℕ) (v : LedgerView) → 0 < length sizes → is_full v.slots v.sizes size ≡ true →
      room_made size for_one sizes v ≡ and_then (oldest_out Overwritten for_one v) (room_made size for_one (drop 1 sizes))
  made_step [] v some full = absurd (omega (arith, some))
  made_step (oldest ∷ sizes) v some full = rw full refl

  pub made_done : (sizes : List ℕ) (v : LedgerView) → is_full v.slots v.sizes size ≡ false →
      room_made size for_one sizes v ≡ quiet v
  made_done [] v free = refl
  made_done (oldest ∷ sizes) v free = rw free refl

  -- slots and the next number stay
  pub made_stays : (sizes : List ℕ) (v : LedgerView) →
      ((room_made size for_one sizes v).next.slots ≡ v.slots) × (next_of (room_made size for_one sizes v).next ≡ next_of v)
  made_stays [] v = (refl, refl)
  made_stays (oldest ∷ sizes) v =
      go (is_full v.slots v.sizes size) (made_stays sizes (oldest_out Overwritten for_one v).next)
    where
      Stays : LedgerView → LedgerView → Type 0
      Stays w before = (w.slots ≡ before.slots) × (next_of w ≡ next_of before)

      less : LedgerView
      less = (oldest_out Overwritten for_one v).next

      go : (full : Bool) → Stays (room_made size for_one sizes less).next less → Stays (made_if full sizes v).next v
      go true rest = let parted = sum-parted v.sizes in (rest.0, rest.1 ∙ omega (arith, parted))
      go false rest = (refl, refl)

  -- and behind them there is room
  pub made_fits : (sizes : List ℕ) (v : LedgerView) → sizes ≡ v.sizes → size ≤ v.slots →
      is_full v.slots (room_made size for_one sizes v).next.sizes size ≡ false
  made_fits [] v same fits =
      subst (λ (sizes : List ℕ). is_full v.slots sizes size ≡ false) same (none-below v.slots (0 + size) (omega (arith, fits)))
  made_fits (oldest ∷ sizes) v same fits =
      go (is_full v.slots v.sizes size) refl
      (made_fits sizes (oldest_out Overwritten for_one v).next (ap (drop 1) same) fits)
    where
      go : (full : Bool) → is_full v.slots v.sizes size ≡ full →
          is_full v.slots (room_made size for_one sizes (oldest_out Overwritten for_one v).next).next.sizes size ≡ false →
          is_full v.slots (made_if full sizes v).next.sizes size ≡ false
      go true e rest = rest
      go false e rest = e

pub makes_room : (v : LedgerView) (message : Spooled) → IsLedger v → room_for v (length message.body) ≡ room.Full →
    room_for (with_room message v).next (length message.body) ≡ room.Fits
makes_room v message is full =
    let long = length message.body in
    let size = size_of message in
    let within = full_within v long full in
    let stays = made_stays size (Some message) v.sizes v in
    let number = within.0.number in
    let next = stays.1 in
    room_within (with_room message v).next long
    (record {
      short = ap (λ (n : ℕ). is_too_long 2 n long) stays.0 ∙ within.0.short;
      number = omega (arith, number, next);
    })
    (ap (λ (n : ℕ). is_full n (with_room message v).next.sizes size) stays.0
    ∙ made_fits size (Some message) v.sizes v refl (within_short v long within.0).1)
