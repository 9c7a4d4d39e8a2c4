-- What a ledger has room for, by its limits one by one.
use Rattle.std.proofs.Common.{◌≡◌, ◌||◌, ℕ, ◌+◌, ◌^◌, ◌<◌, ◌≤◌, nat_lt, Bool, true, false, if◌then◌else◌, Some, None, refl, arith}
use Rattle.std.specs.Prelude.{sum}
use Rattle.std.proofs.lemmas.Bool.Decides.{nat_tests}
use Rattle.gem_spool.specs.Spool.{room_by}
use Rattle.gem_spool.specs.declared.count.Count.{Count}
use Rattle.gem_spool.specs.declared.spool.Room.TheVariants as room
use Rattle.spool_file.specs.Sizes.{is_too_long, slots_for}
use Rattle.spool_ledger.specs.Ledger.{LedgerView, decided_count, is_full, room_for}

pub not-below : (m n : ℕ) → nat_lt m n ≡ false → n ≤ m
not-below m n over = grind (arith, nat_tests, over)

pub is-below : (m n : ℕ) → nat_lt m n ≡ true → m < n
is-below m n under = grind (arith, nat_tests, under)

pub none-below : (m n : ℕ) → n ≤ m → nat_lt m n ≡ false
none-below m n over = grind (arith, nat_tests, over)

pub some-below : (m n : ℕ) → m < n → nat_lt m n ≡ true
some-below m n less = grind (arith, nat_tests, less)

neither : (one two : Bool) → (one || two) ≡ false → (one ≡ false) × (two ≡ false)
neither true two none = absurd (grind (arith, none))
neither false two none = (refl, none)

either-two : (one two : Bool) → two ≡ true → (one || two) ≡ true
either-two true two is = refl
either-two false two is = is

-- the limits, of a message that isn't too long
pub record IsWithin (never : Bool) (size : ℕ) (c : Count) : Type 0 where
  pub short : never ≡ false
  pub number : c.next + size ≤ 2 ^ 63

-- where there is room none is passed, and in a full spool the last one
pub fits_by : (never : Bool) (size : ℕ) (c : Count) → room_by c (if never then None else Some size) ≡ room.Fits →
    IsWithin never size c × (c.used + size ≤ c.slots)
fits_by true size c fits = absurd (grind (arith, fits))
fits_by false size c fits =
    go (nat_lt (2 ^ 63) (c.next + size)) refl (nat_lt c.slots (c.used + size)) refl fits
  where
    go : (spent : Bool) → nat_lt (2 ^ 63) (c.next + size) ≡ spent → (full : Bool) →
        nat_lt c.slots (c.used + size) ≡ full →
        (if spent then room.NumbersSpent else (if full then room.Full else room.Fits)) ≡ room.Fits →
        IsWithin false size c × (c.used + size ≤ c.slots)
    go true over full test is = absurd (grind (arith, is))
    go false over true test is = absurd (grind (arith, is))
    go false over false test is =
        (record { short = refl; number = not-below (2 ^ 63) (c.next + size) over }, not-below c.slots (c.used + size) test)

full_by : (never : Bool) (size : ℕ) (c : Count) → room_by c (if never then None else Some size) ≡ room.Full →
    IsWithin never size c × (nat_lt c.slots (c.used + size) ≡ true)
full_by true size c full = absurd (grind (arith, full))
full_by false size c full =
    go (nat_lt (2 ^ 63) (c.next + size)) refl (nat_lt c.slots (c.used + size)) refl full
  where
    go : (spent : Bool) → nat_lt (2 ^ 63) (c.next + size) ≡ spent → (over : Bool) →
        nat_lt c.slots (c.used + size) ≡ over →
        (if spent then room.NumbersSpent else (if over then room.Full else room.Fits)) ≡ room.Full →
        IsWithin false size c × (nat_lt c.slots (c.used + size) ≡ true)
    go true above over test is = absurd (grind (arith, is))
    go false above false test is = absurd (grind (arith, is))
    go false above true test is = (record { short = refl; number = not-below (2 ^ 63) (c.next + size) above }, test)

room_by_within : (never : Bool) (size : ℕ) (c : Count) → IsWithin never size c → c.used + size ≤ c.slots →
    room_by c (if never then None else Some size) ≡ room.Fits
room_by_within never size c is free =
    rw (is.short) (rw (none-below (2 ^ 63) (c.next + size) is.number) (rw (none-below c.slots (c.used + size) free) refl))

module _ (v : LedgerView) (long : ℕ) where
  abbrev never : Bool
  never = is_too_long 2 v.slots long

  abbrev pub Within : Type 0
  Within = IsWithin never (slots_for long) (decided_count v)

  pub fits_within : room_for v long ≡ room.Fits → Within × (sum v.sizes + slots_for long ≤ v.slots)
  fits_within fits = fits_by never (slots_for long) (decided_count v) fits

  pub full_within : room_for v long ≡ room.Full → Within × (is_full v.slots v.sizes (slots_for long) ≡ true)
  full_within full = full_by never (slots_for long) (decided_count v) full

  pub room_within : Within → is_full v.slots v.sizes (slots_for long) ≡ false → room_for v long ≡ room.Fits
  room_within is free =
      room_by_within never (slots_for long) (decided_count v) is (not-below v.slots (sum v.sizes + slots_for long) free)

  -- it has at most a mebibyte, and takes no more slots than there are
  pub within_short : Within → (long ≤ 1048576) × (slots_for long ≤ v.slots)
  within_short is =
      let both = neither (nat_lt 1048576 long) (nat_lt v.slots (slots_for long)) is.short in
      (not-below 1048576 long both.0, not-below v.slots (slots_for long) both.1)

  -- what could never be put is too long
  pub over_never : v.slots < slots_for long → room_for v long ≡ room.TooLong
  over_never over =
      rw (either-two (nat_lt 1048576 long) (nat_lt v.slots (slots_for long)) (some-below v.slots (slots_for long) over)) refl
