-- Whether a spool has room for a message (this profile).
use Rattle.std.specs.Prelude.{◌≡◌, ℕ, ◌+◌, ◌^◌, ◌<◌, ◌≤◌, true, false}
use Rattle.spool_file.specs.Sizes.{is_too_long, slots_for}
use Rattle.spool_file.specs.declared.recovery.Known.{Known}
use Rattle.spool_slots.specs.declared.known.Fitting.{Fitting}
use Rattle.spool_slots.specs.declared.known.Fitting.TheVariants as fitting

-- for one that takes so many slots, whose length is right
abbrev pub SizeFits : Known → (size : ℕ) → Fitting → Type 0
SizeFits k size (fitting.Takes n) =
    (n ≡ size) × (k.next + size ≤ k.first + k.slots) × (k.next + size ≤ 2 ^ 63)
SizeFits k size fitting.TooLong = ⊥
SizeFits k size fitting.Full = k.first + k.slots < k.next + size
SizeFits k size fitting.NumbersSpent = (k.next + size ≤ k.first + k.slots) × (2 ^ 63 < k.next + size)

-- for one with so many bytes
abbrev pub FitsIn : Known → (long : ℕ) → Fitting → Type 0
FitsIn k long fitting.TooLong = is_too_long k.version k.slots long ≡ true
FitsIn k long (fitting.Takes n) =
    (is_too_long k.version k.slots long ≡ false) × SizeFits k (slots_for long) (fitting.Takes n)
FitsIn k long fitting.Full =
    (is_too_long k.version k.slots long ≡ false) × SizeFits k (slots_for long) fitting.Full
FitsIn k long fitting.NumbersSpent =
    (is_too_long k.version k.slots long ≡ false) × SizeFits k (slots_for long) fitting.NumbersSpent
