-- Whether a spool has room for a message, by its length and by its size.
use Rattle.std.proofs.Common.{◌≡◌, ℕ, Bool, true, false, if◌then◌else◌, Option, Some, None, refl, sym, ap, subst, arith}
use Rattle.spool_file.specs.Sizes.{is_too_long, slots_for}
use Rattle.spool_file.specs.declared.recovery.Known.{Known}
use Rattle.spool_slots.specs.Fitting.{FitsIn, SizeFits}
use Rattle.spool_slots.specs.declared.known.Fitting.{Fitting}
use Rattle.spool_slots.specs.declared.known.Fitting.TheVariants as fitting

abbrev size_if : Bool → ℕ → Option ℕ
size_if b n = if b then None else Some n

abbrev size_or : ℕ → Option ℕ → ℕ
size_or other None = other
size_or other (Some n) = n

pub none_fits : (b : Bool) (n : ℕ) → size_if b n ≡ None → b ≡ true
none_fits true n is = refl
none_fits false n is = absurd (grind (arith, is))

pub some_fits : (b : Bool) (n m : ℕ) → size_if b n ≡ Some m → (b ≡ false) × (m ≡ n)
some_fits true n m is = absurd (grind (arith, is))
some_fits false n m is = (refl, sym (ap (size_or n) is))

pub fits_by : (k : Known) (long size : ℕ) (r : Fitting) → is_too_long k.version k.slots long ≡ false →
    size ≡ slots_for long → SizeFits k size r → FitsIn k long r
fits_by k long size (fitting.Takes n) short same fits =
    (short, subst (λ (s : ℕ). SizeFits k s (fitting.Takes n)) same fits)
fits_by k long size fitting.TooLong short same fits = absurd fits
fits_by k long size fitting.Full short same fits = (short, subst (λ (s : ℕ). SizeFits k s fitting.Full) same fits)
fits_by k long size fitting.NumbersSpent short same fits =
    (short, subst (λ (s : ℕ). SizeFits k s fitting.NumbersSpent) same fits)
