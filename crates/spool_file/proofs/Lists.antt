-- Lists by number.
use Rattle.std.proofs.Common.{◌≡◌, ℕ, suc, ◌+◌, ◌==◌, ◌<◌, ◌≤◌, Bool, true, false, nat_lt, if◌then◌else◌, List, [], ◌∷◌}
use Rattle.std.proofs.Common.{length, refl, sym, ap, ◌∙◌, arith}
use Rattle.std.proofs.lemmas.Bool.Decides.{nat_tests}
use Rattle.std.proofs.lemmas.List.Elements.{All-nil, All-cons, All-head, All-tail}
use Rattle.std.specs.List.{All}
use Rattle.spool_file.specs.Area.{first_of, put_by_number, put_if}
use Rattle.spool_file.specs.Reading.{least_with}
use Rattle.spool_file.specs.Slot.{Message}

longer : (b : Bool) (m x : Message) (list more : List Message) → length more ≡ suc (length list) →
    length (if b then m ∷ x ∷ list else x ∷ more) ≡ suc (length (x ∷ list))
longer true m x list more is = refl
longer false m x list more is = ap suc is

pub length-put : (m : Message) (list : List Message) → length (put_by_number m list) ≡ suc (length list)
length-put m [] = refl
length-put m (x ∷ list) = longer (nat_lt m.number x.number) m x list (put_by_number m list) (length-put m list)

pub none_long : (list : List Message) → length list ≡ 0 → list ≡ []
none_long [] long = refl
none_long (x ∷ list) long = absurd (omega (arith, long))

first_if : (b : Bool) (m x : Message) (list more : List Message) →
    (floor : ℕ) → first_of floor (if b then m ∷ x ∷ list else x ∷ more) ≡ (if b then m.number else x.number)
first_if true m x list more floor = refl
first_if false m x list more floor = refl

not_none : (n : ℕ) → (suc n == 0) ≡ false
not_none n = grind (arith, nat_tests)

pub first_put : (floor : ℕ) (m : Message) (list : List Message) →
    first_of floor (put_by_number m list) ≡ least_with (length list) (first_of floor list) m.number
first_put floor m [] = refl
first_put floor m (x ∷ list) =
    first_if (nat_lt m.number x.number) m x list (put_by_number m list) floor
    ∙ ap (λ (b : Bool). if b then m.number else (if nat_lt m.number x.number then m.number else x.number))
    (sym (not_none (length list)))

-- ---- what holds of each message of a list

module _ (P : Message → Type 0) where
  all_if : (b : Bool) (m x : Message) (list more : List Message) → P m → All P (x ∷ list) → All P more →
      All P (if b then m ∷ x ∷ list else x ∷ more)
  all_if true m x list more here all rest = All-cons P m (x ∷ list) here all
  all_if false m x list more here all rest = All-cons P x more (All-head P x list all) rest

  all_put : (m : Message) (list : List Message) → P m → All P list → All P (put_by_number m list)
  all_put m [] here all = All-cons P m [] here all
  all_put m (x ∷ list) here all =
      all_if (nat_lt m.number x.number) m x list (put_by_number m list) here all
      (all_put m list here (All-tail P x list all))

  pub all_put_if : (b : Bool) (m : Message) (list : List Message) → (b ≡ true → P m) → All P list →
      All P (put_if b m list)
  all_put_if true m list here all = all_put m list (here refl) all
  all_put_if false m list here all = all

  of_if : (b : Bool) (m x : Message) (list more : List Message) → All P (if b then m ∷ x ∷ list else x ∷ more) →
      (All P more → P m × All P list) → P m × All P (x ∷ list)
  of_if true m x list more all rest = (All-head P m (x ∷ list) all, All-tail P m (x ∷ list) all)
  of_if false m x list more all rest =
      let r = rest (All-tail P x more all) in (r.0, All-cons P x list (All-head P x more all) r.1)

  of_put : (m : Message) (list : List Message) → All P (put_by_number m list) → P m × All P list
  of_put m [] all = (All-head P m [] all, All-nil P)
  of_put m (x ∷ list) all = of_if (nat_lt m.number x.number) m x list (put_by_number m list) all (of_put m list)

  pub of_put_if : (b : Bool) (m : Message) (list : List Message) → All P (put_if b m list) →
      (b ≡ true → P m) × All P list
  of_put_if true m list all = let r = of_put m list all in (λ is. r.0, r.1)
  of_put_if false m list all = (λ is. absurd (grind (arith, is)), all)

-- a number below one lies below a greater one
abbrev pub IsBelow : ℕ → Message → Type 0
IsBelow end m = m.number < end

pub all_less : (list : List Message) (a b : ℕ) → a ≤ b → All (IsBelow a) list → All (IsBelow b) list
all_less [] a b less all = All-nil (IsBelow b)
all_less (x ∷ list) a b less all =
    All-cons (IsBelow b) x list (omega (arith, less, All-head (IsBelow a) x list all))
    (all_less list a b less (All-tail (IsBelow a) x list all))

-- one more slot that stands is counted
pub counts_on : (floor count least : ℕ) (m : Message) (list : List Message) → count ≡ length list →
    least ≡ first_of floor list → (count + 1 ≡ length (put_by_number m list))
    × (least_with count least m.number ≡ first_of floor (put_by_number m list))
counts_on floor count least m list counted first = (
  omega (arith, counted, length-put m list),
  ap (λ (n : ℕ). least_with n least m.number) counted ∙ ap (λ (n : ℕ). least_with (length list) n m.number) first
      ∙ sym (first_put floor m list),
)
