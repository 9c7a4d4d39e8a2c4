-- How far a text goes on as an item: the place of the first byte with which none goes on, and the length of a text that
-- is one or ends too soon (this profile).
use Rattle.std.specs.Prelude.{ℕ, suc, ◌+◌, ◌*◌, ◌-◌, ◌^◌, ◌≤◌, ◌<◌, ◌==◌, ◌&&◌, nat_le, not, Bool, false, List, [], ◌∷◌, drop, length, take, Option, Some, if◌then◌else◌}
use Rattle.std.specs.Char.{is_ascii_digit}
use Rattle.secs_text.specs.Reading.{begins, first_text_fault}
use Rattle.secs_text.specs.declared.text_fault.TextFault.{TextFault}
use Rattle.secs_text.specs.declared.text_fault.TextFault.TheVariants as fault

-- ---- numbers

-- as far as digits go on from a number to one of at most `most`
abbrev pub digits_go : (most : ℕ) → (n : ℕ) → List ℕ → ℕ
digits_go most n [] = 0
digits_go most n (b ∷ text) =
    let next = 10 * n + (b - 48) in
    if is_ascii_digit b && nat_le next most then suc (digits_go most next text) else 0

-- half of how many numbers a kind has, by the digit in its name
abbrev pub half_of : ℕ → ℕ
half_of size =
    if size == 49 then 2 ^ 7
    else if size == 50 then 2 ^ 15
    else if size == 52 then 2 ^ 31
    else 2 ^ 63

abbrev pub signed_goes : (half : ℕ) → List ℕ → ℕ
signed_goes half text =
    if begins 45 text then digits_go half 0 (drop 1 text) + 1 else digits_go (half - 1) 0 text

-- as far as a number of the kind of this name goes
abbrev pub kind_goes : List ℕ → List ℕ → ℕ
kind_goes (letter ∷ size ∷ name) text =
    if letter == 73 then signed_goes (half_of size) text else digits_go (2 * half_of size - 1) 0 text
kind_goes _ text = 0

-- ---- the item that is open

-- what stands behind the last `<` that isn't quoted, or else this
abbrev pub behind_open : (quoted : Bool) → List ℕ → List ℕ → List ℕ
behind_open quoted last [] = last
behind_open quoted last (b ∷ text) =
    if b == 34 then behind_open (not quoted) last text
    else if b == 60 && not quoted then behind_open quoted text text
    else behind_open quoted last text

abbrev pub open_name : List ℕ → List ℕ
open_name = behind_open false []

-- as far as a front goes that is one of an item, its numbers aside: no number without a sign begins with a minus
abbrev pub front_goes : List ℕ → ℕ
front_goes front =
    let last = length front - 1 in
    if begins 85 (open_name front) && begins 45 (drop last front) then last else length front

-- ---- items

abbrev pub goes_to_fault : List ℕ → Option TextFault → ℕ
goes_to_fault text (Some (fault.Syntax at)) = front_goes (take at text)
goes_to_fault text (Some (fault.Range at)) = at + kind_goes (open_name (take at text)) (drop at text)
goes_to_fault text (Some (fault.TooDeep at)) = at + 1
goes_to_fault text _ = length text

-- as far as an item goes
abbrev pub item_goes : List ℕ → ℕ
item_goes text = goes_to_fault text (first_text_fault text)

-- the fault stands in the text
abbrev pub StandsIn : List ℕ → Option TextFault → Type 0
StandsIn text (Some (fault.Syntax at)) = at ≤ length text
StandsIn text (Some (fault.Range at)) = at < length text
StandsIn text (Some (fault.TooDeep at)) = at < length text
StandsIn text _ = Unit {0}
