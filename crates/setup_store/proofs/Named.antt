-- The copies that values of the setup's cell name: the one that a list is written in lies beside the one that counts.
use Rattle.std.proofs.Common.{◌≡◌, ◌⊎◌, ◌+◌, ◌-◌, ◌*◌, ◌^◌, ◌%◌, ◌/◌, ◌≤◌, ◌&&◌, ℕ, zero, suc, Bool, true, false}
use Rattle.std.proofs.Common.{nat_lt, nat_le, if◌then◌else◌, List, [], length, take, drop, Option, Some, None, ap, subst}
use Rattle.std.proofs.Common.{sym, refl, ◌∙◌, arith, inl, inr, length-drop}
use Rattle.std.proofs.lemmas.Bool.Decides.{nat_tests}
use Rattle.std.proofs.lemmas.List.{length-take-le}
use Rattle.std.specs.Option.{option_map}
use Rattle.std.specs.Prelude.{is_some}
use Rattle.disk_base.specs.Story.{Story, bytes_at, with_part}
use Rattle.gate_cell.specs.Cell.{cell_in}
use Rattle.spool_file.specs.File.{SpoolFile, file_in}
use Rattle.spool_file.specs.Setup.{area_end, area_in, area_of, area_size, copy_size, has_area, named_in, setup_cell}
use Rattle.spool_file.specs.Setup.{setup_in}
use Rattle.spool_file.specs.Slot.{slot_place}
use Rattle.spool_file.specs.declared.recovery.Known.{Known}
use Rattle.spool_slots.specs.Files.{area_written, written_in}
use Rattle.spool_slots.specs.Spool.{Rests}
use Rattle.spool_slots.proofs.Kept.{begin_of, long_of, named_there, written_same}
use Rattle.setup_store.specs.Copies.{HoldsList, copy_begin, copy_number, kept_length, names_list, spare_number}
use Rattle.setup_store.specs.Copies.{value_with}

-- ---- numbers

both_true : (a b : Bool) → (a && b) ≡ true → (a ≡ true) × (b ≡ true)
both_true true b is = (refl, is)
both_true false b is = absurd (cc)

pub record IsGood (value : ℕ) : Type 0 where
  pub number : copy_number value ≤ 1
  pub short : kept_length value ≤ copy_size

pub good_is : (value : ℕ) → names_list value ≡ true → IsGood value
good_is value is =
    let both = both_true (nat_lt (copy_number value) 2) (nat_le (kept_length value) copy_size) is in
    let number = both.0 in
    let short = both.1 in
    record { number = grind (arith, nat_tests, number); short = grind (arith, nat_tests, short) }

-- a list in the other copy doesn't reach into the one that is named
beside : (number kept long : ℕ) → number ≤ 1 → kept ≤ copy_size → long ≤ copy_size →
    (copy_size * number + kept ≤ copy_size * (1 - number % 2)) ⊎ (copy_size * (1 - number % 2) + long ≤ copy_size * number)
beside zero kept long few short fits = inl (omega (arith, short))
beside (suc zero) kept long few short fits = inr (omega (arith, fits))
beside (suc (suc n)) kept long few short fits = absurd (omega (arith, few))

pub spare_beside : (value : ℕ) (bytes : List ℕ) → names_list value ≡ true → length bytes ≤ copy_size →
    (begin_of value + long_of value ≤ copy_begin (spare_number value))
    ⊎ (copy_begin (spare_number value) + length bytes ≤ begin_of value)
spare_beside value bytes good short =
    let is = good_is value good in
    beside (copy_number value) (kept_length value) (length bytes) is.number is.short short

pub spare_few : (value : ℕ) → spare_number value ≤ 1
spare_few value = omega arith

number_of : (s n : ℕ) → n ≤ copy_size → (2 ^ 32 * s + n) / 2 ^ 32 ≡ s
number_of s n short = omega (arith, short)

length_of : (s n : ℕ) → n ≤ copy_size → (2 ^ 32 * s + n) % 2 ^ 32 ≡ n
length_of s n short = omega (arith, short)

-- the value that names a list there
pub number_with : (value : ℕ) (bytes : List ℕ) → length bytes ≤ copy_size →
    copy_number (value_with value bytes) ≡ spare_number value
number_with value bytes short = number_of (spare_number value) (length bytes) short

pub length_with : (value : ℕ) (bytes : List ℕ) → length bytes ≤ copy_size →
    kept_length (value_with value bytes) ≡ length bytes
length_with value bytes short = length_of (spare_number value) (length bytes) short

-- is good
both_so : (a b : Bool) → a ≡ true → b ≡ true → (a && b) ≡ true
both_so true b first second = second
both_so false b first second = absurd (cc)

pub names_with : (value : ℕ) (bytes : List ℕ) → length bytes ≤ copy_size → names_list (value_with value bytes) ≡ true
names_with value bytes short =
    let number = number_with value bytes short in
    let long = length_with value bytes short in
    let few = spare_few value in
    both_so (nat_lt (copy_number (value_with value bytes)) 2) (nat_le (kept_length (value_with value bytes)) copy_size)
    (grind (arith, nat_tests, number, few)) (grind (arith, nat_tests, long, short))

inside_by : (spare n size : ℕ) → spare ≤ 1 → n ≤ copy_size → size ≡ area_size → copy_size * spare + n ≤ size
inside_by spare n size few short long = omega (arith, few, short, long)

-- ---- bytes

-- the area of a file that has one
module _ (s : Story) (k : Known) (rests : Rests s k) (has : has_area k.slots (length s.now.bytes) ≡ true) where
  abbrev pub area : List ℕ
  area = bytes_at s.now.bytes (slot_place k.slots) area_size

  pub area_is : area_in s.now.bytes ≡ Some area
  area_is =
      ap (λ (n : ℕ). area_of n s.now.bytes) (sym rests.slots_are)
      ∙ ap (λ (b : Bool). if b then Some area else None) has

  reaches : area_end k.slots ≤ length s.now.bytes
  reaches = grind (arith, nat_tests, has)

  pub area_long : length area ≡ area_size
  area_long =
      length-take-le area_size (drop (slot_place k.slots) s.now.bytes)
      (let left = length-drop (slot_place k.slots) s.now.bytes in omega (arith, left, reaches))

  pub kept_there : is_some (setup_in s.now.bytes).bytes ≡ true
  kept_there =
      ap (λ (told : Option (List ℕ)).
      is_some (option_map (named_in (cell_in s.now.bytes setup_cell).value) told)) area_is

  module _ (value : ℕ) (bytes : List ℕ) (short : length bytes ≤ copy_size) where
    pub inside : copy_begin (spare_number value) + length bytes ≤ length area
    inside = inside_by (spare_number value) (length bytes) (length area) (spare_few value) short area_long

    -- the file is the same, whatever is written there, and the new value names what was written
    pub file_same : (part : List ℕ) → length part ≡ length bytes → value ≡ (cell_in s.now.bytes setup_cell).value →
        names_list value ≡ true →
        written_in (copy_begin (spare_number value)) part s.now.bytes ≡ file_in s.now.bytes
    file_same part long is good =
        let side = spare_beside value part good (subst (λ (n : ℕ). n ≤ copy_size) (sym long) short) in
        written_same s.now.bytes part area (copy_begin (spare_number value)) area_is
        (subst (λ (n : ℕ). copy_begin (spare_number value) + n ≤ length area) (sym long) inside)
        (subst (λ (n : ℕ).
        (begin_of n + long_of n ≤ copy_begin (spare_number value))
        ⊎ (copy_begin (spare_number value) + length part ≤ begin_of n)) is side)

    pub names_written :
        option_map (named_in (value_with value bytes))
        (area_written (copy_begin (spare_number value)) bytes s.now.bytes)
        ≡ Some bytes
    names_written =
        ap (λ (told : Option (List ℕ)). option_map (named_in (value_with value bytes))
        (option_map (λ a. with_part a (copy_begin (spare_number value)) bytes) told)) area_is
        ∙ ap (λ (kept : List ℕ). Some kept)
        (named_there area bytes (copy_begin (spare_number value)) (value_with value bytes) inside
        (ap (λ (n : ℕ). copy_size * n) (number_with value bytes short)) (length_with value bytes short))

  -- and an empty list is named without a write
  pub names_none : (value : ℕ) → option_map (named_in (value_with value [])) (area_in s.now.bytes) ≡ Some []
  names_none value =
      ap (λ (told : Option (List ℕ)). option_map (named_in (value_with value [])) told) area_is
      ∙ ap (λ (n : ℕ). Some (take n (drop (copy_size * copy_number (value_with value [])) area)))
      (length_with value [] (omega arith))

-- a file without an area keeps nothing
pub none_kept : (s : Story) (k : Known) → Rests s k → has_area k.slots (length s.now.bytes) ≡ false →
    (setup_in s.now.bytes).bytes ≡ None
none_kept s k rests none =
    let area = bytes_at s.now.bytes (slot_place k.slots) area_size in
    ap (λ (n : ℕ). option_map (named_in (cell_in s.now.bytes setup_cell).value) (area_of n s.now.bytes))
    (sym rests.slots_are)
    ∙ ap (λ (b : Bool). option_map (named_in (cell_in s.now.bytes setup_cell).value) (if b then Some area else None)) none

pub none_held : (file : SpoolFile) → file.setup.bytes ≡ None → HoldsList file
none_held file none some = absurd (both some (ap (λ (bytes : Option (List ℕ)). is_some bytes) none))
  where
    both : {b : Bool} → b ≡ true → b ≡ false → ⊥
    both one two = cc
