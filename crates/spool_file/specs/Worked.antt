-- Files worked by hand.
use Rattle.std.specs.Prelude.{◌≡◌, ℕ, zero, suc, ◌+◌, ◌-◌, ◌^◌, true, false, List, [], ◌∷◌, ◌++◌, map, replicate, take}
use Rattle.std.specs.Prelude.{Option, Some, None}
use Rattle.spool_file.specs.Breaks.{area_break, list_below, used_below}
use Rattle.spool_file.specs.Format.{first_page}
use Rattle.spool_file.specs.Front.{front_break, version_of}
use Rattle.spool_file.specs.Sizes.{is_too_long, slots_for}
use Rattle.spool_file.specs.Slot.{Slot, slot_message, slot_place}
use Rattle.spool_file.specs.declared.slot.Frame.{Frame}

-- a slot with the head of an S6F11 of this number, whose body has so many bytes; and one that is closed
abbrev pub open_slot : (number len : ℕ) → List ℕ → Slot
open_slot number len area = record {
  gate = 90;
  head = record { number = number; stream = 6; function = 11; len = len };
  area = area;
}

abbrev pub closed_slot : List ℕ → Slot
closed_slot area = record {
  gate = 0;
  head = record { number = 0; stream = 0; function = 0; len = 0 };
  area = area;
}

-- slots in their order, and closed ones behind them
abbrev pub slots_as : List Slot → ℕ → Slot
slots_as [] k = closed_slot []
slots_as (slot ∷ slots) zero = slot
slots_as (slot ∷ slots) (suc k) = slots_as slots k

abbrev pub frame_as : (version slots : ℕ) → Frame
frame_as version slots = record { version = version; slots = slots; floor = 0 }

-- where slots break, and their numbers
abbrev pub broken_at : (version slots : ℕ) → List Slot → Option ℕ
broken_at version slots all = area_break (frame_as version slots) (slots_as all)

abbrev pub numbers_in : (version slots : ℕ) → List Slot → List ℕ
numbers_in version slots all =
    map (λ message. message.number) (list_below (frame_as version slots) (slots_as all) slots)

-- the front of a file of three slots, with a last letter of its name and a gate of its version
abbrev pub front_as : (letter gate : ℕ) → List ℕ
front_as letter gate =
    (71 ∷ 76 ∷ 83 ∷ 80 ∷ 79 ∷ 79 ∷ 76 ∷ letter ∷ []) ++ (0 ∷ 0 ∷ 0 ∷ 3 ∷ []) ++ replicate 34 0 ++ gate ∷ []

-- the tests of a front: the version goes by the lowest bit of its gate, and the name's last letter counts in version 1
-- alone; of fewer than 47 bytes it is version 2
pub record FrontsAreAsWorked : Type 0 where
  pub one : front_break (front_as 49 0) 16384 ≡ None
  pub two : front_break (front_as 50 1) 16384 ≡ None
  pub upgrading : front_break (front_as 49 127) 16384 ≡ None
  pub odd : version_of (front_as 49 127) ≡ 2
  pub even : version_of (front_as 49 16) ≡ 1
  pub letter : front_break (front_as 50 0) 16384 ≡ Some 7
  pub name : front_break (71 ∷ 76 ∷ 83 ∷ 80 ∷ 79 ∷ 79 ∷ 76 ∷ []) 7 ≡ Some 7
  pub short : front_break ((71 ∷ 76 ∷ 83 ∷ 80 ∷ 79 ∷ 79 ∷ 76 ∷ 88 ∷ []) ++ replicate 12 0) 20 ≡ Some 8
  pub none : front_break (replicate 47 0) 16384 ≡ Some 0
  pub small : front_break (front_as 50 1) 12288 ≡ Some 12288
  -- a new file begins so
  pub made : take 47 (first_page 3) ≡ front_as 50 1

-- how many slots bodies take, and which are too long
pub record SizesAreAsWorked : Type 0 where
  pub empty : slots_for 0 ≡ 1
  pub one : slots_for 4081 ≡ 1
  pub more : slots_for 4082 ≡ 2
  pub three : slots_for 9000 ≡ 3
  pub most : slots_for 1048576 ≡ 257
  pub first : is_too_long 1 3 4082 ≡ true
  pub narrow : is_too_long 2 1 4082 ≡ true
  pub wide : is_too_long 2 3 4082 ≡ false
  pub whole : is_too_long 2 257 1048576 ≡ false
  pub over : is_too_long 2 65535 1048577 ≡ true

-- the tests of the slots, whose first break is a place in the file
pub record SlotsAreAsWorked : Type 0 where
  -- 0, 2 and 3: there are more numbers than messages; no message leads to 2
  pub gap_one : broken_at 1 8 (open_slot 0 2 [] ∷ closed_slot [] ∷ open_slot 2 2 [] ∷ open_slot 3 2 [] ∷ [])
      ≡ Some (slot_place 3 + 1)
  pub gap_two : broken_at 2 8 (open_slot 0 2 [] ∷ closed_slot [] ∷ open_slot 2 2 [] ∷ open_slot 3 2 [] ∷ [])
      ≡ Some (slot_place 2 + 1)
  -- 0, of two slots, and 2: a gap in version 1 alone, where its length is too much
  pub pair : broken_at 2 8 (open_slot 0 5000 [] ∷ closed_slot [] ∷ open_slot 2 2 [] ∷ []) ≡ None
  pub long : broken_at 1 8 (open_slot 0 5000 [] ∷ closed_slot [] ∷ open_slot 2 2 [] ∷ []) ≡ Some (slot_place 0 + 11)
  -- two chains: the first slot of the second one is named
  pub chains : broken_at 2 8 (open_slot 0 2 [] ∷ open_slot 1 2 [] ∷ closed_slot [] ∷ open_slot 3 2 []
      ∷ open_slot 4 2 [] ∷ []) ≡ Some (slot_place 3 + 1)
  -- 2, of two slots, and 0, of two, in three: the sum, in the slot of 2
  pub sum : broken_at 2 3 (open_slot 0 5000 [] ∷ closed_slot [] ∷ open_slot 2 5000 [] ∷ []) ≡ Some (slot_place 2 + 11)
  -- a number whose message would pass 2^63
  pub end : broken_at 2 2 (open_slot (2 ^ 63 - 2) 5000 [] ∷ []) ≡ None
  pub behind : broken_at 2 3 (open_slot (2 ^ 63 - 2) 9000 [] ∷ []) ≡ Some (slot_place 0 + 1)
  -- 1, and 2, of two slots, in three: 2 wraps
  pub wraps : broken_at 2 3 (closed_slot [] ∷ open_slot 1 2 [] ∷ open_slot 2 5000 [] ∷ []) ≡ None
  pub numbers : numbers_in 2 3 (closed_slot [] ∷ open_slot 1 2 [] ∷ open_slot 2 5000 [] ∷ []) ≡ 1 ∷ 2 ∷ []
  pub used : used_below 0 (slots_as (closed_slot [] ∷ open_slot 1 2 [] ∷ open_slot 2 5000 [] ∷ [])) 3 ≡ 3

-- a message goes on in the areas of the next numbers' slots, also behind the last slot, and its head counts in the first
-- one alone
pub record BodiesAreAsWorked (a b c : List ℕ) : Type 0 where
  pub wraps : slot_message 3 (slots_as (closed_slot a ∷ open_slot 1 2 b ∷ open_slot 2 9000 c ∷ [])) 2
      ≡ record { number = 2; stream = 6; function = 11; body = take 9000 (c ++ (a ++ (b ++ []))) }

pub record FilesAreAsWorked : Type 0 where
  pub fronts : FrontsAreAsWorked
  pub sizes : SizesAreAsWorked
  pub slots : SlotsAreAsWorked
  pub bodies : (a b c : List ℕ) → BodiesAreAsWorked a b c
