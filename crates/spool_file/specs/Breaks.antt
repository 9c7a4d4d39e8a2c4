-- Where the slots of a spool file break: the tests of each version, in their order (this profile).
use Rattle.std.specs.Prelude.{ℕ, zero, suc, ◌+◌, ◌%◌, ◌==◌, Bool, ◌&&◌, nat_le, nat_lt, not, if◌then◌else◌, max}
use Rattle.std.specs.Prelude.{List, [], ◌∷◌, length, Option, Some, None}
use Rattle.spool_file.specs.Area.{any_below, first_at, first_break, first_of, messages_below}
use Rattle.spool_file.specs.Sizes.{slots_for}
use Rattle.spool_file.specs.Slot.{Message, Slot, in_slot, slot_break, slot_message, stands_on}
use Rattle.spool_file.specs.declared.slot.Frame.{Frame}
use Rattle.spool_file.specs.declared.slot.SlotHead.{SlotHead}

-- a slot holds a message where it stands
abbrev pub slot_stands : ℕ → (ℕ → Slot) → ℕ → Bool
slot_stands floor slot k = stands_on floor (slot k)

-- the list that the first n slots stand for
abbrev pub list_below : Frame → (ℕ → Slot) → ℕ → List Message
list_below frame slot n = messages_below (slot_stands frame.floor slot) (slot_message frame.slots slot) n

-- ---- of both versions

-- the fields of the slots that stand
abbrev pub fields_break : Frame → (ℕ → Slot) → Option ℕ
fields_break frame slot = first_at (λ k. in_slot k (slot_break frame k (slot k))) frame.slots

-- ---- of version 1: each message takes one slot, and there are as many numbers as messages

-- the number behind those of a list without gaps, whose messages take a slot each
abbrev pub end_of : ℕ → List Message → ℕ
end_of floor list = first_of floor list + length list

-- where a slot that stands has a number at or behind an end
abbrev pub ahead_break : (floor end : ℕ) → Slot → Option ℕ
ahead_break floor end slot = if stands_on floor slot && nat_le end slot.head.number then Some 1 else None

abbrev pub end_break : Frame → (ℕ → Slot) → Option ℕ
end_break frame slot = first_at (λ k. in_slot k
    (ahead_break frame.floor (end_of frame.floor (list_below frame slot frame.slots)) (slot k))) frame.slots

-- ---- of version 2: each message but the first follows another, and together they take no more slots than there are

-- the number behind those that the message of a head takes
abbrev pub head_end : SlotHead → ℕ
head_end head = head.number + slots_for head.len

-- whether a slot stands, and this number is the one behind its message
abbrev pub leads_to : (floor number : ℕ) → Slot → Bool
leads_to floor number slot = stands_on floor slot && (head_end slot.head == number)

-- where a slot that stands has neither the least number nor the one behind the message of one of the slots
abbrev pub lone_break : Frame → (ℕ → Slot) → (least : ℕ) → Slot → Option ℕ
lone_break frame slot least here =
    if stands_on frame.floor here && not (here.head.number == least)
    && not (any_below (λ j. leads_to frame.floor here.head.number (slot j)) frame.slots) then Some 1
    else None

abbrev pub chain_break : Frame → (ℕ → Slot) → Option ℕ
chain_break frame slot = first_at (λ k. in_slot k
    (lone_break frame slot (first_of frame.floor (list_below frame slot frame.slots)) (slot k))) frame.slots

-- of the first n slots, how many slots the messages of those take that stand, and the greatest number of these
abbrev pub used_below : ℕ → (ℕ → Slot) → ℕ → ℕ
used_below floor slot zero = 0
used_below floor slot (suc k) =
    used_below floor slot k + (if stands_on floor (slot k) then slots_for (slot k).head.len else 0)

abbrev pub greatest_below : ℕ → (ℕ → Slot) → ℕ → ℕ
greatest_below floor slot zero = 0
greatest_below floor slot (suc k) =
    max (greatest_below floor slot k) (if stands_on floor (slot k) then (slot k).head.number else 0)

-- the length in the slot of the greatest number
abbrev pub sum_break : Frame → (ℕ → Slot) → Option ℕ
sum_break frame slot =
    if nat_lt frame.slots (used_below frame.floor slot frame.slots)
    then in_slot (greatest_below frame.floor slot frame.slots % frame.slots) (Some 11)
    else None

-- ---- the tests in their order, and where the slots break

abbrev pub slots_tests : Frame → (ℕ → Slot) → List (Option ℕ)
slots_tests frame slot =
    if frame.version == 1 then fields_break frame slot ∷ end_break frame slot ∷ []
    else fields_break frame slot ∷ chain_break frame slot ∷ sum_break frame slot ∷ []

abbrev pub area_break : Frame → (ℕ → Slot) → Option ℕ
area_break frame slot = first_break (slots_tests frame slot)
