-- A slot of the spool file, and the message whose head it has (this profile).
use Rattle.std.specs.Prelude.{ℕ, zero, suc, ◌+◌, ◌*◌, ◌^◌, ◌%◌, ◌-◌, ◌==◌, Bool, ◌&&◌, nat_le, nat_lt, not}
use Rattle.std.specs.Prelude.{if◌then◌else◌, List, [], ◌++◌, length, take, drop, slice_index, Option, Some, None}
use Rattle.std.specs.Int.{w32, w64, from_be_bytes}
use Rattle.std.specs.Option.{option_map}
use Rattle.disk_base.specs.Story.{bytes_at}
use Rattle.spool_file.specs.Sizes.{is_too_long, slots_for}
use Rattle.spool_file.specs.declared.slot.Frame.{Frame}
use Rattle.spool_file.specs.declared.slot.SlotHead.{SlotHead}

-- where slot k begins
abbrev pub slot_place : ℕ → ℕ
slot_place k = 4096 * (k + 1)

-- the byte that opens a slot, the fields behind it, and the area of the body
pub record Slot : Type 0 where
  pub gate : ℕ
  pub head : SlotHead
  pub area : List ℕ

-- what the fourteen bytes behind a gate say: number, W bit with stream, function, length of the body; numbers have the
-- high byte first
abbrev pub head_of : List ℕ → SlotHead
head_of fields = record {
  number = from_be_bytes w64 (take 8 fields);
  stream = slice_index fields 8 % 128;
  function = slice_index fields 9;
  len = from_be_bytes w32 (take 4 (drop 10 fields));
}

-- slot k of a file
abbrev pub slot_in : List ℕ → ℕ → Slot
slot_in bytes k = record {
  gate = slice_index bytes (slot_place k);
  head = head_of (bytes_at bytes (slot_place k + 1) 14);
  area = bytes_at bytes (slot_place k + 15) 4081;
}

abbrev pub is_open : Slot → Bool
is_open slot = slot.gate == 90

-- one stands where its number isn't below the floor; what is in any other slot counts for nothing
abbrev pub stands_on : ℕ → Slot → Bool
stands_on floor slot = is_open slot && nat_le floor slot.head.number

-- a message with its number; its W bit counts as set
pub record Message : Type 0 where
  pub number : ℕ
  pub stream : ℕ
  pub function : ℕ
  pub body : List ℕ

-- how many numbers a message takes, the first of which is its own: one a slot
abbrev pub width : Message → ℕ
width message = slots_for (length message.body)

-- the areas of so many slots in a row, from that of a number on, in a file of so many slots
abbrev pub areas_from : (slots : ℕ) → (ℕ → Slot) → (number more : ℕ) → List ℕ
areas_from slots slot number zero = []
areas_from slots slot number (suc more) =
    (slot (number % slots)).area ++ areas_from slots slot (number + 1) more

-- the message whose head is in a slot, and whose body goes on so behind the slot's area
abbrev pub message_of : Slot → List ℕ → Message
message_of slot further = record {
  number = slot.head.number;
  stream = slot.head.stream;
  function = slot.head.function;
  body = take slot.head.len (slot.area ++ further);
}

-- that of slot k: each further piece of the body is in the slot of the next number
abbrev pub slot_message : (slots : ℕ) → (ℕ → Slot) → ℕ → Message
slot_message slots slot k =
    message_of (slot k) (areas_from slots slot ((slot k).head.number + 1) (slots_for (slot k).head.len - 1))

-- where the fields of a slot k that stands break, as a place in the slot
abbrev pub head_break : Frame → ℕ → SlotHead → Option ℕ
head_break frame k head =
    if is_too_long frame.version frame.slots head.len then Some 11
    else (if not (head.number % frame.slots == k) then Some 1
    else (if nat_lt (2 ^ 63 - slots_for head.len) head.number then Some 1
    else (if head.function % 2 == 0 then Some 10
    else None)))

-- no other one breaks
abbrev pub slot_break : Frame → ℕ → Slot → Option ℕ
slot_break frame k slot = if stands_on frame.floor slot then head_break frame k slot.head else None

-- a place in slot k as one in the file
abbrev pub in_slot : ℕ → Option ℕ → Option ℕ
in_slot k place = option_map (λ p. slot_place k + p) place
