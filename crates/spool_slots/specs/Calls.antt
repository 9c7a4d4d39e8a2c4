-- The calls of the disk that each work makes (this profile).
use Rattle.std.specs.Prelude.{ℕ, ◌+◌, ◌*◌, ◌%◌, ◌==◌, Bool, true, false, if◌then◌else◌, List, [], ◌∷◌, ◌++◌, length, take}
use Rattle.std.specs.Prelude.{drop}
use Rattle.std.specs.Int.{w32, w64, to_be_bytes}
use Rattle.disk_base.specs.Calls.{DiskCall, read_call, sync_call, write_call}
use Rattle.disk_base.specs.declared.disk.DiskAnswer.TheVariants.{Done}
use Rattle.spool_file.specs.Logs.{calls_below}
use Rattle.spool_file.specs.Sizes.{slots_for}
use Rattle.spool_file.specs.Slot.{slot_place}

-- where the slot of a number begins
abbrev pub number_place : (slots number : ℕ) → ℕ
number_place slots number = slot_place (number % slots)

-- ---- of a put

-- a look at the gate of a number's slot, and at those of so many slots in a row, from that of a number on
abbrev pub gate_look : (slots number : ℕ) → List DiskCall
gate_look slots number = read_call (number_place slots number) 1 Done ∷ []

abbrev pub gate_looks : (slots number n : ℕ) → List DiskCall
gate_looks slots number n = calls_below (λ p. gate_look slots (number + p)) n

-- a 00 in a gate that is open, and in each of those in a row that are
abbrev pub gate_shut : (slots number : ℕ) → Bool → List DiskCall
gate_shut slots number true = write_call (number_place slots number) (0 ∷ []) Done ∷ []
gate_shut slots number false = []

abbrev pub gate_shuts : (slots number : ℕ) → List Bool → List DiskCall
gate_shuts slots number [] = []
gate_shuts slots number (is_open ∷ open_gates) =
    gate_shut slots number is_open ++ gate_shuts slots (number + 1) open_gates

-- with a sync behind them, where there are any
abbrev pub synced : List DiskCall → List DiskCall
synced [] = []
synced (call ∷ calls) = call ∷ calls ++ sync_call Done ∷ []

-- the bytes of the first slot of a message, which stand behind its gate
abbrev pub parts_of : (number stream function : ℕ) → List ℕ → List ℕ
parts_of number stream function body =
    to_be_bytes w64 number ++ ((128 + stream) ∷ []) ++ (function ∷ []) ++ to_be_bytes w32 (length body)
    ++ take 4081 body

-- the piece of a body in the p-th of its slots
abbrev pub piece_of : List ℕ → (p : ℕ) → List ℕ
piece_of body p = take 4081 (drop (4081 * p) body)

-- what a message has in the p-th of its slots, and where that begins there: all behind the gate in the first one, and in
-- each other one its piece of the body, behind the places of the fields
abbrev pub part_bytes : (number stream function : ℕ) → List ℕ → (p : ℕ) → List ℕ
part_bytes number stream function body p =
    if p == 0 then parts_of number stream function body else piece_of body p

abbrev pub part_place : (p : ℕ) → ℕ
part_place p = if p == 0 then 1 else 15

-- its write, and those of the first n slots
abbrev pub part_write : (slots number stream function : ℕ) → List ℕ → (p : ℕ) → List DiskCall
part_write slots number stream function body p =
    write_call (number_place slots (number + p) + part_place p) (part_bytes number stream function body p) Done ∷ []

abbrev pub part_writes : (slots number stream function : ℕ) → List ℕ → (n : ℕ) → List DiskCall
part_writes slots number stream function body n = calls_below (part_write slots number stream function body) n

-- those of a put up to its last gate: looks, 00s with a sync, the message's parts, and a sync
abbrev pub shut_calls : (slots number : ℕ) → List Bool → List DiskCall
shut_calls slots number open_gates =
    gate_looks slots number (length open_gates) ++ synced (gate_shuts slots number open_gates)

abbrev pub part_calls : (slots number stream function : ℕ) → List ℕ → List DiskCall
part_calls slots number stream function body =
    part_writes slots number stream function body (slots_for (length body)) ++ sync_call Done ∷ []

abbrev pub stage_calls : (slots number : ℕ) → List Bool → (stream function : ℕ) → List ℕ → List DiskCall
stage_calls slots number open_gates stream function body =
    shut_calls slots number open_gates ++ part_calls slots number stream function body

-- ---- of a drop, and of an upgrade

-- a write of one byte with its sync
abbrev pub byte_calls : (at byte : ℕ) → List DiskCall
byte_calls at byte = write_call at (byte ∷ []) Done ∷ sync_call Done ∷ []

-- a read of the length in the slot at a place, and its gate
abbrev pub drop_calls : ℕ → List DiskCall
drop_calls at = read_call (at + 11) 4 Done ∷ byte_calls at 0

-- the gate of the version, and then the name
abbrev pub upgrade_calls : List DiskCall
upgrade_calls = byte_calls 46 1 ++ byte_calls 7 50
