-- What each call on the area does to the spool on the disk (this profile).
use Rattle.std.specs.Prelude.{◌≡◌, ◌⊎◌, ℕ, ◌+◌, List, length, Some, Result, Ok, Err}
use Rattle.disk_base.specs.Story.{Story, bytes_at}
use Rattle.disk_base.specs.declared.disk.Disk as disk
use Rattle.disk_base.specs.declared.disk.DiskAnswer.{DiskAnswer}
use Rattle.disk_base.specs.declared.disk.DiskAnswer.TheVariants.{Done, Failed}
use Rattle.gate_cell.specs.Cell.{cell_in, copy_place}
use Rattle.gate_cell.specs.declared.cell.CellAnswer.{CellAnswer}
use Rattle.gate_cell.specs.declared.cell.CellAnswer.TheVariants as cell
use Rattle.spool_file.specs.File.{Ends, StandsFor}
use Rattle.spool_file.specs.Setup.{area_in, setup_cell}
use Rattle.spool_file.specs.Slot.{slot_place}
use Rattle.spool_slots.specs.Changes.{HasSeen, HasSettled, HoldsThrough, Moves}
use Rattle.spool_slots.specs.Files.{area_written, set_in, written_in}
use Rattle.spool_slots.specs.Spool.{SpoolView, in_hand, known_of}
use Rattle.spool_slots.specs.declared.states.PlaceAnswer.{PlaceAnswer}
use Rattle.spool_slots.specs.declared.states.PlaceAnswer.TheVariants as place
use Rattle.spool_slots.specs.declared.states.Spent.{Spent}

-- the value of the cell was read
abbrev pub ReadsCell : {D : Type 0} → disk.Ghosts D → SpoolView D → SpoolView D → CellAnswer → Type 0
ReadsCell members v w (cell.Value value) =
    HasSeen members v w setup_cell 17 Done
    × ((s : Story) → members.told v.disk ≡ Some s → value ≡ (cell_in s.now.bytes setup_cell).value)
ReadsCell members v w cell.Failed = HasSeen members v w setup_cell 17 Failed

-- the gate of the cell was read, which names one of its copies
abbrev pub ReadsPlace : {D : Type 0} → disk.Ghosts D → SpoolView D → SpoolView D → PlaceAnswer → Type 0
ReadsPlace members v w (place.Place at) =
    HasSeen members v w (setup_cell + 16) 1 Done
    × ((at ≡ setup_cell) ⊎ (at ≡ setup_cell + 8))
    × ((s : Story) → members.told v.disk ≡ Some s →
    at ≡ setup_cell + copy_place (cell_in s.now.bytes setup_cell).second)
ReadsPlace members v w place.Failed = HasSeen members v w (setup_cell + 16) 1 Failed

-- bytes of the area were read
abbrev pub ReadsArea : {D : Type 0} → disk.Ghosts D → SpoolView D → SpoolView D → (at : ℕ) → List ℕ → DiskAnswer →
    Type 0
ReadsArea members v w at into Done =
    HasSeen members v w (slot_place v.slots + at) (length into) Done
    × ((s : Story) → members.told v.disk ≡ Some s → (area : List ℕ) → area_in s.now.bytes ≡ Some area →
    into ≡ bytes_at area at (length into))
ReadsArea members v w at into Failed = HasSeen members v w (slot_place v.slots + at) (length into) Failed

-- bytes stand for the same file, but that so many bytes at a place of its area may be any
abbrev pub IsWritten : (at n : ℕ) → List ℕ → List ℕ → Type 0
IsWritten at n bytes image = (part : List ℕ) × (length part ≡ n) × StandsFor image (written_in at part bytes)

-- bytes of the area were written, and synced
pub record HasWritten {D : Type 0} (members : disk.Ghosts D) (v : SpoolView D) (after : D) (at : ℕ) (bytes : List ℕ)
    (answer : DiskAnswer) : Type 0 where
  pub images : HoldsThrough (members.told v.disk) (members.told after) (IsWritten at (length bytes))
  pub disk : HasSettled members v.disk after (slot_place v.slots + at) bytes answer

abbrev pub WritesArea : {D : Type 0} → disk.Ghosts D → SpoolView D → (at : ℕ) → List ℕ →
    Result (SpoolView D) (Spent D) → Type 0
WritesArea members v at bytes (Ok w) =
    HasWritten members v w.disk at bytes Done
    × (w ≡ in_hand w.disk (known_of v))
    × ((s t : Story) → members.told v.disk ≡ Some s → members.told w.disk ≡ Some t →
    Ends t (written_in at bytes s.now.bytes) × (area_in t.now.bytes ≡ area_written at bytes s.now.bytes))
WritesArea members v at bytes (Err spent) = HasWritten members v spent.disk at bytes Failed

-- the cell got another value, which names other bytes of the area
abbrev pub SetsCell : {D : Type 0} → disk.Ghosts D → SpoolView D → (value : ℕ) → Result (SpoolView D) (Spent D) → Type 0
SetsCell members v value (Ok w) =
    Moves members v.disk w.disk setup_cell value (set_in value) Done × (w ≡ in_hand w.disk (known_of v))
SetsCell members v value (Err spent) = Moves members v.disk spent.disk setup_cell value (set_in value) Failed
