-- What a power loss leaves of a work that it interrupts (this profile).
use Rattle.std.specs.Prelude.{◌≡◌, ◌==◌, ℕ, zero, suc, ◌+◌, ◌%◌, ◌<◌, ◌≤◌, Bool, true, false, not, if◌then◌else◌}
use Rattle.std.specs.Prelude.{List, [], ◌∷◌, set, slice_index, Option, Some}
use Rattle.disk_base.specs.Cut.{chosen_byte, image_of, next_choice}
use Rattle.disk_base.specs.Faults.{DiskHealth, GoesAsListed, IsLeftOut, IsPlanned}
use Rattle.disk_base.specs.Story.{Story, with_part}
use Rattle.disk_base.specs.Through.{EachImage, GoesThrough}
use Rattle.disk_base.specs.declared.cut.CutChoice.{CutChoice}
use Rattle.disk_base.specs.declared.cut.CutChoice.TheVariants.{Old, New, Fill, First}
use Rattle.gate_cell.specs.Cell.{Cell, cell_in, names_second, with_value}
use Rattle.gate_cell.specs.Holds.{Holds}
use Rattle.spool_file.specs.File.{SpoolFile, StandsFor, file_in}
use Rattle.spool_slots.specs.Files.{with_gates}

-- a disk went on, each call comes to what its entry says, and none of so many that write n bytes was left out
pub record IsSure (before now : DiskHealth) (calls n : ℕ) : Type 0 where
  pub going : GoesAsListed before
  pub listed : (made m : ℕ) → made < calls → m ≤ n → IsLeftOut before now made m → ⊥

-- whether a gate that was written and not synced counts after a crash, by what its bytes mean
abbrev pub gate_counts : CutChoice → (ℕ → Bool) → Bool
gate_counts Old means = false
gate_counts New means = true
gate_counts (Fill byte) means = means byte
gate_counts (First n) means = not (n == 0)

abbrev pub file_left : Bool → SpoolFile → SpoolFile → SpoolFile
file_left true done undone = done
file_left false done undone = undone

-- 5A opens a slot, and any other byte closes it
abbrev pub opens : ℕ → Bool
opens gate = gate == 90

abbrev pub closes : ℕ → Bool
closes gate = not (gate == 90)

-- a crash now leaves this file
abbrev pub Leaves : Option Story → Option Story → (List ℕ → SpoolFile) → Type 0
Leaves before after file =
    (s t : Story) → before ≡ Some s → after ≡ Some t → EachImage (λ image. StandsFor image (file s.now.bytes)) t.now

-- of the write of one byte that the disk stopped at, or at its sync, a crash leaves the byte of its choice
abbrev pub LeavesByte : Option Story → Option Story → ℕ → ℕ → Type 0
LeavesByte before after at byte =
    (s t : Story) → before ≡ Some s → after ≡ Some t → (choice : CutChoice) →
    image_of choice t ≡ with_part s.now.bytes at (chosen_byte choice (slice_index s.now.bytes at) byte ∷ [])

-- of the write of a gate that the disk stopped at, or at its sync, a crash leaves the change or the file as it was
abbrev pub LeavesByGate : Option Story → Option Story → (ℕ → Bool) → (List ℕ → SpoolFile) → Type 0
LeavesByGate before after means changed =
    (s t : Story) → before ≡ Some s → after ≡ Some t → (choice : CutChoice) →
    StandsFor (image_of choice t) (file_left (gate_counts choice means) (changed s.now.bytes) (file_in s.now.bytes))

-- marks of the slots of the first m gates that are open, of those of slots in a row, from that of a number on
abbrev pub shut_marks : (slots number : ℕ) → List Bool → (m : ℕ) → List Bool → List Bool
shut_marks slots number [] m marks = marks
shut_marks slots number (false ∷ open_gates) m marks = shut_marks slots (number + 1) open_gates m marks
shut_marks slots number (true ∷ open_gates) zero marks = marks
shut_marks slots number (true ∷ open_gates) (suc m) marks =
    shut_marks slots (number + 1) open_gates m (set marks (number % slots) true)

-- what a cut leaves of gates of which the marked ones were open and have been written as 00, in the order of their
-- places
abbrev pub gates_left : CutChoice → List Bool → List Bool → List Bool
gates_left choice [] gates = []
gates_left choice (mark ∷ marks) [] = []
gates_left choice (true ∷ marks) (gate ∷ gates) =
    opens (chosen_byte choice 90 0) ∷ gates_left (next_choice choice) marks gates
gates_left choice (false ∷ marks) (gate ∷ gates) = gate ∷ gates_left choice marks gates

-- of the writes of some first 00s that the disk stopped at, or at their sync, a crash leaves the file with the gates of
-- its choice
abbrev pub LeavesGates : Option Story → Option Story → List Bool → Type 0
LeavesGates before after marks =
    (s t : Story) → before ≡ Some s → after ≡ Some t → (choice : CutChoice) →
    StandsFor (image_of choice t)
    (with_gates (gates_left choice marks (file_in s.now.bytes).gates) (file_in s.now.bytes))

-- whether a gate names the copy of a cell that doesn't count
abbrev pub names_spare : Cell → ℕ → Bool
names_spare cell gate = if cell.second then not (names_second gate) else names_second gate

abbrev pub cell_left : Bool → Cell → Cell → Cell
cell_left true new old = new
cell_left false new old = old

-- of the write of the cell's gate that the disk stopped at, or at its sync, a crash leaves the new value in its copy,
-- or the cell as it was
abbrev pub LeavesValue : Story → ℕ → ℕ → Option Story → Type 0
LeavesValue s at value after =
    (t : Story) → after ≡ Some t → (choice : CutChoice) →
    Holds s.now at (cell_left (gate_counts choice (names_spare (cell_in s.now.bytes at)))
    (with_value value (cell_in s.now.bytes at)) (cell_in s.now.bytes at)) (image_of choice t)

-- where one of the three calls that prepare it was to fail, the cell is left as it was; elsewhere the gate decides
pub record HasLostValue (s : Story) (at value : ℕ) (before now : DiskHealth) (after : Option Story) : Type 0 where
  pub early : IsPlanned before 3 → GoesThrough s after (Holds s.now at (cell_in s.now.bytes at))
  pub late : IsSure before now 5 9 → (IsPlanned before 3 → ⊥) → LeavesValue s at value after
