-- A new spool file, and what making it does (this profile).
use Rattle.std.specs.Prelude.{◌≡◌, ℕ, ◌*◌, ◌<◌, false, List, [], ◌∷◌, ◌++◌, length, replicate, take, Option, Some}
use Rattle.std.specs.Int.{w32, to_be_bytes}
use Rattle.disk_base.specs.Story.{Story, bytes_at}
use Rattle.disk_base.specs.declared.disk.DiskAnswer.{DiskAnswer}
use Rattle.disk_base.specs.declared.disk.DiskAnswer.TheVariants.{Done, Failed}
use Rattle.gate_cell.specs.Cell.{cell_in}
use Rattle.spool_file.specs.File.{Ends, SpoolFile}
use Rattle.spool_file.specs.Front.{front_in}
use Rattle.spool_file.specs.Setup.{area_of, new_area, setup_cell}
use Rattle.spool_file.specs.Slot.{is_open, slot_in, slot_place}

-- "GLSPOOL2"
abbrev pub new_magic : List ℕ
new_magic = 71 ∷ 76 ∷ 83 ∷ 80 ∷ 79 ∷ 79 ∷ 76 ∷ 50 ∷ []

-- what stands before the slots of a new file: its name, how many slots there are, mark 0 and floor 0, the gate that
-- says version 2, and zeros; and the file
unfoldable pub first_page : ℕ → List ℕ
first_page slots = new_magic ++ to_be_bytes w32 slots ++ replicate 34 0 ++ (1 ∷ []) ++ replicate 4049 0

abbrev pub empty_file : ℕ → SpoolFile
empty_file slots = record {
  version = 2;
  slots = slots;
  gates = replicate slots false;
  mark = record { value = 0; second = false };
  floor = record { value = 0; second = false };
  setup = record { cell = record { value = 0; second = false }; bytes = Some [] };
  list = [];
}

-- the first n slots are closed, and length, front and setup cell are as they were
pub record IsClosedTo (before after : Story) (n : ℕ) : Type 0 where
  pub long : length after.now.bytes ≡ length before.now.bytes
  pub front : front_in after.now.bytes ≡ front_in before.now.bytes
  pub cell : cell_in after.now.bytes setup_cell ≡ cell_in before.now.bytes setup_cell
  pub closed : (k : ℕ) → k < n → is_open (slot_in after.now.bytes k) ≡ false

-- a disk that tells its bytes told them before, and closed the slots since
abbrev pub ClosesTo : Option Story → Option Story → ℕ → Type 0
ClosesTo before after n =
    (t : Story) → after ≡ Some t → (s : Story) × (before ≡ Some s) × IsClosedTo s t n

abbrev pub ClosesSlots : Option Story → Option Story → ℕ → DiskAnswer → Type 0
ClosesSlots before after n Done = ClosesTo before after n
ClosesSlots before after n Failed = Unit {0}

-- the first n parts of the area, of 16,384 bytes each, are zeros, and length and all before it are as they were
pub record IsClearedTo (slots : ℕ) (before after : Story) (n : ℕ) : Type 0 where
  pub long : length after.now.bytes ≡ length before.now.bytes
  pub front : take (slot_place slots) after.now.bytes ≡ take (slot_place slots) before.now.bytes
  pub zeros : bytes_at after.now.bytes (slot_place slots) (16384 * n) ≡ replicate (16384 * n) 0

abbrev pub ClearsTo : Option Story → Option Story → (slots n : ℕ) → Type 0
ClearsTo before after slots n =
    (t : Story) → after ≡ Some t → (s : Story) × (before ≡ Some s) × IsClearedTo slots s t n

abbrev pub ClearsArea : Option Story → Option Story → ℕ → DiskAnswer → Type 0
ClearsArea before after slots Done = ClearsTo before after slots 32
ClearsArea before after slots Failed = Unit {0}

-- a disk that tells its bytes has an empty file, and an area of zeros
pub record EndsEmpty (t : Story) (slots : ℕ) : Type 0 where
  pub ends : Ends t (empty_file slots)
  pub area : area_of slots t.now.bytes ≡ Some new_area

abbrev pub StandsEmpty : Option Story → ℕ → DiskAnswer → Type 0
StandsEmpty after slots Done = (t : Story) → after ≡ Some t → EndsEmpty t slots
StandsEmpty after slots Failed = Unit {0}
