-- What preparing and committing a value do to a disk (this profile).
use Rattle.std.specs.Prelude.{◌≡◌, ℕ, ◌+◌, ◌≤◌, Bool, [], ◌∷◌, length, Option, Some, Result, Ok, Err}
use Rattle.disk_base.specs.Images.{AreSettled}
use Rattle.disk_base.specs.Settle.{Settles}
use Rattle.disk_base.specs.Story.{Story}
use Rattle.disk_base.specs.Through.{EachImage, GoesThrough}
use Rattle.disk_base.specs.declared.disk.DiskAnswer.{DiskAnswer}
use Rattle.disk_base.specs.declared.disk.DiskAnswer.TheVariants.{Done, Failed}
use Rattle.gate_cell.specs.Cell.{cell_in, copy_bytes, gate_byte, spare_in, spare_place}
use Rattle.gate_cell.specs.Holds.{Holds, HoldsEither}

-- the cell lies within the disk, and none of its bytes is loose
pub record IsCell (s : Story) (at : ℕ) : Type 0 where
  pub within : at + 17 ≤ length s.now.bytes
  pub settled : AreSettled s.now at 17

-- so it is, and the copy that its gate doesn't name is this one
pub record HasSpare (s : Story) (at : ℕ) (second : Bool) : Type 0 where
  pub within : at + 17 ≤ length s.now.bytes
  pub settled : AreSettled s.now at 17
  pub spare : second ≡ (spare_in s.now.bytes at).second

-- P of the disk that is handed back, and of whether all calls of it were done
abbrev pub OnDisk : {W D : Type 0} → (W → D) → Result W D → (D → DiskAnswer → Type 0) → Type 0
OnDisk disk_of (Ok w) P = P (disk_of w) Done
OnDisk disk_of (Err disk) P = P disk Failed

-- the value was written over the copy that the gate doesn't name, with a sync; a crash at any moment leaves the cell as
-- it was
pub record Prepares (s : Story) (at value : ℕ) (after : Option Story) (answer : DiskAnswer) : Type 0 where
  pub settles : Settles (Some s) (spare_place at (cell_in s.now.bytes at)) (copy_bytes value) after answer
  pub images : GoesThrough s after (Holds s.now at (cell_in s.now.bytes at))

-- the other copy has the value then
abbrev pub IsReady : ℕ → ℕ → Option Story → Type 0
IsReady at value after = (t : Story) → after ≡ Some t → (spare_in t.now.bytes at).value ≡ value

-- the gate was written that names the other copy, with a sync; a crash at any moment leaves the cell as it was, or that
-- copy in it
pub record Commits (s : Story) (at : ℕ) (second : Bool) (after : Option Story) (answer : DiskAnswer) : Type 0 where
  pub settles : Settles (Some s) (at + 16) (gate_byte second ∷ []) after answer
  pub images : GoesThrough s after (HoldsEither s.now at (cell_in s.now.bytes at) (spare_in s.now.bytes at))

-- any crash leaves that copy then
abbrev pub IsCommitted : Story → ℕ → Option Story → Type 0
IsCommitted s at after =
    (t : Story) → after ≡ Some t → EachImage (Holds s.now at (spare_in s.now.bytes at)) t.now
