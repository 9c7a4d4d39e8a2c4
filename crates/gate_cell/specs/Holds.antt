-- What a crash leaves of a cell, and of the bytes around it (this profile).
use Rattle.std.specs.Prelude.{◌≡◌, ◌⊎◌, ℕ, List}
use Rattle.disk_base.specs.Images.{AreSettled}
use Rattle.disk_base.specs.Story.{Moment, Story}
use Rattle.disk_base.specs.Through.{EachImage, IsImageBut}
use Rattle.gate_cell.specs.Cell.{Cell, cell_in}

-- the cell is this one, and the bytes outside it are any that a crash at this moment may leave
pub record Holds (moment : Moment) (at : ℕ) (cell : Cell) (image : List ℕ) : Type 0 where
  pub others : IsImageBut moment at 17 image
  pub held : cell_in image at ≡ cell

-- the cell is one of two
pub record HoldsEither (moment : Moment) (at : ℕ) (old new : Cell) (image : List ℕ) : Type 0 where
  pub others : IsImageBut moment at 17 image
  pub held : (cell_in image at ≡ old) ⊎ (cell_in image at ≡ new)

-- a value was read: the one that is there, and where the cell is settled, any crash leaves the cell as it is
pub record IsRead (s : Story) (at value : ℕ) : Type 0 where
  pub now : value ≡ (cell_in s.now.bytes at).value
  pub always : AreSettled s.now at 17 → EachImage (Holds s.now at (cell_in s.now.bytes at)) s.now
