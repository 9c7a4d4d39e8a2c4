-- What a disk of a spool leaves where a planned call stops it (this profile).
use Rattle.std.specs.Prelude.{◌≡◌, ◌-◌, ℕ, List, Some}
use Rattle.disk_base.specs.Cut.{image_of}
use Rattle.disk_base.specs.Faults.{DiskHealth, GoesAsListed, IsAmong}
use Rattle.disk_base.specs.Images.{IsImage}
use Rattle.disk_base.specs.Story.{Story}
use Rattle.disk_base.specs.declared.cut.CutChoice.{CutChoice}
use Rattle.gem_spool.specs.Updates.{Left}
use Rattle.spool_file.specs.File.{StandsFor}
use Rattle.message_end.specs.Ends.{call_of}

-- the disk goes on, each call comes to what its entry says, and none of them is to fail alone; one may be to stop it
pub record IsGoingDisk (health : DiskHealth) : Type 0 where
  pub fails_not : health.fail_in ≡ 0
  pub going : GoesAsListed health

-- so many calls were made, and the one that is to stop it isn't among them
pub record HasPassed (before after : DiskHealth) (calls : ℕ) : Type 0 where
  pub passes : IsAmong before.stop_in calls → ⊥
  pub nearer : after.stop_in ≡ before.stop_in - calls
  pub on : IsGoingDisk after

-- the call of this place was made, at which the disk stops, and a crash leaves what is said of it
pub record HasLeftAt (calls : List Left) (call : ℕ) (after : Story) : Type 0 where
  pub left : Left
  pub is : call_of call calls ≡ Some left
  pub at : (choice : CutChoice) → StandsFor (image_of choice after) (left choice)

-- whatever is chosen, a crash leaves one of the images
abbrev pub LeavesImages : Story → Type 0
LeavesImages after = (choice : CutChoice) → IsImage after.now (image_of choice after)
