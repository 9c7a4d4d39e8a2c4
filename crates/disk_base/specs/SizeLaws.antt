-- What holds of a disk in memory by its definition.
use Rattle.std.specs.Prelude.{◌≡◌, length, Option, Some, None}
use Rattle.disk_base.specs.Story.{Story}
use Rattle.disk_base.specs.MemDisk.{DiskState, disk_size}
use Rattle.std.proofs.Common.{ap, sym}

abbrev story_or : Story → Option Story → Story
story_or other None = other
story_or other (Some story) = story

-- its size is the number of the bytes that it tells
pub told_size : (s : DiskState) (story : Story) → Some s.story ≡ Some story → length story.now.bytes ≡ disk_size s
told_size s story is = sym (ap (λ (o : Option Story). length (story_or s.story o).now.bytes) is)
