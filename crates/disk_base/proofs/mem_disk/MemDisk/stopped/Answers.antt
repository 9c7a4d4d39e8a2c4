-- Each choice leaves an image, and what is listed has found room.

use Rattle.std.proofs.Common.{subst, rules}
use Rattle.disk_base.specs.Cut.{image_of}
use Rattle.disk_base.specs.Images.{IsImage}
use Rattle.disk_base.specs.MemDisk.{DiskState, HasFitted}
use Rattle.disk_base.proofs.Fitted.{fitted_of}
use Rattle.disk_base.proofs.Replays.{images_are}
use Rattle.disk_base.proofs.mem_disk.MemDisk.stopped.Goals as goal

pub returns-clause-images : goal.returns-clause-images
returns-clause-images c = λ choice.
    subst (λ (s : DiskState). IsImage s.story.now (image_of choice s.story)) c.self.view_is
    (images_are c.self.inside c.self.invariant choice)

pub returns-clause-fitted : goal.returns-clause-fitted
returns-clause-fitted c =
    subst HasFitted c.self.view_is (fitted_of c.self.inside c.self.invariant (search rules) (search rules))
