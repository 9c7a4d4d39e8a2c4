-- No fault is counted where the file is taken, and of its bytes nothing is told.

use Rattle.std.proofs.Common.{◌<◌, refl}
use Rattle.disk_base.specs.declared.disk.DiskAnswer.TheVariants.{Done}
use Rattle.disk_base.proofs.Told.{untold_bytes}
use Rattle.file_disk.proofs.Causes.{counted}
use Rattle.file_disk.proofs.file_disk.FileDiskDisk.attach.Goals as goal

pub returns-in-Ok-clause-cause : goal.returns-in-Ok-clause-cause
returns-in-Ok-clause-cause g c = counted _ _ 0 (c.args.self.now.size < c.args.grow) Done refl

pub returns-in-Ok-clause-bytes : goal.returns-in-Ok-clause-bytes
returns-in-Ok-clause-bytes g c = untold_bytes

pub returns-in-Err-clause-bytes : goal.returns-in-Err-clause-bytes
returns-in-Err-clause-bytes g c = untold_bytes
