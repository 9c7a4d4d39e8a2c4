-- A fault is counted exactly where the write has failed.

use Rattle.file_disk.proofs.Causes.{counted}
use Rattle.file_disk.proofs.file_disk.FileDiskDisk.write.Goals as goal

pub returns-clause-cause : goal.returns-clause-cause
returns-clause-cause g c = counted _ _ _ _ _ c.counts.ensures.count
