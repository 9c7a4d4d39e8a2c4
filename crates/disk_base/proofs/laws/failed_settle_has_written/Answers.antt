-- The law, by the lemmas of `Stopped`.

use Rattle.disk_base.proofs.Stopped.{has_written}
use Rattle.disk_base.proofs.laws.failed_settle_has_written.Goals as goal

pub returns : goal.returns
returns c = λ s at bytes all after calls logs listed. has_written s at bytes all after calls listed logs
