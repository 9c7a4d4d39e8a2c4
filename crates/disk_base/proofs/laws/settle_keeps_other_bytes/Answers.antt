-- The law, by the lemmas of `Moments`.

use Rattle.disk_base.proofs.Moments.{settle_among, settle_others}
use Rattle.disk_base.proofs.laws.settle_keeps_other_bytes.Goals as goal

pub returns-clause-others : goal.returns-clause-others
returns-clause-others c = settle_others

pub returns-clause-among : goal.returns-clause-among
returns-clause-among c = settle_among
