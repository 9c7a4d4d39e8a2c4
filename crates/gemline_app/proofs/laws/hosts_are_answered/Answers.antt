-- The law, by the lemmas of `HostAnswered`.

use Rattle.gemline_app.proofs.HostAnswered.{hosts_answered}
use Rattle.gemline_app.proofs.laws.hosts_are_answered.Goals as goal

pub returns : goal.returns
returns c = hosts_answered
