-- The law, by the lemmas of `Hosts`.

use Rattle.link_courses.proofs.Hosts.{hosts-keep}
use Rattle.link_courses.proofs.laws.hosts_keep_their_laws.Goals as goal

pub returns : goal.returns
returns c = hosts-keep
