use Rattle.spool_works.proofs.EachUpdate.{works-are-updates}
use Rattle.spool_works.proofs.laws.works_are_updates.Goals as goal

pub returns : goal.returns
returns c = works-are-updates
