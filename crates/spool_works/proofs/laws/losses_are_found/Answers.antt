use Rattle.spool_works.proofs.FoundLosses.{losses-found, purges-whole, setups-whole}
use Rattle.spool_works.proofs.laws.losses_are_found.Goals as goal

pub returns-clause-found : goal.returns-clause-found
returns-clause-found c = losses-found

pub returns-clause-whole : goal.returns-clause-whole
returns-clause-whole c = purges-whole

pub returns-clause-setups : goal.returns-clause-setups
returns-clause-setups c = setups-whole
