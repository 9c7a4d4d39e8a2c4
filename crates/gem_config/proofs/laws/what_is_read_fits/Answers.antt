-- The law, by the lemmas of `FittingPlans`.

use Rattle.gem_config.proofs.FittingPlans.{meaning_fits}
use Rattle.gem_config.proofs.laws.what_is_read_fits.Goals as goal

pub returns : goal.returns
returns c = meaning_fits
