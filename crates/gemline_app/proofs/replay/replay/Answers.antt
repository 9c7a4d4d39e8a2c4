-- The plans that were read fit.

use Rattle.gemline_app.proofs.replay.replay.Goals as goal

pub replay_over-requires-clause-plans : goal.replay_over-requires-clause-plans
replay_over-requires-clause-plans g c = c.in-Ok.ensures.is.fits
