-- The request for an unload comes behind the events so far.

use Rattle.line_world.proofs.Asking.{unloaded}
use Rattle.line_world.proofs.rounds.unload.Goals as goal

pub returns : goal.returns
returns c = unloaded c.args.events.now c.ask.new.events c.in_ok-ask.ensures
