-- The three requests come one behind the other.

use Rattle.line_world.proofs.Asking.{defined}
use Rattle.line_world.proofs.rounds.define_report.Goals as goal

pub returns : goal.returns
returns c =
    defined c.args.events.now c.ask.new.events c.ask-2.new.events c.ask-3.new.events c.in_ok-ask.ensures
    c.in_ok-ask-2.ensures c.in_ok-ask-3.ensures
