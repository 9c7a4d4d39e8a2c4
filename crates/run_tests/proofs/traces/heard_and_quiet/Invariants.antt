-- The events so far are those of a link, with others behind them, too.

use Rattle.std.proofs.Common.{List, ◌++◌}
use Rattle.gl_base.specs.Events.{AreLinkEvents}
use Rattle.gl_base.specs.declared.link.LinkIn.{LinkIn}
use Rattle.run_tests.proofs.traces.heard_and_quiet.Given as goal

abbrev pub invariant-characters : goal.invariant-characters
invariant-characters l = (more : List LinkIn) → AreLinkEvents more → AreLinkEvents (l.answers ++ more)
