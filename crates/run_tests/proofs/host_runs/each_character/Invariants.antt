use Rattle.std.proofs.Common.{List, ◌++◌}
use Rattle.gl_base.specs.Events.{AreLinkEvents}
use Rattle.gl_base.specs.declared.link.LinkIn.{LinkIn}
use Rattle.run_tests.proofs.host_runs.each_character.Given as goal

-- with others behind them they are the events of a link, too
abbrev pub invariant-characters : goal.invariant-characters
invariant-characters l = (more : List LinkIn) → AreLinkEvents more → AreLinkEvents (l.answers ++ more)
