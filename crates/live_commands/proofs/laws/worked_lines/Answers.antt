-- By computing.

use Rattle.live_commands.proofs.Rows.{breaks_are, lines_are, parts_are}
use Rattle.live_commands.proofs.laws.worked_lines.Goals as goal

pub returns-clause-lines : goal.returns-clause-lines
returns-clause-lines c = lines_are

pub returns-clause-breaks : goal.returns-clause-breaks
returns-clause-breaks c = breaks_are

pub returns-clause-parts : goal.returns-clause-parts
returns-clause-parts c = parts_are
