-- A line that is outside the grammar is named, as by the reading itself.

use Rattle.line_schedule.proofs.schedule.read_schedule.Goals as goal

pub returns-in-Err-clause-outside : goal.returns-in-Err-clause-outside
returns-in-Err-clause-outside c = λ number outside. c.in-Err.ensures.outside number outside
