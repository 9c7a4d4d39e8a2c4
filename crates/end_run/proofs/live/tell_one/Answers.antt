-- A command is a step with its reply; a text is written; and the end stops.

use Rattle.std.proofs.Common.{[], None, refl}
use Rattle.end_run.proofs.Joining.{did_none}
use Rattle.end_run.proofs.Stepping.{short_fails, wrote_did}
use Rattle.end_run.proofs.live.tell_one.Goals as goal

pub returns-in-Command-clause-runs : goal.returns-in-Command-clause-runs
returns-in-Command-clause-runs g c = λ known. rw c.in-Command.is (c.step_end.ensures.runs known)

pub returns-in-Done-clause-runs : goal.returns-in-Done-clause-runs
returns-in-Done-clause-runs g c =
    λ known. rw c.in-Text.is ((refl, wrote_did _ _ _ [] c.in-Text.text.now c.in-Done.ensures), known, refl)

pub returns-in-Failed-clause-runs : goal.returns-in-Failed-clause-runs
returns-in-Failed-clause-runs g c =
    λ known. rw c.in-Text.is (None, known, short_fails _ _ _ [] c.in-Text.text.now [] c.in-Failed.ensures)

pub returns-in-Stop-clause-runs : goal.returns-in-Stop-clause-runs
returns-in-Stop-clause-runs g c = λ known. rw c.in-Stop.is (None, known, (refl, did_none _))
