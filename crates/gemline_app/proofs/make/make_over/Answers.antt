-- The outcome is that of the rounds that were made.

use Rattle.gemline_app.proofs.make.make_over.Goals as goal

pub returns : goal.returns
returns g c = record {
  ended = c.make.result;
  outcome_is = c.outcome_of_end.ensures;
  made = c.make.ensures;
}
