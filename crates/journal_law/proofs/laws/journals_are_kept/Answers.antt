use Rattle.journal_law.proofs.Steps.{journals-kept}
use Rattle.journal_law.proofs.laws.journals_are_kept.Goals as goal

pub returns : goal.returns
returns c = journals-kept
