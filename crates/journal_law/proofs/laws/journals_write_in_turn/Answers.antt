use Rattle.journal_law.proofs.Steps.{journals-turn}
use Rattle.journal_law.proofs.laws.journals_write_in_turn.Goals as goal

pub returns : goal.returns
returns c = journals-turn
