use Rattle.message_end.proofs.WorkedStarts.{starts-note-setups}
use Rattle.message_end.proofs.laws.worked_starts.Goals as goal

pub returns : goal.returns
returns c = starts-note-setups
