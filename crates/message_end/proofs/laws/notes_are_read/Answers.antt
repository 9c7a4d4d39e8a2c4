-- The law, by the lemmas of `Reading`.

use Rattle.message_end.proofs.Reading.{read-all}
use Rattle.message_end.proofs.laws.notes_are_read.Goals as goal

pub returns : goal.returns
returns g c = read-all
