-- The law, by the lemmas of `FewCalls`.

use Rattle.journal_world.proofs.FewCalls.{few-find-room}
use Rattle.journal_world.proofs.laws.few_calls_find_room.Goals as goal

pub returns : goal.returns
returns g c = few-find-room
