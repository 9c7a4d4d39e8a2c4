-- The law, by the lemmas of `FewCalls`.

use Rattle.line_world.proofs.FewCalls.{few-find-room}
use Rattle.line_world.proofs.laws.few_calls_find_room.Goals as goal

pub returns : goal.returns
returns g c = few-find-room c.losses_are_counted.ensures
