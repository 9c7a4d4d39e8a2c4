-- The three runs, each by its lemma, where messages go in blocks.

use Rattle.delivery.proofs.Examples.{comes-twice, needs-silence, outlives-loss}
use Rattle.delivery.proofs.laws.worked_runs.Goals as goal

pub returns-clause-loss : goal.returns-clause-loss
returns-clause-loss c = outlives-loss c.messages_go_in_blocks.ensures

pub returns-clause-silence : goal.returns-clause-silence
returns-clause-silence c = needs-silence c.messages_go_in_blocks.ensures

pub returns-clause-twice : goal.returns-clause-twice
returns-clause-twice c = comes-twice c.messages_go_in_blocks.ensures
