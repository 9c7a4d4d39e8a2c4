-- By the lemmas of `Answering`.

use Rattle.gem_trace.proofs.Answering.{few_bodies, few_left, few_set}
use Rattle.gem_trace.proofs.laws.few_traces_run.Goals as goal

pub returns : goal.returns
returns c = record { set = few_set; left = few_left; bodies = few_bodies }
