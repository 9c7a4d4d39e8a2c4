-- The law, by the lemmas of `Reading`.

use Rattle.gem_remote.proofs.Reading.{listed, read}
use Rattle.gem_remote.proofs.laws.parameters_are_read.Goals as goal

pub returns : goal.returns
returns c = record { listed = listed; read = read }
