-- The law, by the lemmas of `SoFar`.

use Rattle.journal_world.proofs.SoFar.{holds-at-each}
use Rattle.journal_world.proofs.laws.holds_at_each_entry.Goals as goal

pub returns : goal.returns
returns c = holds-at-each c.kept_setup_holds.ensures
