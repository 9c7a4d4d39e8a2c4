-- The logs, computed; those that aren't kept, the run of two ends, and the broken orders by their lemmas.

use Rattle.std.specs.Prelude.{refl}
use Rattle.spool_delivery.proofs.Examples.{are-not-kept, break-order, unloads-after-loss}
use Rattle.spool_delivery.proofs.laws.worked_logs.Goals as goal

pub returns-clause-twice : goal.returns-clause-twice
returns-clause-twice c = record { taken = refl; once = refl; all = refl; stands = refl }

pub returns-clause-found : goal.returns-clause-found
returns-clause-found c = record { puts = refl; stands = refl }

pub returns-clause-purge : goal.returns-clause-purge
returns-clause-purge c = record { stands = refl; counts = refl; taken = refl }

pub returns-clause-late : goal.returns-clause-late
returns-clause-late c = record { before = refl; none = refl; taken = refl; counts = refl }

pub returns-clause-again : goal.returns-clause-again
returns-clause-again c =
    record { puts = refl; stands = refl; removed = refl; causes = refl; taken = refl; counts = refl }

pub returns-clause-not_kept : goal.returns-clause-not_kept
returns-clause-not_kept c = are-not-kept

pub returns-clause-run : goal.returns-clause-run
returns-clause-run c = unloads-after-loss c.messages_go_in_blocks.ensures

pub returns-clause-broken : goal.returns-clause-broken
returns-clause-broken c = break-order
