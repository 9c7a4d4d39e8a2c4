-- The entries so far can be spooled.

use Rattle.std.proofs.Common.{ℕ, ◌<◌, get_or}
use Rattle.gem_shapes.specs.declared.entries.RuleEntry.{RuleEntry}
use Rattle.equipment_tables.specs.Plan.{CanBeSpooled}
use Rattle.equipment_tables.proofs.plan.can_be_spooled.Given as goal

abbrev pub invariant-loop-entry : goal.invariant-loop-entry
invariant-loop-entry l = (k : ℕ) (d : RuleEntry) → k < l.entry-index → CanBeSpooled (get_or l.entries k d)
