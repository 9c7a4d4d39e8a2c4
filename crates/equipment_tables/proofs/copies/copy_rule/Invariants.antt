-- The copies so far.

use Rattle.std.proofs.Common.{◌≡◌, take}
use Rattle.equipment_tables.proofs.copies.copy_rule.Given as goal

abbrev pub invariant-loop-entry : goal.invariant-loop-entry
invariant-loop-entry l = l.copy ≡ take l.entry-index l.entries
