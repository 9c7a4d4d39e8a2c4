-- The copies so far.

use Rattle.std.proofs.Common.{◌≡◌, take}
use Rattle.equipment_tables.proofs.copies.copy_variables.Given as goal

abbrev pub invariant-loop-variable : goal.invariant-loop-variable
invariant-loop-variable l = l.copy ≡ take l.variable-index l.variables
