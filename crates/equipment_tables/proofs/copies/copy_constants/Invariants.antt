-- The copies so far.

use Rattle.std.proofs.Common.{◌≡◌, take}
use Rattle.equipment_tables.proofs.copies.copy_constants.Given as goal

abbrev pub invariant-loop-constant : goal.invariant-loop-constant
invariant-loop-constant l = l.copy ≡ take l.constant-index l.constants
