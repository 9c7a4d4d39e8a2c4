-- The slot of a number is one of those that there are.

use Rattle.std.proofs.Common.{arith}
use Rattle.spool_slots.proofs.gates.number_place.Goals as goal

pub returns-clause-within : goal.returns-clause-within
returns-clause-within c = omega (arith, c.slot_place.ensures, c.slot_of.ensures.bound)
