-- The elements of a slice of bytes are below 256.

use Rattle.std.proofs.Common.{arith}
use Rattle.equipment_tables.proofs.Bodies.{all_bytes}
use Rattle.equipment_tables.proofs.answers.are_bytes.Goals as goal

pub returns : goal.returns
returns c = all_bytes c.args.bytes.now (λ i. omega (arith, c.type_inv.bytes i))
