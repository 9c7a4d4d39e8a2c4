-- The law, by the lemmas of `Steps` and `Told`.

use Rattle.line_order.proofs.Steps.{arrive_in_order}
use Rattle.line_order.proofs.Told.{tells}
use Rattle.line_order.proofs.laws.blocks_arrive_in_order.Goals as goal

pub returns-clause-order : goal.returns-clause-order
returns-clause-order c = arrive_in_order

pub returns-clause-told : goal.returns-clause-told
returns-clause-told c = tells
