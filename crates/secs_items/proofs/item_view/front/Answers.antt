-- What reading finds at the front is what is spelled there.

use Rattle.std.proofs.Common.{arith}
use Rattle.secs_items.proofs.SpellLaws.{front_fault, front_found, front_only}
use Rattle.secs_items.proofs.item_view.front.Goals as goal

pub returns-clause-found : goal.returns-clause-found
returns-clause-found c =
    front_found (λ x. x.0.item) (λ x. x.1.now) c.args.bytes.now c.view_of.result (λ i. omega (arith, c.type_inv.bytes i))
    c.view_of.ensures.gives

pub returns-clause-only : goal.returns-clause-only
returns-clause-only c item rest spelled =
    front_only (λ x. x.0.item) (λ x. x.1.now) c.args.bytes.now c.view_of.result c.view_of.ensures.gives
    c.view_of.ensures.named item rest spelled

pub returns-clause-fault : goal.returns-clause-fault
returns-clause-fault c =
    front_fault (λ x. x.0.item) (λ x. x.1.now) c.args.bytes.now c.view_of.result c.view_of.ensures.gives
    c.view_of.ensures.named
