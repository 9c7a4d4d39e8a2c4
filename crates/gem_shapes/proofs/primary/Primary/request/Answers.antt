-- A primary that isn't asked without an item is read by its item, and S7F3 by what stands behind its first one, too.

use Rattle.std.proofs.Common.{Some, subst, sym}
use Rattle.gem_shapes.specs.Requests.{AsksFor, IsFound}
use Rattle.gem_shapes.proofs.Asking.{by_item}
use Rattle.gem_shapes.proofs.primary.Primary.request.Goals as goal

pub returns-in-S7F3 : goal.returns-in-S7F3
returns-in-S7F3 c =
    subst (λ p. IsFound (AsksFor (Some p) c.args.body.now) c.sent.result) (sym c.in-S7F3.is) c.sent.ensures

pub returns-in_default : goal.returns-in_default
returns-in_default c =
    by_item c.args.self c.args.body.now c.request_of_item.result c.in_default.not-S1F1 c.in_default.not-S1F13
    c.in_default.not-S1F15 c.in_default.not-S1F17 c.in_default.not-S5F7 c.in_default.not-S7F3 c.in_default.not-S7F19
    c.request_of_item.ensures
