-- The recipe of a body is the one of its item.

use Rattle.gem_shapes.proofs.Behind.{sent_found}
use Rattle.gem_shapes.proofs.reading.sent.Goals as goal

pub returns-in-Some : goal.returns-in-Some
returns-in-Some c =
    sent_found c.in-Some.part c.args.body.now c.recipe.result c.in-Some.ensures.found c.in-Some.ensures.content
    c.recipe.ensures

pub returns-in-None : goal.returns-in-None
returns-in-None c = λ r asks. c.in-None.ensures.only asks.0 asks.1
