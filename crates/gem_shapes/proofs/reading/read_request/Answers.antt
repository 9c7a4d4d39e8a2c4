-- What was found is the request of the body.

use Rattle.std.proofs.Common.{sym, ◌∙◌, ap, subst, Option, arith}
use Rattle.std.specs.Option.{option_and_then}
use Rattle.std.specs.Prelude.{IfOk}
use Rattle.gem_shapes.specs.declared.primary.Primary.{Primary}
use Rattle.gem_shapes.specs.Asked.{asked_by}
use Rattle.gem_shapes.specs.Requests.{AsksFor, IsFound, shape_of}
use Rattle.gem_shapes.proofs.Asked.{answer_is}
use Rattle.gem_shapes.proofs.reading.read_request.Goals as goal

pub returns-in-Some-clause-found : goal.returns-in-Some-clause-found
returns-in-Some-clause-found c =
    answer_is c.args.stream c.args.function c.args.body.now c.request.result (λ i. omega (arith, c.type_inv.body i))
    (subst (λ (p : Option Primary). IfOk c.request.result (λ found. IsFound (AsksFor p c.args.body.now) found))
    (sym c.in-Some.is ∙ c.with.ensures) c.request.ensures)

pub returns-in-None-clause-found : goal.returns-in-None-clause-found
returns-in-None-clause-found c =
    ap (option_and_then (λ (p : Primary). asked_by (shape_of p) c.args.body.now)) (sym c.in-None.is ∙ c.with.ensures)
