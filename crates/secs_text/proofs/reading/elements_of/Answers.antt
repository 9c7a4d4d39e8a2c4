-- One element more is read off the front of the rest, or a fault ends it.

use Rattle.std.proofs.Common.{◌<◌, length, Ok, ap, ◌∙◌, arith}
use Rattle.std.proofs.lemmas.Result.{err_from_is_err_and}
use Rattle.secs_text.specs.Nexts.{next_rest, next_view}
use Rattle.secs_text.specs.Reading.{element_next, elements_at}
use Rattle.secs_text.proofs.Each.{elements_end, no_next, one_more}
use Rattle.secs_text.proofs.reading.elements_of.Goals as goal

pub returns-in_err-after-clause-gives : goal.returns-in_err-after-clause-gives
returns-in_err-after-clause-gives g c =
    let one = g.F.Form.element_at in
    let p = err_from_is_err_and c.from_residual.result c.from_residual.ensures.1 in
    rw (p.1, p.2) (λ named. no_next element_next one c.args.total c.elements.elements c.elements.rest.now (elements_at one c.args.total c.args.bytes.now) _ (elements_end one) c.elements.invariant.so_far c.in_err-after.ensures.reads)

pub elements-preserved : goal.elements-preserved
elements-preserved g c =
    let one = g.F.Form.element_at in
    let all = elements_at one c.args.total c.args.bytes.now in
    let next = c.in_ok-after.ensures.reads ∙ ap (λ n. Ok (next_view n)) c.in-Element.is in
    let read = c.in_ok-element-in-Element in
    let shorter : length read.after.now < length c.elements.rest.now =
    omega (arith, read.ensures.within, c.in_ok-after.ensures.within, ap (λ n. length (next_rest n)) c.in-Element.is) in
    record {
      so_far = rw c.in_ok-push-in-Element.ensures.ok (one_more element_next one c.args.total c.elements.elements c.elements.rest.now c.in-Element.front.now read.after.now read.element all (elements_end one) c.elements.invariant.so_far next read.ensures.reads shorter);
      within = omega (arith, shorter, c.elements.invariant.within);
    }
