-- An item by its kind, and a list item by item, as the definition reads them, each fault with its place.

use Rattle.std.proofs.Common.{◌<◌, length, Ok, refl, ap, ◌∙◌, arith}
use Rattle.std.proofs.lemmas.Result.{IfOk-weaker, err_from_is_err_and}
use Rattle.secs_text.specs.Nexts.{next_rest, next_view}
use Rattle.secs_text.specs.Grammar.{Kept}
use Rattle.secs_text.specs.Reading.{element_next, elements_at, item_at}
use Rattle.secs_text.proofs.Each.{elements_end, no_next, one_more}
use Rattle.secs_text.proofs.ItemSteps.{gives_leaf, item_deep, item_list, item_no_kind}
use Rattle.secs_text.proofs.reading.+reading.Goals as goal

pub item_of-returns-in_err-kind-clause-gives : goal.item_of-returns-in_err-kind-clause-gives
item_of-returns-in_err-kind-clause-gives t c =
    let p = err_from_is_err_and c.from_residual.result c.from_residual.ensures.1 in
    rw (p.1, p.2) (λ named. item_no_kind c.args.depth c.args.total c.args.bytes.now _ c.in_err-kind.ensures.reads)

pub item_of-returns-in_default : goal.item_of-returns-in_default
item_of-returns-in_default t c =
    record {
      gives = gives_leaf (λ x. (x.0, x.1.now)) c.leaf_of.result c.args.depth c.args.total c.args.bytes.now c.in_ok-kind.kind c.in_ok-kind.rest.now c.in_ok-kind.ensures.reads c.in_default.not-L c.leaf_of.ensures.gives;
      within = IfOk-weaker c.leaf_of.result (λ x. length x.1.now < length c.in_ok-kind.rest.now) (λ x. length x.1.now < length c.args.bytes.now) (λ x shorter. omega (arith, shorter, c.in_ok-kind.ensures.within)) c.leaf_of.ensures.within;
    }

pub item_of-returns-then-depth-eq0-clause-gives : goal.item_of-returns-then-depth-eq0-clause-gives
item_of-returns-then-depth-eq0-clause-gives t c =
    λ named. item_deep c.args.depth c.args.total c.args.bytes.now c.in_ok-kind.kind c.in_ok-kind.rest.now c.in_ok-kind.ensures.reads c.in-L.is c.if-depth-eq0.true

pub item_of-returns-in_err-items-clause-gives : goal.item_of-returns-in_err-items-clause-gives
item_of-returns-in_err-items-clause-gives t c =
    let p = err_from_is_err_and c.from_residual-in_err-items.result c.from_residual-in_err-items.ensures.1 in
    rw (p.1, p.2) (λ named. item_list c.args.depth c.args.total c.args.bytes.now c.in_ok-kind.kind c.in_ok-kind.rest.now c.in_ok-kind.ensures.reads c.in-L.is c.if-depth-eq0.false ∙ rw (c.in_err-items.ensures.gives named) refl)

pub item_of-returns-clause-gives : goal.item_of-returns-clause-gives
item_of-returns-clause-gives t c =
    item_list c.args.depth c.args.total c.args.bytes.now c.in_ok-kind.kind c.in_ok-kind.rest.now c.in_ok-kind.ensures.reads c.in-L.is c.if-depth-eq0.false ∙ rw c.in_ok-items.ensures.gives refl

pub items_of-returns-in_err-after-clause-gives : goal.items_of-returns-in_err-after-clause-gives
items_of-returns-in_err-after-clause-gives t c =
    let one = item_at Kept c.args.depth in
    let p = err_from_is_err_and c.from_residual.result c.from_residual.ensures.1 in
    rw (p.1, p.2) (λ named. no_next element_next one c.args.total c.items.items c.items.rest.now (elements_at one c.args.total c.args.bytes.now) _ (elements_end one) c.items.invariant.so_far c.in_err-after.ensures.reads)

pub items_of-items-preserved : goal.items_of-items-preserved
items_of-items-preserved t c =
    let one = item_at Kept c.args.depth in
    let all = elements_at one c.args.total c.args.bytes.now in
    let next = c.in_ok-after.ensures.reads ∙ ap (λ n. Ok (next_view n)) c.in-Element.is in
    let read = c.in_ok-item-in-Element in
    let shorter : length read.after.now < length c.items.rest.now =
    omega (arith, read.ensures.within, c.in_ok-after.ensures.within, ap (λ n. length (next_rest n)) c.in-Element.is) in
    record {
      so_far = rw c.in_ok-push-in-Element.ensures.ok (one_more element_next one c.args.total c.items.items c.items.rest.now c.in-Element.front.now read.after.now read.item all (elements_end one) c.items.invariant.so_far next read.ensures.gives shorter);
      within = omega (arith, shorter, c.items.invariant.within);
    }
