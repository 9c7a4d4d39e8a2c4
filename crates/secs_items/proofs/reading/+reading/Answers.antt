-- An item by its head, and a list item by item, as the definition reads them, each fault with its place.

use Rattle.std.proofs.Common.{refl, sym, ◌∙◌, arith}
use Rattle.std.proofs.lemmas.Result.{err_from_is_err_and}
use Rattle.secs_items.specs.Heads.{head_view}
use Rattle.secs_items.specs.Reading.{item_at, items_at}
use Rattle.secs_items.proofs.ItemLoop.{goes_on, ends}
use Rattle.secs_items.proofs.ItemSteps.{item_no_head, item_list, item_leaf}
use Rattle.secs_items.proofs.reading.+reading.Goals as goal

pub item_of-returns-in_err-head-clause-gives : goal.item_of-returns-in_err-head-clause-gives
item_of-returns-in_err-head-clause-gives t c =
    let p = err_from_is_err_and c.from_residual.result c.from_residual.ensures.1 in
    rw (p.1, p.2) (λ named. item_no_head c.args.total c.args.depth c.args.bytes.now _ (c.in_err-head.ensures.gives named))

pub item_of-returns-in_err-items-clause-gives : goal.item_of-returns-in_err-items-clause-gives
item_of-returns-in_err-items-clause-gives t c =
    let p = err_from_is_err_and c.from_residual-in_err-items.result c.from_residual-in_err-items.ensures.1 in
    let listed = sym c.is_list.ensures ∙ c.if-is_list.true in
    rw (p.1, p.2) (λ named. item_list c.args.total c.args.depth c.args.bytes.now (head_view c.in_ok-head.head) (c.in_ok-head.ensures.fits.deep listed) c.in_ok-head.ensures.gives listed ∙ rw (c.in_err-items.ensures.gives named) refl)

pub item_of-returns-then-is_list-clause-gives : goal.item_of-returns-then-is_list-clause-gives
item_of-returns-then-is_list-clause-gives t c =
    let listed = sym c.is_list.ensures ∙ c.if-is_list.true in
    item_list c.args.total c.args.depth c.args.bytes.now (head_view c.in_ok-head.head) (c.in_ok-head.ensures.fits.deep listed) c.in_ok-head.ensures.gives listed ∙ rw c.in_ok-items.ensures.gives refl

pub item_of-returns-clause-gives : goal.item_of-returns-clause-gives
item_of-returns-clause-gives t c =
    let other = sym c.is_list.ensures ∙ c.if-is_list.false in
    item_leaf c.args.total c.args.depth c.args.bytes.now (head_view c.in_ok-head.head) c.in_ok-head.ensures.gives other ∙ rw (c.in_ok-leaf.ensures, c.split_at.ensures.front, c.split_at.ensures.back) refl

pub items_of-returns-in_err-item-clause-gives : goal.items_of-returns-in_err-item-clause-gives
items_of-returns-in_err-item-clause-gives t c =
    let p = err_from_is_err_and c.from_residual.result c.from_residual.ensures.1 in
    rw (p.1, p.2) (λ named. ends (item_at c.args.total c.args.depth) _ c.loop.items c.args.count c.loop.counter c.loop.rest.now (items_at (item_at c.args.total c.args.depth) c.args.count c.args.bytes.now) c.loop-test.true (c.in_err-item.ensures.gives named) c.loop.invariant.so_far)

pub items_of-loop-preserved : goal.items_of-loop-preserved
items_of-loop-preserved t c =
    record {
      so_far = rw c.in_ok-push.ensures.ok (goes_on (item_at c.args.total c.args.depth) c.loop.items c.args.count c.loop.counter c.loop.rest.now c.in_ok-item.item c.in_ok-item.after.now (items_at (item_at c.args.total c.args.depth) c.args.count c.args.bytes.now) c.loop-test.true c.in_ok-item.ensures.gives c.loop.invariant.so_far);
      within = omega (arith, c.loop.invariant.within, c.in_ok-item.ensures.within);
    }
