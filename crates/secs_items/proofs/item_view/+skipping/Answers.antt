-- An item is passed over by its head and its content, and a list item by item, as the definition does.

use Rattle.std.proofs.Common.{arith}
use Rattle.std.proofs.lemmas.Result.{err_from_is_err_and}
use Rattle.secs_items.specs.Heads.{head_view}
use Rattle.secs_items.specs.Reading.{after_each, after_item}
use Rattle.secs_items.proofs.ItemSteps.{after_no_head, after_head, skip_more}
use Rattle.secs_items.proofs.item_view.+skipping.Goals as goal

pub skip_item-returns-in_err-head-clause-gives : goal.skip_item-returns-in_err-head-clause-gives
skip_item-returns-in_err-head-clause-gives t c =
    let p = err_from_is_err_and c.from_residual.result c.from_residual.ensures.1 in
    rw (p.1, p.2) (λ named. after_no_head c.args.total c.args.depth c.args.bytes.now _ (c.in_err-head.ensures.gives named))

pub skip_item-returns-clause-gives : goal.skip_item-returns-clause-gives
skip_item-returns-clause-gives t c =
    rw (after_head c.args.total c.args.depth c.args.bytes.now (head_view c.in_ok-head.head) c.in_ok-head.ensures.fits.deep c.in_ok-head.ensures.gives) c.skip_content.ensures.gives

pub skip_items-loop-preserved : goal.skip_items-loop-preserved
skip_items-loop-preserved t c =
    record {
      so_far = skip_more (after_item c.args.total c.args.depth) c.args.count c.loop.counter c.loop.rest.now c.in_ok-rest.rest.now (after_each (after_item c.args.total c.args.depth) c.args.count c.args.bytes.now) c.loop-test.true c.in_ok-rest.ensures.gives c.loop.invariant.so_far;
      within = omega (arith, c.loop.invariant.within, c.in_ok-rest.ensures.within);
    }
