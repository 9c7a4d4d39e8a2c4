-- One message more is shown, or one ends the listing.

use Rattle.std.proofs.Common.{◌+◌, ℕ, sym, subst, arith}
use Rattle.gl_base.specs.Told.{sink_told}
use Rattle.spool_show.proofs.Lists.{AreShown, shown_all, shown_first, shown_more, shown_stops, still_rests, there}
use Rattle.spool_show.proofs.Putting.{shown_on}
use Rattle.spool_show.proofs.listing.put_list.Goals as goal

pub loop-number-init : goal.loop-number-init
loop-number-init g c =
    subst (λ (n : ℕ). AreShown g.D.Disk c.args.spool.now c.args.spool.now n
    (sink_told g.W.Sink c.args.out.now c.args.out.now) c.args.page.now.bytes.items c.args.page.now.bytes.items)
    (sym c.first-number.ensures.first) (shown_first c.args.spool.now c.args.page.now.bytes.items c.requires)

pub put_next-requires-clause-rests : goal.put_next-requires-clause-rests
put_next-requires-clause-rests g c = still_rests _ _ _ _ _ c.requires c.loop-number.invariant

pub put_next-requires-clause-there : goal.put_next-requires-clause-there
put_next-requires-clause-there g c =
    there _ _ _ _ _ c.requires c.loop-number.invariant (omega (arith, c.loop-number-test.true, c.next-next.ensures.next))

pub loop-number-preserved : goal.loop-number-preserved
loop-number-preserved g c =
    subst (λ (n : ℕ). AreShown g.D.Disk c.args.spool.now c.put_next.new.spool (c.loop-number.number + n)
    (sink_told g.W.Sink c.args.out.now c.put_next.new.out) c.args.page.now.bytes.items c.put_next.new.page.bytes.items)
    (sym c.from-number.ensures)
    (shown_more _ _ _ _ _ c.requires c.loop-number.invariant
    (omega (arith, c.loop-number-test.true, c.next-next.ensures.next)) _ _ c.put_next.new.spool _ c.in-Ok.size
    c.in-Ok.ensures.read c.in-Ok.ensures.line c.in-Ok.ensures.size)

pub returns-in-Err : goal.returns-in-Err
returns-in-Err g c = record {
  read = shown_on _ _ _ _ c.loop-number.invariant.shown c.in-Err.ensures.read;
  lines = shown_stops _ _ _ _ _ c.requires c.loop-number.invariant
      (omega (arith, c.loop-number-test.true, c.next-next.ensures.next)) _ _ c.put_next.new.spool _ c.in-Err.stopped
      c.in-Err.ensures.stops c.in-Err.ensures.line;
}

pub returns : goal.returns
returns g c = record {
  read = c.loop-number.invariant.shown;
  lines = shown_all _ _ _ _ _ c.requires c.loop-number.invariant
      (λ less. omega (arith, less, c.loop-number-test.false, c.next-next.ensures.next));
}
