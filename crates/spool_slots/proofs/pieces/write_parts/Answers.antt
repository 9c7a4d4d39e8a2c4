-- Each part has its call.

use Rattle.std.proofs.Common.{◌≡◌, ◌∙◌, refl, arith}
use Rattle.disk_base.specs.declared.disk.DiskAnswer.TheVariants.{Done}
use Rattle.spool_slots.specs.Calls.{part_write}
use Rattle.spool_slots.proofs.Carrying.{carries_none, one_more_row, rows_to, some_rows}
use Rattle.spool_slots.proofs.pieces.write_parts.Goals as goal

pub loop-place-init : goal.loop-place-init
loop-place-init g c = (refl, carries_none g.D.Disk c.args.disk.now)

pub loop-place-preserved : goal.loop-place-preserved
loop-place-preserved g c =
    let m = c.args.message.now in (
      c.in-Done.ensures.made.size ∙ c.loop-place.invariant.0,
      one_more_row g.D.Disk (part_write c.args.slots c.args.number m.stream m.function m.body.now) c.args.disk.now
          c.loop-place.disk c.write_part.new.disk c.loop-place.place Done c.loop-place.invariant.1 c.in-Done.ensures,
    )

pub returns-in-Failed : goal.returns-in-Failed
returns-in-Failed g c =
    let m = c.args.message.now in
    some_rows g.D.Disk (part_write c.args.slots c.args.number m.stream m.function m.body.now) c.args.disk.now
    c.loop-place.disk c.write_part.new.disk c.loop-place.place c.args.size c.loop-place-test.true
    c.loop-place.invariant.1 c.in-Failed.ensures

pub returns : goal.returns
returns g c =
    let m = c.args.message.now in
    let end : c.loop-place.place ≡ c.args.size = omega (arith, c.loop-place-test.false, c.loop-place.auto.place-end) in
    rows_to g.D.Disk (part_write c.args.slots c.args.number m.stream m.function m.body.now) c.args.disk.now
    c.loop-place.disk c.loop-place.place c.args.size end c.loop-place.invariant.1
