-- One message more is off, or a drop has failed.

use Rattle.std.proofs.Common.{◌∙◌, ap, arith, min, subst, Err}
use Rattle.spool_drop.proofs.Drops.{SoFar, all-off, none-more, none-so-far, one-more}
use Rattle.spool_slots.specs.Changes.{Drops}
use Rattle.spool_drop.proofs.dropping.drop_first.Goals as goal

pub loop-off-init : goal.loop-off-init
loop-off-init g c = none-so-far g.D.Disk c.args.spool c.len.ensures.rests

pub loop-off-preserved : goal.loop-off-preserved
loop-off-preserved g c =
    subst (λ n. SoFar g.D.Disk c.args.spool c.in-Ok.rest n) (omega arith)
    (one-more g.D.Disk c.args.spool c.loop-off.spool c.loop-off._off c.loop-off.invariant c.in-Ok.rest
    (omega (arith, c.loop-off.invariant.len, c.loop-off-test.true, c.min-few.ensures, c.len.ensures.len))
    c.in-Ok.ensures)

pub unreachable-requires : goal.unreachable-requires
unreachable-requires g c =
    let dropped =
    subst (λ d. Drops g.D.Disk c.loop-off.spool (Err d)) c.in-Err-Empty.field-0-is c.in-Err-Empty.ensures in
    omega
    (arith, dropped.1, c.loop-off.invariant.len, c.loop-off-test.true, c.min-few.ensures, c.len.ensures.len)

pub returns-in-Err-Failed : goal.returns-in-Err-Failed
returns-in-Err-Failed g c =
    none-more g.D.Disk c.args.spool c.args.count c.len.ensures.rests c.requires c.loop-off.spool c.loop-off._off
    c.loop-off.invariant c.in-Err-Failed.spent
    (omega (arith, c.loop-off-test.true, c.min-few.ensures, c.len.ensures.len))
    (subst (λ d. Drops g.D.Disk c.loop-off.spool (Err d)) c.in-Err-Failed.field-0-is c.in-Err-Failed.ensures)

pub returns : goal.returns
returns g c =
    all-off g.D.Disk c.args.spool c.args.count c.len.ensures.rests c.requires c.loop-off.spool c.min-few.result
    (c.min-few.ensures ∙ ap (min c.args.count) c.len.ensures.len)
    (subst (λ n. SoFar g.D.Disk c.args.spool c.loop-off.spool n)
    (omega (arith, c.loop-off-test.false, c.loop-off.auto)) c.loop-off.invariant)
