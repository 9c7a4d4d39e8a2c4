-- The slot of the first number has the oldest message's head.

use Rattle.std.proofs.Common.{◌<◌, refl, subst, arith}
use Rattle.spool_slots.specs.Changes.{LooksFirst, LooksOn}
use Rattle.spool_slots.specs.Spool.{SpoolView}
use Rattle.spool_slots.specs.declared.states.OldestAnswer.TheVariants as oldest
use Rattle.disk_base.specs.declared.disk.DiskAnswer.TheVariants.{Done, Failed}
use Rattle.spool_slots.proofs.Looking.{found_first}
use Rattle.spool_slots.proofs.spool.Spool.oldest.Goals as goal

pub returns-in-Failed : goal.returns-in-Failed
returns-in-Failed g c =
    let k = c.self.inside.known in
    let one : 0 < k.len = grind (arith, c.if-known-eq0.false) in
    subst (λ (v : SpoolView g.row.D.Denot). LooksOn g.D.Disk v c.look.new.self k.first c.look.new.into Failed →
    LooksFirst g.D.Disk v c.look.new.self c.args.into.now c.look.new.into oldest.Failed) c.self.view_is
    (λ look. (look, one)) c.in-Failed.ensures

pub returns-in-Done : goal.returns-in-Done
returns-in-Done g c =
    let k = c.self.inside.known in
    let one : 0 < k.len = grind (arith, c.if-known-eq0.false) in
    subst (λ (v : SpoolView g.row.D.Denot). LooksOn g.D.Disk v c.look.new.self k.first c.look.new.into Done →
    LooksFirst g.D.Disk v c.look.new.self c.args.into.now c.look.new.into (oldest.Found c.head_in.result)) c.self.view_is
    (λ look. (
      look.0,
      one,
      record {
        slot = look.1;
        head_in = c.head_in.ensures;
        listed = λ s told. found_first s k (c.self.invariant.rests s told) c.self.invariant.room k.first c.look.new.into
            (look.1 s told) one refl c.head_in.result c.head_in.ensures;
      },
    )) c.in-Done.ensures
