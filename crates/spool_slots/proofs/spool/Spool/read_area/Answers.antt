-- Bytes of the area were read, and the spool is as it was.

use Rattle.std.proofs.Common.{◌≡◌, ◌+◌, length, ap, subst, sym, arith}
use Rattle.spool_slots.specs.Setup.{ReadsArea}
use Rattle.spool_slots.specs.Spool.{SpoolView, in_hand}
use Rattle.spool_slots.proofs.Looking.{looked_on}
use Rattle.spool_slots.proofs.Setups.{has_known, reads_area}
use Rattle.spool_slots.proofs.spool.Spool.read_area.Goals as goal

pub invariant_of-self : goal.invariant_of-self
invariant_of-self g c =
    looked_on g.D.Disk c.self.inside.disk c.read_at.new.disk c.self.inside.known c.self.invariant c.read_at.ensures.told
    c.read_at.ensures.row.made.size

pub returns : goal.returns
returns g c =
    let k = c.self.inside.known in
    let d = c.self.inside.disk in
    let d' = c.read_at.new.disk in
    let into = c.read_at.new.into in
    let long : length c.args.into.now ≡ length into = sym c.read_at.auto.into in
    subst (λ (v : SpoolView g.row.D.Denot). ReadsArea g.D.Disk v (in_hand d' k) c.args.at into c.read_at.result)
    c.self.view_is
    (reads_area g.D.Disk d d' k c.self.invariant (λ s told. g.met.D.Disk.sized d s told)
    (has_known g.D.Disk c.args.self.now d k c.self.view_is c.requires.area) c.args.at
    (c.slot_place-begin.result + c.args.at) (length c.args.into.now) into c.read_at.result
    (ap (λ n. n + c.args.at) c.slot_place-begin.ensures) long (omega (arith, long, c.requires.within))
    c.read_at.ensures.told c.read_at.ensures.bytes c.read_at.ensures.row)
