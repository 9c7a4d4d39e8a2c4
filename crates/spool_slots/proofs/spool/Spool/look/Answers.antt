-- The slot was read, and the spool is as it was.

use Rattle.std.proofs.Common.{◌≡◌, length, subst, arith}
use Rattle.spool_slots.specs.Changes.{LooksOn}
use Rattle.spool_slots.specs.Spool.{SpoolView, in_hand}
use Rattle.spool_slots.proofs.Looking.{looked_on, looks_on}
use Rattle.spool_slots.proofs.spool.Spool.look.Goals as goal

pub invariant_of-self : goal.invariant_of-self
invariant_of-self g c =
    looked_on g.D.Disk c.self.inside.disk c.read_at.new.disk c.self.inside.known c.self.invariant c.read_at.ensures.told
    c.read_at.ensures.row.made.size

pub returns : goal.returns
returns g c =
    let k = c.self.inside.known in
    let d = c.self.inside.disk in
    let d' = c.read_at.new.disk in
    let long : length c.read_at.new.into ≡ 4096 = grind (arith, c.read_at.auto.into, c.told-into) in
    subst (λ (v : SpoolView g.row.D.Denot). LooksOn g.D.Disk v (in_hand d' k) c.args.number c.read_at.new.into
    c.read_at.result) c.self.view_is
    (looks_on g.D.Disk d d' k c.args.number c.number_place-at.result (length c.args.into.now) c.read_at.new.into
    c.read_at.result c.number_place-at.ensures.place c.told-into long c.read_at.ensures.told c.read_at.ensures.bytes
    c.read_at.ensures.row)
