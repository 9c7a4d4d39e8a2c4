-- The gate of the cell was read, and the spool is as it was.

use Rattle.std.proofs.Common.{◌+◌, refl, subst}
use Rattle.disk_base.specs.declared.disk.DiskAnswer.TheVariants.{Done, Failed}
use Rattle.spool_file.specs.Setup.{setup_cell}
use Rattle.spool_slots.specs.Setup.{ReadsPlace}
use Rattle.spool_slots.specs.Spool.{SpoolView, in_hand}
use Rattle.spool_slots.specs.declared.states.PlaceAnswer.TheVariants as place
use Rattle.spool_slots.proofs.Looking.{looked_on, seen}
use Rattle.spool_slots.proofs.Setups.{named_place}
use Rattle.spool_slots.proofs.spool.Spool.area_place.Goals as goal

pub invariant_of-self : goal.invariant_of-self
invariant_of-self g c =
    looked_on g.D.Disk c.self.inside.disk c.read_at.new.disk c.self.inside.known c.self.invariant c.read_at.ensures.told
    c.read_at.ensures.row.made.size

pub invariant_of-self-2 : goal.invariant_of-self-2
invariant_of-self-2 g c =
    looked_on g.D.Disk c.self.inside.disk c.read_at.new.disk c.self.inside.known c.self.invariant c.read_at.ensures.told
    c.read_at.ensures.row.made.size

pub returns-in-Failed : goal.returns-in-Failed
returns-in-Failed g c =
    let k = c.self.inside.known in
    let d = c.self.inside.disk in
    let d' = c.read_at.new.disk in
    subst (λ (v : SpoolView g.row.D.Denot). ReadsPlace g.D.Disk v (in_hand d' k) place.Failed) c.self.view_is
    (seen g.D.Disk d d' k (setup_cell + 16) (setup_cell + 16) 1 1 Failed refl refl c.read_at.ensures.told
    c.in-Failed.ensures.row)

pub returns : goal.returns
returns g c =
    let k = c.self.inside.known in
    let d = c.self.inside.disk in
    let d' = c.read_at.new.disk in
    subst (λ (v : SpoolView g.row.D.Denot). ReadsPlace g.D.Disk v (in_hand d' k) (place.Place c.copy_at.result))
    c.self.view_is (
      seen g.D.Disk d d' k (setup_cell + 16) (setup_cell + 16) 1 1 Done refl refl c.read_at.ensures.told
          c.in-Done.ensures.row,
      c.copy_at.ensures.either,
      λ s told. named_place s.now.bytes c.read_at.new.into c.copy_at.result c.read_at.auto.into
          (c.in-Done.ensures.bytes s told) c.copy_at.ensures.place,
    )
