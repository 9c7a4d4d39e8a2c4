-- The cell got another value, or that failed: the list stands at every moment, with the old setup or the new one.

use Rattle.std.proofs.Common.{Ok, refl, sym, subst, arith}
use Rattle.disk_base.specs.declared.disk.DiskAnswer.TheVariants.{Done, Failed}
use Rattle.spool_file.specs.Setup.{setup_cell}
use Rattle.spool_slots.specs.Changes.{HasMoved, Moves}
use Rattle.spool_slots.specs.Files.{set_in}
use Rattle.spool_slots.specs.Setup.{SetsCell}
use Rattle.spool_slots.specs.Spool.{SpoolView, in_hand}
use Rattle.spool_slots.proofs.Celled.{cell}
use Rattle.spool_slots.proofs.Marks.{move_ends, move_images, move_lost}
use Rattle.spool_slots.proofs.Setups.{new_set, same_set, set_spool}
use Rattle.spool_slots.proofs.spool.Spool.set_area_cell.Goals as goal

pub write_cell-requires-clause-settled : goal.write_cell-requires-clause-settled
write_cell-requires-clause-settled g c = λ s told.
    let k = c.self.inside.known in
    cell s k (c.self.invariant.rests s told) c.self.invariant.room setup_cell (omega arith)

pub taken_up-requires : goal.taken_up-requires
taken_up-requires g c =
    set_spool g.D.Disk c.self.inside.disk c.in-Ok.disk c.self.inside.known c.self.invariant c.args.value
    (λ s told. c.in-Ok.ensures.value s told) c.in-Ok.ensures.size c.in-Ok.ensures.untold

pub returns-in-Ok : goal.returns-in-Ok
returns-in-Ok g c =
    let k = c.self.inside.known in
    let d = c.self.inside.disk in
    let d' = c.in-Ok.disk in
    let value = c.args.value in
    let is = c.self.invariant in
    let moved : HasMoved g.D.Disk d d' setup_cell value (set_in value) Done = record {
      images = move_images (g.D.Disk.told d) (g.D.Disk.told d') setup_cell value (set_in value)
          (same_set g.D.Disk d d' k is) (new_set g.D.Disk d d' k is value) (λ s told. c.in-Ok.ensures.images s told);
      size = c.in-Ok.ensures.size;
      calls = λ s told. c.in-Ok.ensures.calls s told;
      listed = λ going. c.in-Ok.ensures.listed going;
      cause = c.in-Ok.ensures.cause;
      same_disk = c.in-Ok.ensures.same_disk;
    } in
    subst (λ (w : SpoolView g.row.D.Denot). SetsCell g.D.Disk c.args.self value (Ok w)) (sym c.taken_up.ensures)
    (subst (λ (v : SpoolView g.row.D.Denot). SetsCell g.D.Disk v value (Ok (in_hand d' k))) c.self.view_is (
      (
        moved,
        move_ends (g.D.Disk.told d) (g.D.Disk.told d') setup_cell value (set_in value) (same_set g.D.Disk d d' k is)
            (new_set g.D.Disk d d' k is value) (λ s told. c.in-Ok.ensures.value s told),
      ),
      refl,
    ))

pub returns-in-Err : goal.returns-in-Err
returns-in-Err g c =
    let k = c.self.inside.known in
    let d = c.self.inside.disk in
    let d' = c.in-Err.disk in
    let value = c.args.value in
    let is = c.self.invariant in
    let moved : HasMoved g.D.Disk d d' setup_cell value (set_in value) Failed = record {
      images = move_images (g.D.Disk.told d) (g.D.Disk.told d') setup_cell value (set_in value)
          (same_set g.D.Disk d d' k is) (new_set g.D.Disk d d' k is value) (λ s told. c.in-Err.ensures.images s told);
      size = c.in-Err.ensures.size;
      calls = λ s told. c.in-Err.ensures.calls s told;
      listed = λ going. c.in-Err.ensures.listed going;
      cause = c.in-Err.ensures.cause;
      same_disk = c.in-Err.ensures.same_disk;
    } in
    subst (λ (v : SpoolView g.row.D.Denot). Moves g.D.Disk v.disk d' setup_cell value (set_in value) Failed)
    c.self.view_is (
      moved,
      move_lost g.D.Disk d d' setup_cell value (set_in value) (same_set g.D.Disk d d' k is)
          (new_set g.D.Disk d d' k is value) (λ s told. c.in-Err.ensures.loss s told),
    )
