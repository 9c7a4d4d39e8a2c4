-- The mark was moved on, or that failed: the list stands at every moment, with the old mark or the new one.

use Rattle.std.proofs.Common.{◌∙◌, ◌+◌, Ok, refl, ap, sym, subst, arith}
use Rattle.disk_base.specs.declared.disk.DiskAnswer.TheVariants.{Done, Failed}
use Rattle.spool_file.specs.Front.{mark_cell}
use Rattle.spool_file.specs.declared.recovery.Known.{Known}
use Rattle.spool_slots.specs.Changes.{HasMoved, MovesMark, Reserves}
use Rattle.spool_slots.specs.Files.{reserved_in}
use Rattle.spool_slots.specs.Spool.{IsSpool, SpoolView, in_hand}
use Rattle.spool_slots.proofs.Celled.{cell}
use Rattle.spool_slots.proofs.Marks.{move_ends, move_images, move_lost, new_marked, reserve_spool, same_marked}
use Rattle.spool_slots.proofs.spool.Spool.reserve.Goals as goal

pub write_cell-requires-clause-settled : goal.write_cell-requires-clause-settled
write_cell-requires-clause-settled g c = λ s told.
    let k = c.self.inside.known in
    cell s k (c.self.invariant.rests s told) c.self.invariant.room mark_cell (omega arith)

pub taken_up-requires : goal.taken_up-requires
taken_up-requires g c =
    let k = c.self.inside.known in
    subst (λ (n : Known). IsSpool g.D.Disk (in_hand c.in-Ok.disk n)) (sym c.with_mark_moved.ensures)
    (reserve_spool g.D.Disk c.self.inside.disk c.in-Ok.disk k c.self.invariant c.if-known-gt-MARK_MOST.false
    (λ s told. c.in-Ok.ensures.value s told)
    c.in-Ok.ensures.size c.in-Ok.ensures.untold)

pub returns-in-Ok : goal.returns-in-Ok
returns-in-Ok g c =
    let k = c.self.inside.known in
    let d = c.self.inside.disk in
    let d' = c.in-Ok.disk in
    let left = c.if-known-gt-MARK_MOST.false in
    let is = c.self.invariant in
    let next : Known = record { version = k.version; slots = k.slots; first = k.first; next = k.next; len = k.len; mark = k.mark + 4096 } in
    let moved : HasMoved g.D.Disk d d' mark_cell (k.mark + 4096) reserved_in Done = record {
      images = move_images (g.D.Disk.told d) (g.D.Disk.told d') mark_cell (k.mark + 4096) reserved_in
          (same_marked g.D.Disk d d' k is)
          (new_marked g.D.Disk d d' k is left) (λ s told. c.in-Ok.ensures.images s told);
      size = c.in-Ok.ensures.size;
      calls = λ s told. c.in-Ok.ensures.calls s told;
      listed = λ going. c.in-Ok.ensures.listed going;
      cause = c.in-Ok.ensures.cause;
      same_disk = c.in-Ok.ensures.same_disk;
    } in
    subst (λ (w : SpoolView g.row.D.Denot). Reserves g.D.Disk c.args.self (Ok (w, k.mark)))
    (sym (c.taken_up.ensures ∙ ap (λ (n : Known). in_hand d' n) c.with_mark_moved.ensures))
    (subst (λ (v : SpoolView g.row.D.Denot). Reserves g.D.Disk v (Ok (in_hand d' next, k.mark))) c.self.view_is (
      (
        left,
        (
          moved,
          move_ends (g.D.Disk.told d) (g.D.Disk.told d') mark_cell (k.mark + 4096) reserved_in
              (same_marked g.D.Disk d d' k is)
              (new_marked g.D.Disk d d' k is left) (λ s told. c.in-Ok.ensures.value s told),
        ),
      ),
      refl,
      refl,
    ))

pub returns-in-Err : goal.returns-in-Err
returns-in-Err g c =
    let k = c.self.inside.known in
    let d = c.self.inside.disk in
    let d' = c.in-Err.disk in
    let left = c.if-known-gt-MARK_MOST.false in
    let is = c.self.invariant in
    let moved : HasMoved g.D.Disk d d' mark_cell (k.mark + 4096) reserved_in Failed = record {
      images = move_images (g.D.Disk.told d) (g.D.Disk.told d') mark_cell (k.mark + 4096) reserved_in
          (same_marked g.D.Disk d d' k is)
          (new_marked g.D.Disk d d' k is left) (λ s told. c.in-Err.ensures.images s told);
      size = c.in-Err.ensures.size;
      calls = λ s told. c.in-Err.ensures.calls s told;
      listed = λ going. c.in-Err.ensures.listed going;
      cause = c.in-Err.ensures.cause;
      same_disk = c.in-Err.ensures.same_disk;
    } in
    subst (λ (v : SpoolView g.row.D.Denot). MovesMark g.D.Disk v d' Failed) c.self.view_is (
      left,
      (
        moved,
        move_lost g.D.Disk d d' mark_cell (k.mark + 4096) reserved_in (same_marked g.D.Disk d d' k is)
            (new_marked g.D.Disk d d' k is left) (λ s told. c.in-Err.ensures.loss s told),
      ),
    )
