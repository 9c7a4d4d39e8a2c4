-- The floor was moved up to the next number, or that failed: the whole list stands at every moment, or none of it.

use Rattle.std.proofs.Common.{◌≡◌, ◌∙◌, ◌<◌, Ok, refl, ap, sym, subst, inl, inr, arith}
use Rattle.disk_base.specs.declared.disk.DiskAnswer.TheVariants.{Done, Failed}
use Rattle.spool_file.specs.File.{file_in}
use Rattle.spool_file.specs.Front.{floor_cell}
use Rattle.spool_file.specs.declared.recovery.Known.{Known}
use Rattle.spool_file.proofs.Lists.{none_long}
use Rattle.spool_slots.specs.Changes.{Clears, HasMoved, MovesFloor}
use Rattle.spool_slots.specs.Files.{cleared_in}
use Rattle.spool_slots.specs.Spool.{IsSpool, SpoolView, in_hand}
use Rattle.spool_slots.proofs.Celled.{cell}
use Rattle.spool_slots.proofs.Marks.{clear_spool, move_ends, move_images, move_lost, new_floored, same_floored}
use Rattle.spool_slots.proofs.spool.Spool.clear.Goals as goal

pub write_cell-requires-clause-settled : goal.write_cell-requires-clause-settled
write_cell-requires-clause-settled g c = λ s told.
    let k = c.self.inside.known in
    cell s k (c.self.invariant.rests s told) c.self.invariant.room floor_cell (omega arith)

pub taken_up-requires : goal.taken_up-requires
taken_up-requires g c =
    let k = c.self.inside.known in
    let one : 0 < k.len = grind (arith, c.if-known-eq0.false) in
    subst (λ (n : Known). IsSpool g.D.Disk (in_hand c.in-Ok.disk n)) (sym c.without_all.ensures)
    (clear_spool g.D.Disk c.self.inside.disk c.in-Ok.disk k c.self.invariant one
    (λ s told. c.in-Ok.ensures.value s told)
    c.in-Ok.ensures.size c.in-Ok.ensures.untold)

pub returns-in-Ok : goal.returns-in-Ok
returns-in-Ok g c =
    let k = c.self.inside.known in
    let d = c.self.inside.disk in
    let d' = c.in-Ok.disk in
    let one : 0 < k.len = grind (arith, c.if-known-eq0.false) in
    let is = c.self.invariant in
    let next : Known = record { version = k.version; slots = k.slots; first = k.next; next = k.next; len = 0; mark = k.mark } in
    let moved : HasMoved g.D.Disk d d' floor_cell k.next (cleared_in k.next) Done = record {
      images = move_images (g.D.Disk.told d) (g.D.Disk.told d') floor_cell k.next (cleared_in k.next)
          (same_floored g.D.Disk d d' k is)
          (new_floored g.D.Disk d d' k is one) (λ s told. c.in-Ok.ensures.images s told);
      size = c.in-Ok.ensures.size;
      calls = λ s told. c.in-Ok.ensures.calls s told;
      listed = λ going. c.in-Ok.ensures.listed going;
      cause = c.in-Ok.ensures.cause;
      same_disk = c.in-Ok.ensures.same_disk;
    } in
    subst (λ (w : SpoolView g.row.D.Denot). Clears g.D.Disk c.args.self (Ok w))
    (sym (c.taken_up.ensures ∙ ap (λ (n : Known). in_hand d' n) c.without_all.ensures))
    (subst (λ (v : SpoolView g.row.D.Denot). Clears g.D.Disk v (Ok (in_hand d' next))) c.self.view_is (inr (
      (
        one,
        (
          moved,
          move_ends (g.D.Disk.told d) (g.D.Disk.told d') floor_cell k.next (cleared_in k.next)
              (same_floored g.D.Disk d d' k is)
              (new_floored g.D.Disk d d' k is one) (λ s told. c.in-Ok.ensures.value s told),
        ),
      ),
      refl,
    )))

pub returns-in-Err : goal.returns-in-Err
returns-in-Err g c =
    let k = c.self.inside.known in
    let d = c.self.inside.disk in
    let d' = c.in-Err.disk in
    let one : 0 < k.len = grind (arith, c.if-known-eq0.false) in
    let is = c.self.invariant in
    let moved : HasMoved g.D.Disk d d' floor_cell k.next (cleared_in k.next) Failed = record {
      images = move_images (g.D.Disk.told d) (g.D.Disk.told d') floor_cell k.next (cleared_in k.next)
          (same_floored g.D.Disk d d' k is)
          (new_floored g.D.Disk d d' k is one) (λ s told. c.in-Err.ensures.images s told);
      size = c.in-Err.ensures.size;
      calls = λ s told. c.in-Err.ensures.calls s told;
      listed = λ going. c.in-Err.ensures.listed going;
      cause = c.in-Err.ensures.cause;
      same_disk = c.in-Err.ensures.same_disk;
    } in
    subst (λ (v : SpoolView g.row.D.Denot). MovesFloor g.D.Disk v d' Failed) c.self.view_is (
      one,
      (
        moved,
        move_lost g.D.Disk d d' floor_cell k.next (cleared_in k.next) (same_floored g.D.Disk d d' k is)
            (new_floored g.D.Disk d d' k is one) (λ s told. c.in-Err.ensures.loss s told),
      ),
    )

pub returns-then-known-eq0 : goal.returns-then-known-eq0
returns-then-known-eq0 g c =
    let none : c.self.inside.known.len ≡ 0 = grind (arith, c.if-known-eq0.true) in
    subst (λ (v : SpoolView g.row.D.Denot). Clears g.D.Disk v (Ok v)) c.self.view_is
    (inl (
      none,
      c.self.invariant.none none,
      refl,
      λ s told. none_long (file_in s.now.bytes).list
          (sym (c.self.invariant.rests s told).count ∙ none),
    ))
