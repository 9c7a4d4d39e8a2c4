-- The first slot that is ahead is the break; with none left none is. The reads are counted.

use Rattle.std.proofs.Common.{refl, ◌∙◌, ◌≡◌, subst, arith, None}
use Rattle.spool_file.specs.Area.{first_at}
use Rattle.spool_file.specs.Breaks.{ahead_break}
use Rattle.spool_file.specs.Slot.{in_slot, slot_in, slot_place}
use Rattle.disk_base.proofs.Stretches.{same_then}
use Rattle.disk_base.specs.declared.disk.DiskAnswer.TheVariants.{Done, Failed}
use Rattle.spool_file.proofs.Firsts.{first_found, first_next}
use Rattle.spool_file.proofs.Stretches.{none_read, read_behind, read_of, read_wider}
use Rattle.spool_file.proofs.slots.check_slots.Goals as goal

pub returns-in-Broken-clause-end : goal.returns-in-Broken-clause-end
returns-in-Broken-clause-end g c s is =
    let found = c.in-Broken.ensures.end s (c.loop-slot.invariant.1 ∙ is) in (
      first_found (λ k. in_slot k (ahead_break c.args.floor c.args.end (slot_in s.now.bytes k))) c.loop-slot.slot
          c.args.slots c.in-Broken.not_spool.at
          c.loop-slot-test.true (c.loop-slot.invariant.0 s is) found.0,
      found.1,
    )

pub loop-slot-init : goal.loop-slot-init
loop-slot-init g c = (λ s is. refl, refl, refl, (refl, refl, refl), none_read _ _)

pub loop-slot-preserved : goal.loop-slot-preserved
loop-slot-preserved g c = (
  λ s is.
      first_next (λ k. in_slot k (ahead_break c.args.floor c.args.end (slot_in s.now.bytes k))) c.loop-slot.slot
      (c.loop-slot.invariant.0 s is)
      (c.in-Whole.ensures.end s (c.loop-slot.invariant.1 ∙ is)),
  c.in-Whole.ensures.told ∙ c.loop-slot.invariant.1,
  c.in-Whole.ensures.size ∙ c.loop-slot.invariant.2,
  same_then c.loop-slot.invariant.3 c.in-Whole.ensures.same_disk,
  read_behind _ _ _ _ _ _ c.loop-slot.slot 1 _ Done (omega arith) c.loop-slot.invariant.4
      (read_of (slot_place c.loop-slot.slot) 15 Done c.in-Whole.ensures.look),
)

pub returns-clause-end : goal.returns-clause-end
returns-clause-end g c s is =
    let end : c.loop-slot.slot ≡ c.args.slots = omega (arith, c.loop-slot-test.false, c.loop-slot.auto.slot-end) in
    subst (λ n. first_at (λ k. in_slot k (ahead_break c.args.floor c.args.end (slot_in s.now.bytes k))) n ≡ None) end
    (c.loop-slot.invariant.0 s is)

pub returns-in-Broken-clause-reads : goal.returns-in-Broken-clause-reads
returns-in-Broken-clause-reads g c =
    read_behind _ _ _ _ _ _ c.loop-slot.slot 1 c.args.slots Done (omega (arith, c.loop-slot-test.true))
    c.loop-slot.invariant.4
    (read_of (slot_place c.loop-slot.slot) 15 Done c.in-Broken.ensures.look)

pub returns-in-Failed-clause-reads : goal.returns-in-Failed-clause-reads
returns-in-Failed-clause-reads g c =
    read_behind _ _ _ _ _ _ c.loop-slot.slot 1 c.args.slots Failed (omega (arith, c.loop-slot-test.true))
    c.loop-slot.invariant.4
    (read_of (slot_place c.loop-slot.slot) 15 Failed c.in-Failed.ensures.look)

pub returns-clause-reads : goal.returns-clause-reads
returns-clause-reads g c =
    read_wider _ _ _ _ c.loop-slot.slot c.args.slots Done
    (omega (arith, c.loop-slot-test.false, c.loop-slot.auto.slot-end)) c.loop-slot.invariant.4
