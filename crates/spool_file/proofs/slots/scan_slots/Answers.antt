-- The first slot that breaks is the break; with none left all are counted. The reads are counted, too.

use Rattle.std.proofs.Common.{refl, ◌∙◌, ◌≡◌, ap, sym, subst, arith, None}
use Rattle.spool_file.specs.Area.{first_at}
use Rattle.spool_file.specs.Reading.{counted_in, scan_of}
use Rattle.spool_file.specs.Slot.{in_slot, slot_break, slot_in, slot_place}
use Rattle.spool_file.specs.declared.slots.Scan.{Scan}
use Rattle.disk_base.proofs.Stretches.{same_then}
use Rattle.disk_base.specs.declared.disk.DiskAnswer.TheVariants.{Done, Failed}
use Rattle.spool_file.proofs.Firsts.{first_found, first_next, found_none, none_below, one_more, out_of_slot}
use Rattle.spool_file.proofs.Making.{makes_none}
use Rattle.spool_file.proofs.Stretches.{looks_to, none_read, one_more_look, read_behind, read_of, read_wider}
use Rattle.spool_file.proofs.Stretches.{some_looks}
use Rattle.spool_file.proofs.slots.scan_slots.Goals as goal

pub returns-in-Broken-clause-scan : goal.returns-in-Broken-clause-scan
returns-in-Broken-clause-scan g c s is =
    let found = c.in-Broken.ensures.scan s (c.loop-slot.invariant.1 ∙ is) in (
      first_found (λ k. in_slot k (slot_break c.args.frame k (slot_in s.now.bytes k))) c.loop-slot.slot
          c.args.frame.slots c.in-Broken.not_spool.at
          c.loop-slot-test.true (c.loop-slot.invariant.0 s is).0 found.0,
      found.1,
    )

pub loop-slot-init : goal.loop-slot-init
loop-slot-init g c = (
  λ s is. (refl, refl),
  refl,
  refl,
  (refl, refl, refl),
  none_read _ _,
  makes_none _ _,
  record {
    count = omega arith;
    least = c.requires.frame.floor;
    greatest = omega arith;
    some = omega arith;
    used = omega arith;
  },
)

pub loop-slot-preserved : goal.loop-slot-preserved
loop-slot-preserved g c = (
  λ s is. let scanned = c.in-Whole.ensures.scan s (c.loop-slot.invariant.1 ∙ is) in
      let before = c.loop-slot.invariant.0 s is in
      let slot = slot_in s.now.bytes in (
        first_next (λ k. in_slot k (slot_break c.args.frame k (slot k))) c.loop-slot.slot before.0
            (ap (in_slot c.loop-slot.slot) scanned.0),
        scanned.1
            ∙ ap (λ (scan : Scan). counted_in c.args.frame.floor scan (slot c.loop-slot.slot)) before.1
            ∙ ap (scan_of c.args.frame.floor slot) (one_more c.loop-slot.slot),
      ),
  c.in-Whole.ensures.told ∙ c.loop-slot.invariant.1,
  c.in-Whole.ensures.size ∙ c.loop-slot.invariant.2,
  same_then c.loop-slot.invariant.3 c.in-Whole.ensures.same_disk,
  read_behind _ _ _ _ _ _ c.loop-slot.slot 1 _ Done (omega arith) c.loop-slot.invariant.4
      (read_of (slot_place c.loop-slot.slot) 15 Done c.in-Whole.ensures.look),
  one_more_look (λ k. k) _ _ _ _ _ _ c.loop-slot.slot c.loop-slot.slot Done refl c.loop-slot.invariant.5
      c.in-Whole.ensures.look,
  c.in-Whole.ensures.fits,
)

pub returns-clause-scan : goal.returns-clause-scan
returns-clause-scan g c s is =
    let end : c.loop-slot.slot ≡ c.args.frame.slots = omega (arith, c.loop-slot-test.false, c.loop-slot.auto.slot-end) in
    subst (λ n. (first_at (λ k. in_slot k (slot_break c.args.frame k (slot_in s.now.bytes k))) n ≡ None)
    × (c.loop-slot.scan ≡ scan_of c.args.frame.floor (slot_in s.now.bytes) n)) end (c.loop-slot.invariant.0 s is)

pub returns-in-Broken-clause-reads : goal.returns-in-Broken-clause-reads
returns-in-Broken-clause-reads g c =
    read_behind _ _ _ _ _ _ c.loop-slot.slot 1 c.args.frame.slots Done (omega (arith, c.loop-slot-test.true))
    c.loop-slot.invariant.4
    (read_of (slot_place c.loop-slot.slot) 15 Done c.in-Broken.ensures.look)

pub returns-in-Failed-clause-reads : goal.returns-in-Failed-clause-reads
returns-in-Failed-clause-reads g c =
    read_behind _ _ _ _ _ _ c.loop-slot.slot 1 c.args.frame.slots Failed (omega (arith, c.loop-slot-test.true))
    c.loop-slot.invariant.4
    (read_of (slot_place c.loop-slot.slot) 15 Failed c.in-Failed.ensures.look)

pub returns-clause-reads : goal.returns-clause-reads
returns-clause-reads g c =
    read_wider _ _ _ _ c.loop-slot.slot c.args.frame.slots Done
    (omega (arith, c.loop-slot-test.false, c.loop-slot.auto.slot-end)) c.loop-slot.invariant.4

-- exactly, where no slot breaks
pub returns-in-Broken-clause-exact : goal.returns-in-Broken-clause-exact
returns-in-Broken-clause-exact g c s told none =
    let here = c.in-Broken.ensures.scan s (c.loop-slot.invariant.1 ∙ told) in
    absurd (found_none (sym here.0)
    (ap (in_slot c.loop-slot.slot)
    (out_of_slot c.loop-slot.slot _
    (none_below (λ k. in_slot k (slot_break c.args.frame k (slot_in s.now.bytes k))) c.args.frame.slots
    c.loop-slot.slot none c.loop-slot-test.true))))

pub returns-in-Failed-clause-exact : goal.returns-in-Failed-clause-exact
returns-in-Failed-clause-exact g c s told none =
    some_looks (λ k. k) _ _ _ _ _ _ c.loop-slot.slot c.loop-slot.slot c.args.frame.slots refl c.loop-slot-test.true
    c.loop-slot.invariant.5 c.in-Failed.ensures.look

pub returns-clause-exact : goal.returns-clause-exact
returns-clause-exact g c s told none =
    let end : c.loop-slot.slot ≡ c.args.frame.slots = omega (arith, c.loop-slot-test.false, c.loop-slot.auto.slot-end) in
    looks_to (λ k. k) c.loop-slot.slot c.args.frame.slots end c.loop-slot.invariant.5

pub returns-clause-fits : goal.returns-clause-fits
returns-clause-fits g c =
    let end : c.loop-slot.slot ≡ c.args.frame.slots = omega (arith, c.loop-slot-test.false, c.loop-slot.auto.slot-end) in
    let room = c.loop-slot.invariant.6 in
    record {
      count = omega (arith, room.count, end);
      least = room.least;
      greatest = room.greatest;
      some = room.some;
      used = room.used;
    }
