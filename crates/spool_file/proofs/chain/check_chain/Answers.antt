-- The first slot that is alone in its turn is the break; with none left none is. The reads are counted, too.

use Rattle.std.proofs.Common.{refl, ◌∙◌, ◌≡◌, ◌+◌, ◌-◌, ◌<◌, nat_le, ℕ, List, ap, sym, subst, arith, Some, None}
use Rattle.spool_file.specs.Area.{first_at}
use Rattle.spool_file.specs.Chain.{LoneIs, lead_of, lone_by}
use Rattle.spool_file.specs.Reads.{look_back, slot_behind}
use Rattle.spool_file.specs.Slot.{in_slot, slot_in, slot_place}
use Rattle.disk_base.proofs.Stretches.{same_then}
use Rattle.disk_base.specs.declared.disk.DiskAnswer.TheVariants.{Done, Failed}
use Rattle.spool_file.proofs.Firsts.{found_none}
use Rattle.spool_file.proofs.Making.{makes_none}
use Rattle.spool_file.proofs.Sound.{of_fields}
use Rattle.spool_file.proofs.Stretches.{looks_to, none_read, one_more_look, read_behind, read_of, read_wider}
use Rattle.spool_file.proofs.Stretches.{some_looks}
use Rattle.spool_file.proofs.Windows.{IsWindow, broken_in_turn, lone, no_window, one_noted, passed_on}
use Rattle.spool_file.proofs.chain.check_chain.Goals as goal

pub loop-place-init : goal.loop-place-init
loop-place-init g c = (
  λ s is. let none : 0 - look_back c.args.frame.slots ≡ 0 = omega arith in (
    no_window c.args.frame (slot_in s.now.bytes),
    ap (first_at (lone c.args.frame (slot_in s.now.bytes) c.args.least)) none,
  ),
  refl,
  refl,
  (refl, refl, refl),
  none_read _ _,
  makes_none _ _,
)

pub loop-place-preserved : goal.loop-place-preserved
loop-place-preserved g c = (
  λ s told.
      let frame = c.args.frame in
      let slot = slot_in s.now.bytes in
      let place = c.loop-place.place in
      let before = c.loop-place.invariant.0 s told in
      let lead = c.in-Whole.ensures.lead s (c.loop-place.invariant.1 ∙ told) in
      let at = c.slot_behind-slot.ensures.slot in
      let below : place < frame.slots + look_back frame.slots =
      omega (arith, c.loop-place-test.true, c.min-back.ensures) in
      let here : slot_behind frame.slots place < frame.slots =
      subst (λ n. n < frame.slots) at c.slot_behind-slot.ensures.bound in (
        subst (λ (w : List ℕ). IsWindow frame slot w (place + 1)) (sym c.note_lead.ensures)
            (one_noted frame slot c.loop-place.window place c.in-Whole.lead before.0 here
            (lead.0 ∙ ap (λ (n : ℕ). lead_of frame.floor (slot n)) at)),
        passed_on frame slot c.requires.frame.some (of_fields frame slot (c.requires.told s told).0) c.args.least
            c.loop-place.window place (nat_le c.min-back.result place)
            (ap (λ (n : ℕ). nat_le n place) c.min-back.ensures) below before.0
            (subst (λ n. LoneIs frame.floor c.args.least (nat_le c.min-back.result place) c.loop-place.window (slot n) None) at
            lead.1) before.1,
      ),
  c.in-Whole.ensures.told ∙ c.loop-place.invariant.1,
  c.in-Whole.ensures.size ∙ c.loop-place.invariant.2,
  same_then c.loop-place.invariant.3 c.in-Whole.ensures.same_disk,
  read_behind _ _ _ _ _ _ c.loop-place.place 1 _ Done (omega arith) c.loop-place.invariant.4
      (read_of (slot_place c.slot_behind-slot.result) 15 Done c.in-Whole.ensures.look),
  one_more_look (slot_behind c.args.frame.slots) _ _ _ _ _ _ c.loop-place.place c.slot_behind-slot.result Done
      c.slot_behind-slot.ensures.slot c.loop-place.invariant.5 c.in-Whole.ensures.look,
)

pub returns-in-Broken-clause-chain : goal.returns-in-Broken-clause-chain
returns-in-Broken-clause-chain g c s told =
    let frame = c.args.frame in
    let slot = slot_in s.now.bytes in
    let before = c.loop-place.invariant.0 s told in
    let found = c.in-Broken.ensures.lead s (c.loop-place.invariant.1 ∙ told) in
    let at = c.slot_behind-slot.ensures.slot in
    let least = (c.requires.told s told).1 in
    let below : c.loop-place.place < frame.slots + look_back frame.slots =
    omega (arith, c.loop-place-test.true, c.min-back.ensures) in (
      ap (λ (n : ℕ). first_at (lone frame slot n) frame.slots) (sym least)
          ∙ broken_in_turn frame slot c.requires.frame.some (of_fields frame slot (c.requires.told s told).0) c.args.least
          c.loop-place.window c.loop-place.place c.in-Broken.not_spool.at (nat_le c.min-back.result c.loop-place.place)
          (ap (λ (n : ℕ). nat_le n c.loop-place.place) c.min-back.ensures) found.0 below before.0
          (subst (λ n. in_slot n (lone_by frame.floor c.args.least c.loop-place.window (slot n))
          ≡ Some c.in-Broken.not_spool.at) at found.1.0)
          before.1,
      found.1.1,
    )

pub returns-clause-chain : goal.returns-clause-chain
returns-clause-chain g c s told =
    let back = look_back c.args.frame.slots in
    let end : c.loop-place.place - back ≡ c.args.frame.slots =
    omega (arith, c.loop-place-test.false, c.loop-place.auto.place-end, c.min-back.ensures) in
    ap (λ (n : ℕ). first_at (lone c.args.frame (slot_in s.now.bytes) n) c.args.frame.slots)
    (sym (c.requires.told s told).1)
    ∙ subst (λ n. first_at (lone c.args.frame (slot_in s.now.bytes) c.args.least) n ≡ None) end
    (c.loop-place.invariant.0 s told).1

pub returns-in-Broken-clause-reads : goal.returns-in-Broken-clause-reads
returns-in-Broken-clause-reads g c =
    read_behind _ _ _ _ _ _ c.loop-place.place 1 (c.args.frame.slots + look_back c.args.frame.slots) Done
    (omega (arith, c.loop-place-test.true, c.min-back.ensures)) c.loop-place.invariant.4
    (read_of (slot_place c.slot_behind-slot.result) 15 Done c.in-Broken.ensures.look)

pub returns-in-Failed-clause-reads : goal.returns-in-Failed-clause-reads
returns-in-Failed-clause-reads g c =
    read_behind _ _ _ _ _ _ c.loop-place.place 1 (c.args.frame.slots + look_back c.args.frame.slots) Failed
    (omega (arith, c.loop-place-test.true, c.min-back.ensures)) c.loop-place.invariant.4
    (read_of (slot_place c.slot_behind-slot.result) 15 Failed c.in-Failed.ensures.look)

pub returns-clause-reads : goal.returns-clause-reads
returns-clause-reads g c =
    read_wider _ _ _ _ c.loop-place.place (c.args.frame.slots + look_back c.args.frame.slots) Done
    (omega (arith, c.loop-place-test.false, c.loop-place.auto.place-end, c.min-back.ensures)) c.loop-place.invariant.4

-- exactly, where each follows another
pub returns-in-Broken-clause-exact : goal.returns-in-Broken-clause-exact
returns-in-Broken-clause-exact g c s told none =
    let frame = c.args.frame in
    let slot = slot_in s.now.bytes in
    let before = c.loop-place.invariant.0 s told in
    let found = c.in-Broken.ensures.lead s (c.loop-place.invariant.1 ∙ told) in
    let at = c.slot_behind-slot.ensures.slot in
    let below : c.loop-place.place < frame.slots + look_back frame.slots =
    omega (arith, c.loop-place-test.true, c.min-back.ensures) in
    let broken = broken_in_turn frame slot c.requires.frame.some (of_fields frame slot (c.requires.told s told).0)
    c.args.least c.loop-place.window c.loop-place.place c.in-Broken.not_spool.at
    (nat_le c.min-back.result c.loop-place.place) (ap (λ (n : ℕ). nat_le n c.loop-place.place) c.min-back.ensures) found.0
    below before.0 (subst (λ n. in_slot n (lone_by frame.floor c.args.least c.loop-place.window (slot n))
    ≡ Some c.in-Broken.not_spool.at) at found.1.0) before.1 in
    absurd (found_none (sym broken)
    (ap (λ (least : ℕ). first_at (lone frame slot least) frame.slots) (c.requires.told s told).1 ∙ none))

pub returns-in-Failed-clause-exact : goal.returns-in-Failed-clause-exact
returns-in-Failed-clause-exact g c s told none =
    some_looks (slot_behind c.args.frame.slots) _ _ _ _ _ _ c.loop-place.place c.slot_behind-slot.result
    (c.args.frame.slots + look_back c.args.frame.slots) c.slot_behind-slot.ensures.slot
    (omega (arith, c.loop-place-test.true, c.min-back.ensures))
    c.loop-place.invariant.5 c.in-Failed.ensures.look

pub returns-clause-exact : goal.returns-clause-exact
returns-clause-exact g c s told none =
    let all = c.args.frame.slots + look_back c.args.frame.slots in
    let end : c.loop-place.place ≡ all =
    omega (arith, c.loop-place-test.false, c.loop-place.auto.place-end, c.min-back.ensures) in
    looks_to (slot_behind c.args.frame.slots) c.loop-place.place all end c.loop-place.invariant.5
