-- The file of an empty list makes a spool.

use Rattle.std.proofs.Common.{◌∙◌, ◌≤◌, Ok, refl, ap, sym, subst, arith}
use Rattle.spool_file.specs.Slot.{slot_place}
use Rattle.spool_file.specs.declared.recovery.Known.{Known}
use Rattle.spool_slots.specs.Format.{Formats}
use Rattle.spool_slots.specs.Spool.{IsSpool, SpoolView, in_hand}
use Rattle.spool_slots.proofs.Found.{empty_spool}
use Rattle.spool_slots.proofs.states.Raw.format.Goals as goal

pub taken_up-requires : goal.taken_up-requires
taken_up-requires g c =
    let some : 1 ≤ c.args.slots = grind (arith, c.if-slots-eq0.false) in
    let most : c.args.slots ≤ 65535 = omega (arith, c.if-slots-gt-SLOTS_MOST.false) in
    let fits : slot_place c.args.slots ≤ g.D.Disk.size_is c.write_empty.new.disk =
    omega (arith, c.if-size-need.false, c.size-size.ensures, c.area_end-need.ensures, c.in-Done.ensures.size) in
    subst (λ (n : Known). IsSpool g.D.Disk (in_hand c.write_empty.new.disk n)) (sym c.new.ensures)
    (empty_spool g.D.Disk c.write_empty.new.disk c.args.slots some most fits (λ t told. (c.in-Done.ensures.told t told).ends)
    (λ t told. g.met.D.Disk.sized c.write_empty.new.disk t told))

pub returns-in-Done : goal.returns-in-Done
returns-in-Done g c =
    subst (λ (w : SpoolView g.row.D.Denot). Formats g.D.Disk c.args.self.disk c.args.slots (Ok w))
    (sym (c.taken_up.ensures ∙ ap (λ (n : Known). in_hand c.write_empty.new.disk n) c.new.ensures)) (
      record {
        size = c.in-Done.ensures.size;
        cause = c.in-Done.ensures.cause;
        calls = c.in-Done.ensures.calls;
        same_disk = c.in-Done.ensures.same_disk;
      },
      refl,
      c.in-Done.ensures.told,
    )
