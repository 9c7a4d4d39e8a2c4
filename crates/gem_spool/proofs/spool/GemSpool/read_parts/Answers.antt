-- Each further slot has its read, and its piece of the body.

use Rattle.std.proofs.Common.{◌≡◌, ◌+◌, ◌-◌, ◌≤◌, ◌++◌, ℕ, List, ◌∙◌, append-nil, drop, refl, sym, ap, subst, arith}
use Rattle.disk_base.specs.declared.disk.DiskAnswer.TheVariants.{Done}
use Rattle.gem_spool.specs.Oldest.{slot_looks}
use Rattle.gem_spool.proofs.Pieces.{piece_body, piece_failed, piece_made, piece_same}
use Rattle.spool_file.specs.Slot.{areas_from, slot_in}
use Rattle.spool_file.proofs.BodySizes.{some_slots}
use Rattle.spool_slots.specs.Changes.{HasMade}
use Rattle.spool_slots.proofs.Carrying.{carries_none}
use Rattle.gem_spool.proofs.spool.GemSpool.read_parts.Goals as goal

pub part-requires-clause-head : goal.part-requires-clause-head
part-requires-clause-head g c = λ s told. c.requires.listed s (sym c.parts.invariant.2 ∙ told)

pub parts-init : goal.parts-init
parts-init g c = (
  refl,
  refl,
  refl,
  (carries_none g.D.Disk c.args.self.now.spool.disk).made,
  λ s told. sym (append-nil c.args.body.now),
)

pub parts-preserved : goal.parts-preserved
parts-preserved g c =
    let v = c.args.self.now.spool in
    let u = c.parts.self.spool in
    let w = c.part.new.self in
    let number = c.args.head.now.number + c.parts.part in
    let is = c.parts.invariant in
    let some : 1 ≤ c.parts.part = omega (arith, c.parts.auto.part) in
    let at : number ≡ v.first + c.parts.part = omega (arith, c.requires.number) in
    let look = c.in-Done.ensures in (
      is.0,
      piece_same g.D.Disk v u w number c.parts.part some at is.1 is.2 is.3 _ look.0,
      look.0.told ∙ is.2,
      piece_made g.D.Disk v u w number c.parts.part some at is.1 is.2 is.3 look.0,
      λ s told.
          c.in-Ok.ensures.ok
          ∙ ap (λ (body : List ℕ). body ++ drop 15 c.part.new.into) (is.4 s told)
          ∙ piece_body g.D.Disk v u w number c.parts.part some at is.1 is.2 is.3 s told c.part.new.into c.args.body.now
          look.1,
    )

pub returns-in-Failed-clause-reads : goal.returns-in-Failed-clause-reads
returns-in-Failed-clause-reads g c =
    let v = c.args.self.now.spool in
    let is = c.parts.invariant in
    let some : 1 ≤ c.parts.part = omega (arith, c.parts.auto.part) in
    let at : c.args.head.now.number + c.parts.part ≡ v.first + c.parts.part = omega (arith, c.requires.number) in
    piece_failed g.D.Disk v c.parts.self.spool c.part.new.self (c.args.head.now.number + c.parts.part) c.parts.part some
    at is.1 is.2 is.3 c.args.slots c.parts-test.true c.in-Failed.ensures

pub returns-in_default-clause-reads : goal.returns-in_default-clause-reads
returns-in_default-clause-reads g c =
    let v = c.args.self.now.spool in
    let u = c.parts.self.spool in
    let w = c.part.new.self in
    let number = c.args.head.now.number + c.parts.part in
    let is = c.parts.invariant in
    let some : 1 ≤ c.parts.part = omega (arith, c.parts.auto.part) in
    let at : number ≡ v.first + c.parts.part = omega (arith, c.requires.number) in
    let look = c.in-Done.ensures in record {
      made = c.parts.part + 1;
      few = omega (arith, c.parts-test.true);
      reads = record {
        same = piece_same g.D.Disk v u w number c.parts.part some at is.1 is.2 is.3 _ look.0;
        told = look.0.told ∙ is.2;
        made = piece_made g.D.Disk v u w number c.parts.part some at is.1 is.2 is.3 look.0;
      };
    }

pub returns-clause-reads : goal.returns-clause-reads
returns-clause-reads g c =
    let v = c.args.self.now.spool in
    let is = c.parts.invariant in
    let least = some_slots c.args.head.now.len in
    let end : c.parts.part - 1 ≡ c.args.slots - 1 =
    omega (arith, c.parts-test.false, c.parts.auto.part-end, c.parts.auto.part, least, c.requires.len) in (
      record {
        same = is.1;
        told = is.2;
        made = subst (λ (n : ℕ). HasMade g.D.Disk v.disk c.parts.self.spool.disk (slot_looks v.slots (v.first + 1) n) Done)
            end is.3;
      },
      λ s told. is.4 s told
          ∙ ap (λ (n : ℕ). c.args.body.now ++ areas_from v.slots (slot_in s.now.bytes) (v.first + 1) n) end,
    )
