-- A number of an earlier slot is the break; a name that none of these has is new.
use Rattle.std.proofs.Common.{◌≡◌, ◌∙◌, ◌+◌, ◌&&◌, ℕ, List, ap, arith, bytes_eq, false, sym, true}
use Rattle.disk_base.specs.declared.disk.DiskAnswer.TheVariants.{Done, Failed}
use Rattle.recipe_disk.specs.File.{number_at}
use Rattle.recipe_disk.specs.Map.{any_below, has_name, has_number, is_new_name}
use Rattle.recipe_disk.specs.Reading.{reading_answer}
use Rattle.recipe_disk.specs.Slot.{head_in, name_in, slot_in, slot_place}
use Rattle.recipe_disk.specs.declared.head.Head.{Head}
use Rattle.recipe_disk.proofs.Made.{looked_behind}
use Rattle.recipe_disk.proofs.Scanning.{breaks_before, finds_broken, new_open, number_new, number_used}
use Rattle.recipe_disk.proofs.scan.check_number.Goals as goal

pub returns-then-used-clause-number : goal.returns-then-used-clause-number
returns-then-used-clause-number g c =
    let opened : c.in-Ok.head.opened ≡ true = grind (arith, c.if-not-head.false) in
    finds_broken (g.D.Disk.told c.args.disk.now) (λ bytes. number_at (slot_in bytes) c.args.slot) (λ bytes is_new. is_new ≡ is_new_name (slot_in bytes) c.args.slot)
    (slot_place c.args.slot + 1) c.broken_at.result
    (λ s told. number_used (slot_in s.now.bytes) c.args.slot c.in-Ok.head (c.in-Ok.ensures.head s told) opened
    (sym (c.in-Ok-has_sought.ensures.found s (c.in-Ok.ensures.looked.told ∙ told)) ∙ c.if-used.true))
    (breaks_before _ _ _ _ c.broken_at.result (c.in-Ok-has_sought.ensures.looked.told ∙ c.in-Ok.ensures.looked.told)
    (ap (λ (n : ℕ). n + 1) c.slot_place.ensures) c.broken_at.ensures.broken)

pub returns-then-used-clause-looked : goal.returns-then-used-clause-looked
returns-then-used-clause-looked g c =
    looked_behind g.D.Disk _ _ _ (reading_answer c.broken_at.result)
    (looked_behind g.D.Disk _ _ _ Done c.in-Ok.ensures.looked c.in-Ok-has_sought.ensures.looked) c.broken_at.ensures.looked

pub returns-in-Err-has_sought-clause-looked : goal.returns-in-Err-has_sought-clause-looked
returns-in-Err-has_sought-clause-looked g c =
    looked_behind g.D.Disk _ _ _ Failed c.in-Ok.ensures.looked c.in-Err-has_sought.ensures.looked

pub returns-in-Ok-has_sought-2-clause-number : goal.returns-in-Ok-has_sought-2-clause-number
returns-in-Ok-has_sought-2-clause-number g c s told =
    let opened : c.in-Ok.head.opened ≡ true = grind (arith, c.if-not-head.false) in
    let head = c.in-Ok.ensures.head s told in
    let unused : has_number (slot_in s.now.bytes) c.args.slot c.in-Ok.head.number ≡ false =
    sym (c.in-Ok-has_sought.ensures.found s (c.in-Ok.ensures.looked.told ∙ told)) ∙ c.if-used.false in
    let known = c.in-Ok-has_sought-2.ensures.found s (c.in-Ok-has_sought.ensures.looked.told ∙ c.in-Ok.ensures.looked.told ∙ told) in (
      number_new (slot_in s.now.bytes) c.args.slot c.in-Ok.head head unused,
      new_open (slot_in s.now.bytes) c.args.slot c.in-Ok.head c.in-Ok-has_sought-2.known head opened
          (known
          ∙ ap (λ (n : List ℕ). any_below (λ k. (head_in s.now.bytes k).opened && bytes_eq (name_in (head_in s.now.bytes k)) n) c.args.slot) c.name_of.ensures.name
          ∙ ap (λ (h : Head). has_name (slot_in s.now.bytes) c.args.slot (name_in h)) head),
    )

pub returns-in-Ok-has_sought-2-clause-looked : goal.returns-in-Ok-has_sought-2-clause-looked
returns-in-Ok-has_sought-2-clause-looked g c =
    looked_behind g.D.Disk _ _ _ Done
    (looked_behind g.D.Disk _ _ _ Done c.in-Ok.ensures.looked c.in-Ok-has_sought.ensures.looked) c.in-Ok-has_sought-2.ensures.looked

pub returns-in-Err-has_sought-2-clause-looked : goal.returns-in-Err-has_sought-2-clause-looked
returns-in-Err-has_sought-2-clause-looked g c =
    looked_behind g.D.Disk _ _ _ Failed
    (looked_behind g.D.Disk _ _ _ Done c.in-Ok.ensures.looked c.in-Ok-has_sought.ensures.looked) c.in-Err-has_sought-2.ensures.looked
