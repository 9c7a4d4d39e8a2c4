-- The break is that of the slot's fields; without one the hint is that of its head.
use Rattle.std.proofs.Common.{◌≡◌, ◌∙◌, ◌+◌, ℕ, ap, arith, false, sym, true}
use Rattle.recipe_disk.specs.File.{fields_at}
use Rattle.recipe_disk.specs.Hints.{hint_in}
use Rattle.recipe_disk.specs.Reading.{reading_answer}
use Rattle.recipe_disk.specs.Slot.{head_in, slot_in, slot_place}
use Rattle.recipe_disk.proofs.Hinted.{shut_hint_in}
use Rattle.recipe_disk.proofs.Made.{looked_behind}
use Rattle.recipe_disk.proofs.Scanning.{breaks_before, fields_broken, fields_shut, fields_whole, finds_broken}
use Rattle.recipe_disk.proofs.scan.check_fields.Goals as goal

pub returns-in-Some-clause-fields : goal.returns-in-Some-clause-fields
returns-in-Some-clause-fields g c =
    let opened : c.in-Ok.head.opened ≡ true = grind (arith, c.if-not-head.false) in
    finds_broken (g.D.Disk.told c.args.disk.now) (λ bytes. fields_at (slot_in bytes) c.args.slot) (λ bytes hint. hint ≡ hint_in (head_in bytes c.args.slot))
    (slot_place c.args.slot + c.in-Some.place) c.broken_at.result
    (λ s told. fields_broken (slot_in s.now.bytes) c.args.slot c.in-Ok.head c.in-Some.place (c.in-Ok.ensures.head s told) opened
    (sym c.fields_break.ensures.place ∙ c.in-Some.is))
    (breaks_before _ _ _ _ c.broken_at.result c.in-Ok.ensures.looked.told (ap (λ (n : ℕ). n + c.in-Some.place) c.slot_place.ensures) c.broken_at.ensures.broken)

pub returns-in-Some-clause-looked : goal.returns-in-Some-clause-looked
returns-in-Some-clause-looked g c =
    looked_behind g.D.Disk _ _ _ (reading_answer c.broken_at.result) c.in-Ok.ensures.looked c.broken_at.ensures.looked

pub returns-then-not-head-clause-fields : goal.returns-then-not-head-clause-fields
returns-then-not-head-clause-fields g c s told =
    let head = c.in-Ok.ensures.head s told in
    let shut : c.in-Ok.head.opened ≡ false = grind (arith, c.if-not-head.true) in
    (fields_shut (slot_in s.now.bytes) c.args.slot c.in-Ok.head head shut, c.shut_hint.ensures ∙ shut_hint_in c.in-Ok.head shut ∙ ap hint_in head)

pub returns-in-None-clause-fields : goal.returns-in-None-clause-fields
returns-in-None-clause-fields g c s told =
    let head = c.in-Ok.ensures.head s told in
    (fields_whole (slot_in s.now.bytes) c.args.slot c.in-Ok.head head (sym c.fields_break.ensures.place ∙ c.in-None.is), c.hint_of.ensures ∙ ap hint_in head)
