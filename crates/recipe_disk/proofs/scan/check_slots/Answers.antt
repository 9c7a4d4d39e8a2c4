-- The tests in their order: fields, numbers, and how many names there are.
use Rattle.std.proofs.Common.{◌∙◌, ◌+◌, ◌-◌, ℕ, None, Some, ap, arith, sym}
use Rattle.disk_base.specs.declared.disk.DiskAnswer.TheVariants.{Done, Failed}
use Rattle.spool_file.specs.Area.{or_else}
use Rattle.recipe_disk.specs.File.{area_break, names_break}
use Rattle.recipe_disk.specs.Hints.{AreHints}
use Rattle.recipe_disk.specs.Reading.{reading_answer}
use Rattle.recipe_disk.specs.Slot.{slot_in, slot_place}
use Rattle.recipe_disk.proofs.Made.{looked_behind}
use Rattle.recipe_disk.proofs.Scanning.{area_fields, area_numbers, behind_numbers, breaks_before, finds_broken, names_few, names_many}
use Rattle.recipe_disk.proofs.scan.check_slots.Goals as goal

pub returns-in-Broken-clause-area : goal.returns-in-Broken-clause-area
returns-in-Broken-clause-area g c s told =
    let found = c.in-Broken.ensures.fields s told in (area_fields (slot_in s.now.bytes) c.args.slots _ found.0, found.1)

pub returns-in-Broken-count_names-clause-area : goal.returns-in-Broken-count_names-clause-area
returns-in-Broken-count_names-clause-area g c s told =
    let fields = c.in-Whole.ensures.fields s told in
    let found = c.in-Broken-count_names.ensures.names s (c.in-Whole.ensures.looked.told ∙ told) in (
      area_numbers (slot_in s.now.bytes) c.args.slots _ fields.0 (ap (λ o. or_else o (names_break (slot_in s.now.bytes) c.args.slots)) found.0),
      found.1,
    )

pub returns-in-Broken-count_names-clause-looked : goal.returns-in-Broken-count_names-clause-looked
returns-in-Broken-count_names-clause-looked g c = looked_behind g.D.Disk _ _ _ Done c.in-Whole.ensures.looked c.in-Broken-count_names.ensures.looked

pub returns-in-Failed-count_names-clause-looked : goal.returns-in-Failed-count_names-clause-looked
returns-in-Failed-count_names-clause-looked g c = looked_behind g.D.Disk _ _ _ Failed c.in-Whole.ensures.looked c.in-Failed-count_names.ensures.looked

pub returns-then-names-slots-clause-area : goal.returns-then-names-slots-clause-area
returns-then-names-slots-clause-area g c s told =
    let fields = c.in-Whole.ensures.fields s told in
    let found = c.in-Whole-count_names.ensures.names s (c.in-Whole.ensures.looked.told ∙ told) in (
      area_numbers (slot_in s.now.bytes) c.args.slots None fields.0
          (behind_numbers (slot_in s.now.bytes) c.args.slots None found.0
          (names_few (slot_in s.now.bytes) c.args.slots c.in-Whole-count_names.names found.1 (omega (arith, c.if-names-slots.true)))),
      fields.1,
    )

pub returns-then-names-slots-clause-looked : goal.returns-then-names-slots-clause-looked
returns-then-names-slots-clause-looked g c = looked_behind g.D.Disk _ _ _ Done c.in-Whole.ensures.looked c.in-Whole-count_names.ensures.looked

pub returns-else-names-slots-clause-area : goal.returns-else-names-slots-clause-area
returns-else-names-slots-clause-area g c =
    finds_broken (g.D.Disk.told c.args.disk.now) (λ bytes. area_break (slot_in bytes) c.args.slots) (λ bytes value. AreHints (slot_in bytes) c.args.slots c.check_all_fields.new.hints)
    (slot_place (c.args.slots - 1) + 10) c.broken_at.result
    (λ s told.
    let fields = c.in-Whole.ensures.fields s told in
    let found = c.in-Whole-count_names.ensures.names s (c.in-Whole.ensures.looked.told ∙ told) in
    area_numbers (slot_in s.now.bytes) c.args.slots (Some (slot_place (c.args.slots - 1) + 10)) fields.0
    (behind_numbers (slot_in s.now.bytes) c.args.slots (Some (slot_place (c.args.slots - 1) + 10)) found.0
    (names_many (slot_in s.now.bytes) c.args.slots c.in-Whole-count_names.names c.requires.some found.1 (omega (arith, c.if-names-slots.false)))))
    (breaks_before _ _ _ _ c.broken_at.result (c.in-Whole-count_names.ensures.looked.told ∙ c.in-Whole.ensures.looked.told)
    (ap (λ (n : ℕ). n + 10) c.slot_place.ensures) c.broken_at.ensures.broken)

pub returns-else-names-slots-clause-looked : goal.returns-else-names-slots-clause-looked
returns-else-names-slots-clause-looked g c =
    looked_behind g.D.Disk _ _ _ (reading_answer c.broken_at.result)
    (looked_behind g.D.Disk _ _ _ Done c.in-Whole.ensures.looked c.in-Whole-count_names.ensures.looked) c.broken_at.ensures.looked

pub count_names-requires-clause-known : goal.count_names-requires-clause-known
count_names-requires-clause-known g c s told = (c.in-Whole.ensures.fields s (sym c.in-Whole.ensures.looked.told ∙ told)).1
