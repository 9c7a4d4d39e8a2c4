-- Front and slots make the file.
use Rattle.std.proofs.Common.{◌∙◌}
use Rattle.disk_base.specs.declared.disk.DiskAnswer.TheVariants.{Done, Failed}
use Rattle.recipe_disk.proofs.Made.{looked_behind}
use Rattle.recipe_disk.proofs.Scanning.{file_broken, file_whole, front_broken}
use Rattle.recipe_disk.proofs.scan.read_file.Goals as goal

pub returns-in-Broken-clause-file : goal.returns-in-Broken-clause-file
returns-in-Broken-clause-file g c s told = let found = c.in-Broken.ensures.slots s told in (front_broken s.now.bytes _ found.0, found.1)

pub returns-in-Whole-check_slots-clause-file : goal.returns-in-Whole-check_slots-clause-file
returns-in-Whole-check_slots-clause-file g c s told =
    let front = c.in-Whole.ensures.slots s told in
    let area = c.in-Whole-check_slots.ensures.area s (c.in-Whole.ensures.looked.told ∙ told) in
    (file_whole s.now.bytes c.in-Whole.slots front.0 front.1 area.0, (front.1, area.1))

pub returns-in-Whole-check_slots-clause-looked : goal.returns-in-Whole-check_slots-clause-looked
returns-in-Whole-check_slots-clause-looked g c = looked_behind g.D.Disk _ _ _ Done c.in-Whole.ensures.looked c.in-Whole-check_slots.ensures.looked

pub returns-in-Broken-check_slots-clause-file : goal.returns-in-Broken-check_slots-clause-file
returns-in-Broken-check_slots-clause-file g c s told =
    let front = c.in-Whole.ensures.slots s told in
    let found = c.in-Broken-check_slots.ensures.area s (c.in-Whole.ensures.looked.told ∙ told) in
    (file_broken s.now.bytes c.in-Whole.slots _ front.0 front.1 found.0, found.1)

pub returns-in-Broken-check_slots-clause-looked : goal.returns-in-Broken-check_slots-clause-looked
returns-in-Broken-check_slots-clause-looked g c = looked_behind g.D.Disk _ _ _ Done c.in-Whole.ensures.looked c.in-Broken-check_slots.ensures.looked

pub returns-in-Failed-check_slots-clause-looked : goal.returns-in-Failed-check_slots-clause-looked
returns-in-Failed-check_slots-clause-looked g c = looked_behind g.D.Disk _ _ _ Failed c.in-Whole.ensures.looked c.in-Failed-check_slots.ensures.looked
