-- The slot of the name, and what the hints tell.
use Rattle.recipe_disk.specs.Slot.{slot_in}
use Rattle.recipe_disk.proofs.Putting.{file_at}
use Rattle.recipe_disk.proofs.survey.look_over.Goals as goal

pub returns-in-Ok-clause-survey : goal.returns-in-Ok-clause-survey
returns-in-Ok-clause-survey g c s told =
    c.survey_of.ensures.survey (slot_in s.now.bytes) c.args.name.now (c.requires.known s told)
    (file_at c.args.slots s (c.requires.kept.rests s told)).area.fields (c.in-Ok.ensures.found s told)
