-- At rest a slot that is open and has the name is the one, in its bucket or not.
use Rattle.std.proofs.Common.{◌≡◌, ◌∙◌, Option, subst, sym}
use Rattle.disk_base.specs.Story.{Story}
use Rattle.recipe_disk.specs.Reading.{SaysOf, look_answer}
use Rattle.recipe_disk.specs.Slot.{slot_in}
use Rattle.recipe_disk.specs.Survey.{named_at}
use Rattle.recipe_disk.proofs.Hinted.{known_looked}
use Rattle.recipe_disk.proofs.Made.{looked_behind}
use Rattle.recipe_disk.proofs.Scanning.{says_as}
use Rattle.recipe_disk.proofs.Surveys.{named_found, named_there}
use Rattle.recipe_disk.proofs.survey.find.Goals as goal

pub returns-in-Some-clause-found : goal.returns-in-Some-clause-found
returns-in-Some-clause-found g c s told =
    named_found c.args.slots s (c.requires.kept.rests s told) c.args.name.now c.in-Ok.found _ c.in-Some.is c.in-Ok.ensures.below (c.in-Ok.ensures.found s told)

pub first_sought-requires-clause-known : goal.first_sought-requires-clause-known
first_sought-requires-clause-known g c = known_looked _ _ _ _ c.in-Ok.ensures.looked.told c.requires.known

pub returns-in-None-clause-found : goal.returns-in-None-clause-found
returns-in-None-clause-found g c =
    subst (λ (o : Option Story). SaysOf o (λ bytes found. found ≡ named_at (slot_in bytes) c.args.name.now c.args.slots) c.first_sought.result)
    c.in-Ok.ensures.looked.told
    (says_as (g.D.Disk.told c.one_sought.new.disk) _ (λ bytes found. found ≡ named_at (slot_in bytes) c.args.name.now c.args.slots) c.first_sought.result
    (λ s found told is. is ∙ named_there c.args.slots s (c.requires.kept.rests s (sym c.in-Ok.ensures.looked.told ∙ told)) c.args.name.now)
    c.first_sought.ensures.found)

pub returns-in-None-clause-looked : goal.returns-in-None-clause-looked
returns-in-None-clause-looked g c =
    looked_behind g.D.Disk _ _ _ (look_answer c.first_sought.result) c.in-Ok.ensures.looked c.first_sought.ensures.looked
