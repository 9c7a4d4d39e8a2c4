-- The answer is by what the look over the slots has found.
use Rattle.std.proofs.Common.{◌∙◌, [], arith, sym}
use Rattle.recipe_disk.proofs.Keeping.{no_room, some_room}
use Rattle.recipe_disk.proofs.keeper.room_for.Goals as goal

pub returns-in-Some-clause-answer : goal.returns-in-Some-clause-answer
returns-in-Some-clause-answer g c =
    some_room g.D.Disk c.args.slots _ c.args.name.now c.requires.name c.requires.kept _ c.in-Ok.survey c.in-Ok.ensures.looked c.in-Ok.ensures.survey
    c.in-Some.field-0 [] (omega arith) (sym c.place.ensures ∙ c.in-Some.is)

pub returns-in-None-clause-answer : goal.returns-in-None-clause-answer
returns-in-None-clause-answer g c =
    no_room g.D.Disk c.args.slots _ c.args.name.now c.requires.name c.requires.kept _ c.in-Ok.survey c.in-Ok.ensures.looked c.in-Ok.ensures.survey
    [] (omega arith) (sym c.place.ensures ∙ c.in-None.is)
