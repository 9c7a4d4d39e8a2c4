-- The body is that of the slot that was found.
use Rattle.recipe_disk.specs.Listing.{get_answer}
use Rattle.recipe_disk.proofs.Answering.{get_unknown, got}
use Rattle.recipe_disk.proofs.Made.{looked_behind}
use Rattle.recipe_disk.proofs.keeper.get_on.Goals as goal

pub returns-in-Some-clause-answer : goal.returns-in-Some-clause-answer
returns-in-Some-clause-answer g c =
    got g.D.Disk c.args.slots _ c.args.name.now c.requires.kept _ c.in-Ok.found c.in-Ok.ensures.looked c.in-Ok.ensures.found c.in-Some.slot c.in-Some.is
    c.read_body.result c.read_body.ensures.body

pub returns-in-Some-clause-looked : goal.returns-in-Some-clause-looked
returns-in-Some-clause-looked g c =
    looked_behind g.D.Disk _ _ _ (get_answer c.read_body.result) c.in-Ok.ensures.looked c.read_body.ensures.looked

pub returns-in-None-clause-answer : goal.returns-in-None-clause-answer
returns-in-None-clause-answer g c =
    get_unknown g.D.Disk c.args.slots _ c.args.name.now c.requires.kept _ c.in-Ok.found c.in-Ok.ensures.looked c.in-Ok.ensures.found c.in-None.is
