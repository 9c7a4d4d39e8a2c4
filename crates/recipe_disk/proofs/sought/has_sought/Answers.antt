-- There is one where a first one was found.
use Rattle.std.proofs.Common.{◌∙◌, ap, is_some}
use Rattle.recipe_disk.specs.Hints.{is_there}
use Rattle.recipe_disk.proofs.Hinted.{any_place}
use Rattle.recipe_disk.proofs.sought.has_sought.Goals as goal

pub returns-in-Ok-clause-found : goal.returns-in-Ok-clause-found
returns-in-Ok-clause-found g c s told =
    c.is_some.ensures ∙ ap is_some (c.in-Ok.ensures.found s told) ∙ any_place (is_there c.args.sought s.now.bytes) c.args.slots
