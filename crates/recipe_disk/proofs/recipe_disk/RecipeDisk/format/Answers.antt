-- A store over the file that was made.
use Rattle.std.proofs.Common.{◌∙◌, arith}
use Rattle.recipe_disk.specs.Slot.{head_in}
use Rattle.recipe_disk.proofs.Fresh.{formats_done, none_open}
use Rattle.recipe_disk.proofs.Hinted.{shut_hint_in}
use Rattle.recipe_disk.proofs.recipe_disk.RecipeDisk.format.Goals as goal

pub returns-in-Done : goal.returns-in-Done
returns-in-Done g c =
    formats_done g.D.Disk _ _ c.args.slots c.requires.some c.requires.most c.requires.size c.in-Done.ensures.told c.in-Done.ensures.made

pub returns-in-Failed : goal.returns-in-Failed
returns-in-Failed g c = c.in-Failed.ensures.made

pub invariant_of-result : goal.invariant_of-result
invariant_of-result g c s told k d below =
    let made = c.in-Done.ensures.told s told in
    c.shut_hints.ensures k d (omega (arith, below, c.requires.most))
    ∙ shut_hint_in (head_in s.now.bytes k) (none_open c.args.slots s made.0 made.1 k below)
