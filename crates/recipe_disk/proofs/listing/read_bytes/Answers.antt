-- The bytes were read in one call.
use Rattle.disk_base.specs.declared.disk.DiskAnswer.TheVariants.{Done, Failed}
use Rattle.recipe_disk.proofs.Made.{looked_one}
use Rattle.recipe_disk.proofs.listing.read_bytes.Goals as goal

pub returns-in-Done-clause-looked : goal.returns-in-Done-clause-looked
returns-in-Done-clause-looked g c =
    looked_one g.D.Disk c.args.at _ _ _ Done c.in-Done.ensures.told c.in-Done.ensures.size c.in-Done.ensures.calls c.in-Done.ensures.cause
    c.in-Done.ensures.same_disk

pub returns-in-Failed-clause-looked : goal.returns-in-Failed-clause-looked
returns-in-Failed-clause-looked g c =
    looked_one g.D.Disk c.args.at _ _ _ Failed c.in-Failed.ensures.told c.in-Failed.ensures.size c.in-Failed.ensures.calls c.in-Failed.ensures.cause
    c.in-Failed.ensures.same_disk
