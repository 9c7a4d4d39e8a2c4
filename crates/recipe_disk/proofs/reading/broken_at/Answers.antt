-- The byte was read in one call.
use Rattle.std.proofs.Common.{refl, arith}
use Rattle.disk_base.specs.declared.disk.DiskAnswer.TheVariants.{Done, Failed}
use Rattle.recipe_disk.proofs.Made.{looked_one}
use Rattle.recipe_disk.proofs.Starts.{byte_is}
use Rattle.recipe_disk.proofs.reading.broken_at.Goals as goal

pub returns-in-Done-clause-broken : goal.returns-in-Done-clause-broken
returns-in-Done-clause-broken g c s told =
    (refl, byte_is s.now.bytes c.read.new.into c.args.at (grind (arith, c.read.auto.into)) (c.in-Done.ensures.bytes s told))

pub returns-in-Done-clause-looked : goal.returns-in-Done-clause-looked
returns-in-Done-clause-looked g c =
    looked_one g.D.Disk c.args.at 1 _ _ Done c.in-Done.ensures.told c.in-Done.ensures.size c.in-Done.ensures.calls c.in-Done.ensures.cause
    c.in-Done.ensures.same_disk

pub returns-in-Failed-clause-looked : goal.returns-in-Failed-clause-looked
returns-in-Failed-clause-looked g c =
    looked_one g.D.Disk c.args.at 1 _ _ Failed c.in-Failed.ensures.told c.in-Failed.ensures.size c.in-Failed.ensures.calls c.in-Failed.ensures.cause
    c.in-Failed.ensures.same_disk
