-- What was read is the front of the file, in one call.
use Rattle.std.proofs.Common.{length, ◌∙◌, sym, arith}
use Rattle.disk_base.specs.declared.disk.DiskAnswer.TheVariants.{Done, Failed}
use Rattle.recipe_disk.proofs.Fronts.{front_is, front_read}
use Rattle.recipe_disk.proofs.Made.{looked_one}
use Rattle.recipe_disk.proofs.front.read_into.Goals as goal

pub returns-clause-slots : goal.returns-clause-slots
returns-clause-slots g c =
    front_is (g.D.Disk.told c.args.disk.now) c.args.size c.read.new.into c.slots_of.result (grind (arith, c.read.auto.into, c.requires.long))
    (λ s is. g.met.D.Disk.sized c.args.disk.now s is ∙ sym c.requires.size) c.in-Done.ensures.bytes c.slots_of.ensures.front

pub returns-in-Failed-clause-looked : goal.returns-in-Failed-clause-looked
returns-in-Failed-clause-looked g c =
    looked_one g.D.Disk 0 (length c.args.front.now) _ _ Failed c.in-Failed.ensures.told c.in-Failed.ensures.size c.in-Failed.ensures.calls c.in-Failed.ensures.cause
    c.in-Failed.ensures.same_disk

pub returns-clause-looked : goal.returns-clause-looked
returns-clause-looked g c =
    front_read g.D.Disk _ _ c.read.new.into c.args.size c.slots_of.result c.slots_of.ensures.front
    (looked_one g.D.Disk 0 (length c.args.front.now) _ _ Done c.in-Done.ensures.told c.in-Done.ensures.size c.in-Done.ensures.calls c.in-Done.ensures.cause
    c.in-Done.ensures.same_disk)
