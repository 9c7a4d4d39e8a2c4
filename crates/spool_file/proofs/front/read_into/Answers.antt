-- What was read is the front of the file, in one call.

use Rattle.std.proofs.Common.{length, min, refl, ◌∙◌, sym, arith}
use Rattle.disk_base.specs.declared.disk.DiskAnswer.TheVariants.{Done, Failed}
use Rattle.spool_file.proofs.Starts.{front_is}
use Rattle.spool_file.proofs.Stretches.{front_looked, one_read}
use Rattle.spool_file.proofs.front.read_into.Goals as goal

pub returns-clause-front : goal.returns-clause-front
returns-clause-front g c =
    front_is (g.D.Disk.told c.args.disk.now) c.args.size c.read.new.into c.front_of.result
    (grind (arith, c.read.auto.into, c.requires.long))
    (λ s is. g.met.D.Disk.sized c.args.disk.now s is ∙ sym c.requires.size) c.in-Done.ensures.bytes
    c.front_of.ensures.front

pub returns-in-Failed-clause-look : goal.returns-in-Failed-clause-look
returns-in-Failed-clause-look g c =
    one_read 0 0 (length c.args.front.now) (min 47 c.args.size) Failed refl c.requires.long c.in-Failed.ensures.cause
    c.in-Failed.ensures.calls

pub returns-clause-look : goal.returns-clause-look
returns-clause-look g c =
    front_looked c.read.new.into c.args.size c.front_of.result c.front_of.ensures.front
    (one_read 0 0 (length c.args.front.now) (min 47 c.args.size) Done refl c.requires.long c.in-Done.ensures.cause
    c.in-Done.ensures.calls)
