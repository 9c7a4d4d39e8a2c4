-- The line of the message that was found; none where the disk has failed, or on one that tells nothing has none.

use Rattle.std.proofs.Common.{arith}
use Rattle.gl_base.specs.Told.{sink_told}
use Rattle.spool_show.specs.declared.spool_end.SpoolEnd.TheVariants.{Done}
use Rattle.spool_show.proofs.Pieces.{found_read, look_failed, looked, missed, missed_looked, missed_size, number_found}
use Rattle.spool_show.proofs.Pieces.{put_of, size_found, still_in_hand}
use Rattle.spool_show.proofs.Putting.{disk_failed, shown_on}
use Rattle.spool_show.proofs.listing.put_next.Goals as goal

pub put_message-requires-clause-rests : goal.put_message-requires-clause-rests
put_message-requires-clause-rests g c =
    still_in_hand g.D.Disk _ c.requires.rests _ _ (looked g.D.Disk _ _ _ c.in-Found.ensures.0)

pub put_message-requires-clause-first : goal.put_message-requires-clause-first
put_message-requires-clause-first g c =
    found_read g.D.Disk _ c.requires.rests _ _ c.args.number _ _ c.in-Found.ensures.0 c.in-Found.ensures.2

pub put_message-requires-clause-number : goal.put_message-requires-clause-number
put_message-requires-clause-number g c =
    let is = number_found g.D.Disk _ c.args.number _ _ c.in-Found.ensures.2 c.in-Found.ensures.3 in
    omega (arith, is, c.requires.number)

pub returns-in-Done-clause-read : goal.returns-in-Done-clause-read
returns-in-Done-clause-read g c = shown_on _ _ _ _ (looked g.D.Disk _ _ _ c.in-Found.ensures.0) c.in-Done.ensures.read

pub returns-in-Done-clause-line : goal.returns-in-Done-clause-line
returns-in-Done-clause-line g c =
    put_of g.D.Disk c.args.spool.now _ c.args.number c.in-Found.head
    (sink_told g.W.Sink c.args.out.now c.put_message.new.out) c.args.page.now.bytes.items
    c.put_message.new.page.bytes.items Done (looked g.D.Disk _ _ _ c.in-Found.ensures.0)
    (number_found g.D.Disk _ c.args.number _ _ c.in-Found.ensures.2 c.in-Found.ensures.3) c.in-Done.ensures.line

pub returns-in-Done-clause-size : goal.returns-in-Done-clause-size
returns-in-Done-clause-size g c =
    size_found g.D.Disk _ c.requires.rests c.args.number _ _ _ c.in-Found.ensures.2 c.slots_for.ensures.slots
    c.slots_for.ensures.some

pub returns-in_default-clause-read : goal.returns-in_default-clause-read
returns-in_default-clause-read g c =
    shown_on _ _ _ c.put_message.result (looked g.D.Disk _ _ _ c.in-Found.ensures.0) c.put_message.ensures.read

pub returns-in_default-clause-line : goal.returns-in_default-clause-line
returns-in_default-clause-line g c =
    put_of g.D.Disk c.args.spool.now _ c.args.number c.in-Found.head
    (sink_told g.W.Sink c.args.out.now c.put_message.new.out) c.args.page.now.bytes.items
    c.put_message.new.page.bytes.items c.put_message.result (looked g.D.Disk _ _ _ c.in-Found.ensures.0)
    (number_found g.D.Disk _ c.args.number _ _ c.in-Found.ensures.2 c.in-Found.ensures.3) c.put_message.ensures.line

pub returns-in-Failed-clause-read : goal.returns-in-Failed-clause-read
returns-in-Failed-clause-read g c = look_failed g.D.Disk _ _ _ c.in-Failed.ensures.0

pub returns-in-Failed-clause-line : goal.returns-in-Failed-clause-line
returns-in-Failed-clause-line g c = disk_failed _ _ _

pub returns-in-Empty-clause-read : goal.returns-in-Empty-clause-read
returns-in-Empty-clause-read g c = missed_looked g.D.Disk _ _ c.args.number _ _ c.in-Empty.ensures

pub returns-in-Empty-clause-line : goal.returns-in-Empty-clause-line
returns-in-Empty-clause-line g c = missed g.D.Disk c.args.spool.now c.args.number _ c.in-Empty.ensures.0 c.requires.there

pub returns-in-Empty-clause-size : goal.returns-in-Empty-clause-size
returns-in-Empty-clause-size g c =
    missed_size g.D.Disk c.args.spool.now c.args.number 1 c.in-Empty.ensures.0 c.requires.there (omega arith)
