-- Start, pieces and end make the line, or one of them ends it.

use Rattle.std.proofs.Common.{codes}
use Rattle.gl_base.specs.Told.{sink_told}
use Rattle.spool_show.specs.Text.{start_text}
use Rattle.spool_slots.specs.Spool.{known_of}
use Rattle.spool_show.proofs.Pieces.{line_ends, pieces_stop, shown_by, start_stops}
use Rattle.spool_show.proofs.Putting.{shown_none}
use Rattle.spool_show.proofs.listing.put_message.Goals as goal

pub put_further-requires-clause-listed : goal.put_further-requires-clause-listed
put_further-requires-clause-listed g c s is = (c.requires.first s is).0

pub returns-in_default : goal.returns-in_default
returns-in_default g c = record {
  read = shown_by {members = g.D.Disk} c.args.spool.now c.args.spool.now (start_text c.args.head.now c.args.slot.now)
      (sink_told g.W.Sink c.args.out.now c.put_first.new.out) c.args.page.now.bytes.items
      c.put_first.new.page.bytes.items c.put_first.result (shown_none c.args.spool.now) c.put_first.ensures;
  line = start_stops _ (known_of c.args.spool.now) c.requires.rests _ _ c.requires.first _ _ _ c.put_first.result
      c.in_default.not-Done c.put_first.ensures;
}

pub returns-in_default-put_further : goal.returns-in_default-put_further
returns-in_default-put_further g c = record {
  read = c.put_further.ensures.read;
  line = pieces_stop _ (known_of c.args.spool.now) c.requires.rests _ _ c.requires.first _ _ _ _ _ c.in-Done.ensures
      c.put_further.result c.in_default-put_further.not-Done c.put_further.ensures.pieces;
}

pub returns : goal.returns
returns g c = record {
  read = shown_by {members = g.D.Disk} c.args.spool.now c.put_further.new.spool (codes "\n")
      (sink_told g.W.Sink c.put_further.new.out c.put_end.new.out) c.put_further.new.page.bytes.items
      c.put_end.new.page.bytes.items c.put_end.result c.in-Done-put_further.ensures.read c.put_end.ensures;
  line = line_ends _ (known_of c.args.spool.now) c.requires.rests _ _ c.requires.first _ _ _ _ _ c.in-Done.ensures _ _ _
      c.put_end.result c.in-Done-put_further.ensures.pieces c.put_end.ensures;
}
