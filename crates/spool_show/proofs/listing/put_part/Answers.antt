-- The slot was read, and has its piece; or the disk failed.

use Rattle.std.proofs.Common.{◌+◌}
use Rattle.hex.specs.Hex.{encode_upper}
use Rattle.gl_base.specs.Told.{sink_told}
use Rattle.spool_show.specs.Text.{piece_in}
use Rattle.spool_show.proofs.Pieces.{look_failed, looked, piece_put, shown_by}
use Rattle.spool_show.proofs.Putting.{disk_failed}
use Rattle.spool_show.proofs.listing.put_part.Goals as goal

pub returns-in-Done : goal.returns-in-Done
returns-in-Done g c =
    let out = sink_told g.W.Sink c.args.out.now c.put_more.new.out in
    let old = c.args.page.now.bytes.items in
    let new = c.put_more.new.page.bytes.items in
    record {
      read = shown_by {members = g.D.Disk} c.args.spool.now c.part.new.self
          (encode_upper (piece_in c.args.left c.part.new.into)) out old new c.put_more.result
          (looked g.D.Disk c.args.spool.now c.part.new.self _ c.in-Done.ensures.0) c.put_more.ensures;
      piece = piece_put g.D.Disk c.args.spool.now c.requires.rests (c.args.head.now.number + c.args.part)
          c.args.left c.part.new.into out old new c.put_more.result c.in-Done.ensures.1 c.put_more.ensures;
    }

pub returns-in-Failed : goal.returns-in-Failed
returns-in-Failed g c = record {
  read = look_failed g.D.Disk c.args.spool.now c.part.new.self _ c.in-Failed.ensures;
  piece = disk_failed _ _ _;
}
