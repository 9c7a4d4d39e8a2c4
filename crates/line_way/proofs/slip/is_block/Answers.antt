-- What reads is a frame, and what has a fault is none.

use Rattle.std.proofs.Common.{sym}
use Rattle.line_end.proofs.Framed.{fault_of-other, is_false, is_frame-frame_bytes}
use Rattle.line_way.proofs.Complete.{complete-whole}
use Rattle.line_way.proofs.slip.is_block.Goals as goal

pub returns-in-Ok : goal.returns-in-Ok
returns-in-Ok c =
    let ok = c.in-Ok.ensures.ok in rw ok.1 (sym (is_frame-frame_bytes _ ok.0))

pub returns-in-Err : goal.returns-in-Err
returns-in-Err c =
    sym (is_false _ (fault_of-other c.args.characters.now _ (complete-whole c.args.characters.now c.requires) c.in-Err.ensures.fault))
