-- Where memory runs out at the notes, a part of all the step's lines was put: those of its characters come behind.

use Rattle.std.proofs.Common.{List, subst}
use Rattle.std.specs.List.{flat_map}
use Rattle.message_end.specs.Ends.{printed, wrote}
use Rattle.message_flow.specs.declared.step.Note.{Note}
use Rattle.trace_log.specs.Text.{note_line}
use Rattle.end_pair.specs.Kept.{PutPart}
use Rattle.end_pair.proofs.Pieces.{put_before}
use Rattle.end_pair.proofs.Texts.{on_err}
use Rattle.end_pair.proofs.putting.put_step.Goals as goal

pub returns-in_err-put_notes-clause-err : goal.returns-in_err-put_notes-clause-err
returns-in_err-put_notes-clause-err c =
    on_err c.from_residual.result
    (put_before (flat_map (note_line c.args.now c.args.side) c.args.out.now.notes)
    (flat_map (note_line c.args.now c.args.side) (printed (wrote c.args.out.now.line.items))) c.args.lines.now
    c.put_notes.new.lines
    (subst (λ (ns : List Note). PutPart (flat_map (note_line c.args.now c.args.side) ns) c.args.lines.now
    c.put_notes.new.lines)
    c.as_slice.ensures c.in_err-put_notes.ensures.err))
