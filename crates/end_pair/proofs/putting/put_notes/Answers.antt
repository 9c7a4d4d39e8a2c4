-- Where memory runs out, a part of the notes' lines was put.

use Rattle.end_pair.proofs.Texts.{notes_part, on_err}
use Rattle.end_pair.proofs.putting.put_notes.Goals as goal

pub returns-in_err-put_note-clause-err : goal.returns-in_err-put_note-clause-err
returns-in_err-put_note-clause-err c =
    on_err c.from_residual.result
    (notes_part c.args.side c.args.now c.args.notes.now c.notes.note-index c.args.lines.now c.put_note.new.lines
    (rw c.in_err-put_note.ensures.err c.notes.invariant))
