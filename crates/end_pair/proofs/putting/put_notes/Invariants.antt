-- The lines of the notes so far are put.

use Rattle.std.proofs.Common.{◌≡◌, ◌++◌, take}
use Rattle.std.specs.List.{flat_map}
use Rattle.trace_log.specs.Text.{note_line}
use Rattle.end_pair.proofs.putting.put_notes.Given as goal

abbrev pub invariant-notes : goal.invariant-notes
invariant-notes l = l.lines ≡ l.initial.lines ++ flat_map (note_line l.now l.side) (take l.note-index l.notes)
