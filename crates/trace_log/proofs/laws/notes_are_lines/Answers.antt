-- The law, by the lemmas of `NoteLines`.

use Rattle.trace_log.proofs.NoteLines.{notes_are_lines}
use Rattle.trace_log.proofs.laws.notes_are_lines.Goals as goal

pub returns : goal.returns
returns c = notes_are_lines
