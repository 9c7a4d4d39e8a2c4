-- The notes, by the lemmas of `NoteExamples`.

use Rattle.journal_delivery.proofs.NoteExamples.{finds-nothing-else, finds-what-is-listed}
use Rattle.journal_delivery.proofs.laws.worked_notes.Goals as goal

pub returns-clause-finds : goal.returns-clause-finds
returns-clause-finds c = finds-what-is-listed

pub returns-clause-nothing : goal.returns-clause-nothing
returns-clause-nothing c = finds-nothing-else
