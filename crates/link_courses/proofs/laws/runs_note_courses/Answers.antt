-- The law, by the lemmas of `Noting`.

use Rattle.link_courses.proofs.Noting.{note-courses}
use Rattle.link_courses.proofs.laws.runs_note_courses.Goals as goal

pub returns : goal.returns
returns g c = note-courses
