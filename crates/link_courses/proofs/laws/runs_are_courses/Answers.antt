-- The law, by the lemmas of `Coming`.

use Rattle.link_courses.proofs.Coming.{are-courses}
use Rattle.link_courses.proofs.laws.runs_are_courses.Goals as goal

pub returns : goal.returns
returns g c = are-courses
