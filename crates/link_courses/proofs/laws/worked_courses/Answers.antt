-- The examples, by computing.
use Rattle.std.proofs.Common.{refl}
use Rattle.link_courses.proofs.laws.worked_courses.Goals as goal

pub returns : goal.returns
returns c = record {
  noted = λ line.
      record { notes = (refl, (refl, (refl, (refl, (refl, (refl, tt)))))); noted = refl; comes = refl };
  of_no_step = λ line is. let same = is.noted in absurd (cc);
  twice = λ line is. let same = is.noted in absurd (cc);
  nothing = λ line is. let same = is.noted in absurd (cc);
  of_no_other = λ line is. let other = is.notes.0 in absurd (cc);
  amid = λ line is. let same = is.noted in absurd (cc);
  early = λ line is. let same = is.noted in absurd (cc);
  missing = λ line is. let same = is.noted in absurd (cc);
  other_end = λ line is. let left = is.comes in absurd (cc);
}
