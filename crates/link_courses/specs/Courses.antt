-- What the end of a run over a link has met, and that all it notes is what its course brings (this profile).
use Rattle.std.specs.Prelude.{◌≡◌, ◌++◌, ℕ, List, [], ◌∷◌, Option, Some}
use Rattle.gl_base.specs.declared.link.LinkIn.{LinkIn}
use Rattle.gl_base.specs.declared.side.Side.{Side}
use Rattle.message_end.specs.Core.{Step}
use Rattle.message_end.specs.Course.{Course, Meeting, course_of, notes_of}
use Rattle.message_end.specs.Course.Course.{Reached, Stopped}
use Rattle.message_end.specs.Course.Meeting.{Acts, Writes as WritesDown}
use Rattle.message_end.specs.Ends.{Machine}
use Rattle.trace_log.specs.Log.{Entry, Happening}
use Rattle.trace_log.specs.Log.Entry.{Ended, Noted, Slipped}
use Rattle.end_pair.specs.Noted.{noted_by}
use Rattle.end_run.specs.Acts.{Act, log_of}
use Rattle.end_run.specs.Acts.Act.{Connects, Polls, Sends, Stands, Writes}
use Rattle.end_run.specs.Commands.{Commands}
use Rattle.end_run.specs.Pieces.{Piece}
use Rattle.end_run.specs.Run.{commanded_run}
use Rattle.end_run.specs.declared.ending.Ending.{Ending}
use Rattle.end_run.specs.declared.ending.Ending.TheVariants as ending

-- ---- what the end meets

-- it makes a step where the run does, with the same input at the same moment; and what it sends is noted. It never
-- starts anew, and loses no power
abbrev pub met_in : {S C : Type 0} → Act S C → List (Meeting C)
met_in (Stands at stops asked end) = Acts at.input at.moment ∷ []
met_in Connects = []
met_in (Polls until answer early) = []
met_in (Writes entries text) = []
met_in (Sends characters) = WritesDown characters ∷ []

-- all that it meets in these acts, the newest first
abbrev pub met_by : {S C : Type 0} → List (Act S C) → List (Meeting C)
met_by [] = []
met_by (act ∷ acts) = met_by acts ++ met_in act

-- ---- what is noted

-- the entries are notes of this end
abbrev pub IsNoteOf : Side → Entry → Type 0
IsNoteOf side (Noted moment end what) = end ≡ side
IsNoteOf side (Slipped moment end frame characters) = ⊥
IsNoteOf side (Ended moment) = ⊥

abbrev pub AreNotesOf : Side → List Entry → Type 0
AreNotesOf side [] = Unit {0}
AreNotesOf side (entry ∷ before) = IsNoteOf side entry × AreNotesOf side before

-- where the peer has closed the connection, that is noted behind all of the course
abbrev pub with_closing : Option Ending → List Happening → List Happening
with_closing (Some ending.Closed) notes = Happening.Closed ∷ notes
with_closing _ notes = notes

-- the course has come to the state that the run leaves, or to its end where a step ended early
abbrev pub ComesTo : {S : Type 0} → Option Ending → S → Course S → Type 0
ComesTo (Some ending.NumbersSpent) left course = course ≡ Stopped (notes_of course)
ComesTo (Some ending.Full) left course = course ≡ Stopped (notes_of course)
ComesTo _ left course = course ≡ Reached left (notes_of course)

-- all that the end of this run notes is what its course from the start brings, as long as nothing stops it
pub record IsCourse {S C : Type 0} (machine : Machine S C) (start : Step S Happening) (side : Side) (run : Piece S C)
    : Type 0 where
  pub notes : AreNotesOf side (log_of run.acts)
  pub noted :
      noted_by side (log_of run.acts)
      ≡ with_closing run.ended (notes_of (course_of start machine (met_by run.acts)))
  pub comes : ComesTo run.ended run.end (course_of start machine (met_by run.acts))

-- so it is in every run of every end, whatever commands it, and whatever the link answers
abbrev pub RunsAreCourses : Type 0 → Type 0 → Type 0 → Type 0
RunsAreCourses S C Q =
    (machine : Machine S C) (due : S → Option ℕ) (commands : Commands Q C) (side : Side)
    (start : Step S Happening) (coming : Q) (polls : ℕ) (answers : List LinkIn)
    → IsCourse machine start side (commanded_run machine due commands side start coming polls answers)
