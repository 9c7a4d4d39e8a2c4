-- What the output has of a run over a link: the lines of all that its course notes, or of what comes first of it, and
-- what is replied behind some of them (this profile).
use Rattle.std.specs.Prelude.{◌≡◌, ◌++◌, ℕ, List, [], ◌∷◌, All, Option, Some}
use Rattle.gl_base.specs.Sink.{with_bytes}
use Rattle.gl_base.specs.declared.link.LinkIn.{LinkIn}
use Rattle.gl_base.specs.declared.side.Side.{Side}
use Rattle.message_end.specs.Core.{Step}
use Rattle.message_end.specs.Course.{course_of, notes_of}
use Rattle.message_end.specs.Ends.{Machine}
use Rattle.trace_log.specs.Log.{Entry, Happening}
use Rattle.trace_log.specs.Text.{text_of}
use Rattle.end_pair.specs.Noted.{noted_by}
use Rattle.end_run.specs.Acts.{Act, lines_of, log_of}
use Rattle.end_run.specs.Acts.Act.{Connects, Polls, Sends, Stands, Writes}
use Rattle.end_run.specs.Commands.{Commands, Telling}
use Rattle.end_run.specs.Commands.Telling.{IsOther, Says, Stops, Tells}
use Rattle.end_run.specs.Outcome.{AreToCome, RunsOver}
use Rattle.end_run.specs.Pieces.{Piece}
use Rattle.end_run.specs.Run.{commanded_run}
use Rattle.end_run.specs.Scenes.{Scene}
use Rattle.end_run.specs.declared.ending.Ending.{Ending}
use Rattle.end_run.specs.declared.ending.Ending.TheVariants.{Closed, DiskFailed, Full, LinkFailed, NoMemory, NumbersSpent, Stopped, Turns, WriteFailed}
use Rattle.link_courses.specs.Courses.{AreNotesOf, met_by, with_closing}

-- of these notes, those came first
pub record IsFirstOf (whole first : List Happening) : Type 0 where
  pub later : List Happening
  pub is : whole ≡ later ++ first

-- all of them are there; or the first ones, where memory, output, link or disk has ended the run
abbrev pub AreThere : Ending → List Happening → List Happening → Type 0
AreThere Stopped whole noted = noted ≡ whole
AreThere Closed whole noted = noted ≡ whole
AreThere Turns whole noted = noted ≡ whole
AreThere NumbersSpent whole noted = noted ≡ whole
AreThere Full whole noted = noted ≡ whole
AreThere DiskFailed whole noted = IsFirstOf whole noted
AreThere LinkFailed whole noted = IsFirstOf whole noted
AreThere WriteFailed whole noted = IsFirstOf whole noted
AreThere NoMemory whole noted = IsFirstOf whole noted

-- the output has received a text, or a part of it from the front
pub record HasPart (before after : Option (List ℕ)) (text : List ℕ) : Type 0 where
  pub front : List ℕ
  pub rest : List ℕ
  pub whole : text ≡ front ++ rest
  pub received : after ≡ with_bytes before front

-- the lines of what was noted are written; a part of them where the output has failed, or where the disk has, whose
-- step's lines are written as far as memory and the output let it
abbrev pub AreWritten : Ending → Option (List ℕ) → Option (List ℕ) → List ℕ → Type 0
AreWritten Stopped before after text = after ≡ with_bytes before text
AreWritten Closed before after text = after ≡ with_bytes before text
AreWritten Turns before after text = after ≡ with_bytes before text
AreWritten NumbersSpent before after text = after ≡ with_bytes before text
AreWritten Full before after text = after ≡ with_bytes before text
AreWritten DiskFailed before after text = HasPart before after text
AreWritten LinkFailed before after text = after ≡ with_bytes before text
AreWritten WriteFailed before after text = HasPart before after text
AreWritten NoMemory before after text = after ≡ with_bytes before text

-- it has ended as it was to, where nothing has stopped it
abbrev pub EndsAsDue : Ending → Option Ending → Type 0
EndsAsDue Stopped due = due ≡ Some Stopped
EndsAsDue Closed due = due ≡ Some Closed
EndsAsDue Turns due = due ≡ Some Turns
EndsAsDue NumbersSpent due = due ≡ Some NumbersSpent
EndsAsDue Full due = due ≡ Some Full
EndsAsDue _ due = Unit {0}

-- ---- what is written beside the lines

-- an act that writes, writes the lines of what it notes, and such a reply behind them
abbrev pub WritesSo : {S C : Type 0} → (List ℕ → Type 0) → Act S C → Type 0
WritesSo Such (Stands at stops asked end) = Unit {0}
WritesSo Such Connects = Unit {0}
WritesSo Such (Polls until answer early) = Unit {0}
WritesSo Such (Writes entries text) = (reply : List ℕ) × (text ≡ text_of entries ++ reply) × Such reply
WritesSo Such (Sends characters) = Unit {0}

abbrev pub WriteSo : {S C : Type 0} → (List ℕ → Type 0) → List (Act S C) → Type 0
WriteSo Such [] = Unit {0}
WriteSo Such (act ∷ acts) = WritesSo Such act × WriteSo Such acts

-- of what commands an end, such is replied
abbrev pub RepliesSo : {C : Type 0} → (List ℕ → Type 0) → Telling C → Type 0
RepliesSo Such (Tells command reply) = Such reply
RepliesSo Such (Says text) = Such text
RepliesSo Such Stops = Unit {0}
RepliesSo Such IsOther = Unit {0}

abbrev pub ReplySo : {Q C : Type 0} → (List ℕ → Type 0) → Commands Q C → Type 0
ReplySo {Q} {C} Such commands = (now : ℕ) (coming : Q) → All (RepliesSo Such) (commands.come now coming)

-- anything, or nothing
abbrev pub AnyReply : List ℕ → Type 0
AnyReply reply = Unit {0}

abbrev pub NoReply : List ℕ → Type 0
NoReply reply = reply ≡ []

-- ---- a run

-- one that has ended so: what it has done, as far as that is noted and written, by its own answers, those that were to
-- come where the link tells them
pub record HasDone {S C : Type 0} (Such : List ℕ → Type 0)
    (machine : Machine S C) (start : Step S Happening) (side : Side) (run : List LinkIn → Piece S C) (a b : Scene S C)
    (result : Ending) : Type 0 where
  pub answers : List LinkIn
  pub to_come : AreToCome a.contents answers
  pub done : List (Act S C)
  pub notes : AreNotesOf side (log_of done)
  pub there :
      AreThere result
      (with_closing (run answers).ended (notes_of (course_of start machine (met_by (run answers).acts))))
      (noted_by side (log_of done))
  pub due : EndsAsDue result (run answers).ended
  pub lines : WriteSo Such done
  pub written : AreWritten result a.received b.received (lines_of done)

-- so has every run of every end, whatever is replied
abbrev pub RunsNoteCourses : Type 0 → Type 0 → Type 0 → Type 0
RunsNoteCourses S C Q =
    (machine : Machine S C) (due : S → Option ℕ) (commands : Commands Q C) (side : Side)
    (start : Step S Happening) (coming : Q) (polls : ℕ) (a b : Scene S C) (result : Ending)
    → RunsOver a b (commanded_run machine due commands side start coming polls) result
    → HasDone AnyReply machine start side (commanded_run machine due commands side start coming polls) a b result

-- one in which nothing is replied, by its log
pub record HasNoted {S C : Type 0}
    (machine : Machine S C) (start : Step S Happening) (side : Side) (run : List LinkIn → Piece S C) (a b : Scene S C)
    (result : Ending) : Type 0 where
  pub answers : List LinkIn
  pub to_come : AreToCome a.contents answers
  pub log : List Entry
  pub notes : AreNotesOf side log
  pub there :
      AreThere result
      (with_closing (run answers).ended (notes_of (course_of start machine (met_by (run answers).acts))))
      (noted_by side log)
  pub due : EndsAsDue result (run answers).ended
  pub written : AreWritten result a.received b.received (text_of log)
