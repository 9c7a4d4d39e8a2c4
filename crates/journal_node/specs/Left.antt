-- What the device of the journal holds where a step ends early, whatever a crash leaves of it.
use Rattle.std.specs.Prelude.{◌≡◌, ℕ, List, take, Some}
use Rattle.std.specs.List.{slice_get}
use Rattle.disk_base.specs.Story.{Moment}
use Rattle.disk_base.specs.Through.{EachImage}
use Rattle.gem_spool.specs.Standing.{Standing}
use Rattle.spool_file.specs.File.{StandsFor}
use Rattle.message_flow.specs.declared.step.StepOut.{StepOut}
use Rattle.trace_log.specs.declared.commands.HostCommand.{HostCommand}
use Rattle.trace_log.specs.Log.{Happening}
use Rattle.message_end.specs.Core.{step_in}
use Rattle.message_end.specs.Ends.{Input, printed}
use Rattle.spool_works.specs.DiskWorks.{DiskWork, IsAmidWork, standings_behind}
use Rattle.journal_node.specs.Journal.{JournalView, act, standing_in}
use Rattle.journal_node.specs.Works.{stops, works_of}

-- a journal that stands so
abbrev pub Holds : Standing → Moment → Type 0
Holds st moment = EachImage (λ image. StandsFor image st.file) moment

-- how it stands behind some first works of a step
abbrev pub standing_at : JournalView → Input HostCommand → ℕ → ℕ → Standing
standing_at s input now place = standings_behind (standing_in s) (take place (works_of s input now))

-- the disk has failed at the work of a place: those before it are done, and none behind it was begun. All is noted that
-- was noted before it
pub record HasFailedAt (s : JournalView) (input : Input HostCommand) (now : ℕ) (out : StepOut) (moment : Moment)
    : Type 0 where
  pub place : ℕ
  pub work : DiskWork
  pub is : slice_get (works_of s input now) place ≡ Some work
  pub front : List Happening
  pub front_is : slice_get (stops s input now) place ≡ Some front
  pub notes : out.notes ≡ printed front
  pub left : EachImage (IsAmidWork (standing_at s input now place) work) moment

-- memory has run out: some first works are done
pub record HasBegunAt (s : JournalView) (input : Input HostCommand) (now : ℕ) (moment : Moment) : Type 0 where
  pub place : ℕ
  pub left : Holds (standing_at s input now place) moment

-- it has ended early: all that was listed before stands, and no more
abbrev pub HoldsEnded : JournalView → Input HostCommand → ℕ → Moment → Type 0
HoldsEnded s input now moment = Holds (standing_in (step_in (act s input now)).next) moment
