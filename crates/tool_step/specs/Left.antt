-- What the device of the spool holds where a step ends early, whatever a crash leaves of it.
use Rattle.std.specs.Prelude.{◌≡◌, ◌⊎◌, ℕ, List, [], ◌∷◌, length, take, Some}
use Rattle.std.specs.List.{slice_get}
use Rattle.disk_base.specs.Story.{Moment}
use Rattle.disk_base.specs.Through.{EachImage}
use Rattle.gem_spool.specs.Standing.{Standing}
use Rattle.spool_file.specs.File.{StandsFor}
use Rattle.message_flow.specs.declared.step.StepOut.{StepOut}
use Rattle.trace_log.specs.declared.commands.ToolCommand.{ToolCommand}
use Rattle.trace_log.specs.Log.{Happening}
use Rattle.message_end.specs.declared.end.Stop.{Stop}
use Rattle.message_end.specs.declared.end.Stop.TheVariants.{DiskFailed, Full, NoMemory, NumbersSpent}
use Rattle.message_end.specs.Core.{step_in}
use Rattle.message_end.specs.Ends.{Input, printed}
use Rattle.spool_works.specs.DiskWorks.{DiskWork, IsAmidWork, standings_behind}
use Rattle.tool_step.specs.Disk.{standing_in, stops, unserved, works_of}
use Rattle.tool_step.specs.Equipment.{EquipmentView, act, begun_step}

-- a spool that stands so
abbrev pub Holds : Standing → Moment → Type 0
Holds st moment = EachImage (λ image. StandsFor image st.file) moment

-- how it stands behind some first works of a step
abbrev pub standing_at : EquipmentView → Input ToolCommand → ℕ → ℕ → Standing
standing_at s input now place = standings_behind (standing_in s) (take place (works_of s input now))

-- the disk has failed at the work of a place: those before it are done, and none behind it was begun. All is noted that
-- was noted before it
pub record HasFailed (s : EquipmentView) (input : Input ToolCommand) (now : ℕ) (out : StepOut) (moment : Moment)
    : Type 0 where
  pub place : ℕ
  pub work : DiskWork
  pub is : slice_get (works_of s input now) place ≡ Some work
  pub front : List Happening
  pub front_is : slice_get (stops s input now) place ≡ Some front
  pub notes : out.notes ≡ printed front
  pub left : EachImage (IsAmidWork (standing_at s input now place) work) moment

-- the keeper of the recipes has failed, which was asked behind all works: they are done, and all is noted that was noted
-- before them
pub record IsUnserved (s : EquipmentView) (input : Input ToolCommand) (now : ℕ) (out : StepOut) (moment : Moment)
    : Type 0 where
  pub front : List Happening
  pub is : unserved (begun_step s input now) ≡ front ∷ []
  pub notes : out.notes ≡ printed front
  pub left : Holds (standing_at s input now (length (works_of s input now))) moment

-- memory has run out: some first works are done
pub record HasBegun (s : EquipmentView) (input : Input ToolCommand) (now : ℕ) (moment : Moment) : Type 0 where
  pub place : ℕ
  pub left : Holds (standing_at s input now place) moment

-- where the numbers are spent, all works are done that were decided by then
abbrev pub Leaves : EquipmentView → Input ToolCommand → ℕ → StepOut → Moment → Stop → Type 0
Leaves s input now out moment NoMemory = HasBegun s input now moment
Leaves s input now out moment NumbersSpent = Holds (standing_in (step_in (act s input now)).next) moment
Leaves s input now out moment Full = ⊥
Leaves s input now out moment DiskFailed = HasFailed s input now out moment ⊎ IsUnserved s input now out moment
