-- What a run of the equipment over a link keeps, where its disk tells its bytes (this profile).
use Rattle.std.specs.Prelude.{◌≡◌, ◌⊎◌, ℕ, List, Option, Some}
use Rattle.command_words.specs.Asked.{Equipment}
use Rattle.command_words.specs.Words.{asked_of}
use Rattle.disk_base.specs.Disk.{TellsBytes}
use Rattle.disk_base.specs.Story.{Story}
use Rattle.gl_base.specs.Told.{FilesTold, SinkTold, SourceTold}
use Rattle.gl_base.specs.declared.input.Input.TheVariants as input
use Rattle.gl_base.specs.declared.link.LinkIn.{LinkIn}
use Rattle.gl_base.specs.declared.side.Side.TheVariants as side
use Rattle.line_schedule.specs.Script.{IsScript}
use Rattle.message_end.specs.Core.{Step}
use Rattle.message_end.specs.Core.Went.{Goes}
use Rattle.message_end.specs.Ends.{Asked}
use Rattle.trace_log.specs.Log.{Happening}
use Rattle.trace_log.specs.Text.{text_of}
use Rattle.trace_log.specs.declared.commands.ToolCommand.{ToolCommand}
use Rattle.equipment_tables.specs.declared.plan.EquipmentPlan.{EquipmentPlan}
use Rattle.equipment_tables.specs.declared.plan.Plans.{Plans}
use Rattle.setup_law.specs.Setup.{KeepsSetup}
use Rattle.spool_law.specs.Shelf.{KeepsSpoolFrom}
use Rattle.spool_show.specs.Told.{DiskTold}
use Rattle.spool_file.specs.File.{SpoolFile, file_in}
use Rattle.spool_works.specs.Found.{found_in}
use Rattle.tool_law.specs.Tried.{AreTried}
use Rattle.tool_reports.specs.Reported.{Reported}
use Rattle.tool_spool.specs.LeavesInStep.{LeaveInTheirSteps}
use Rattle.tool_spool.specs.MadeRoom.{MakesRoomForPuts}
use Rattle.tool_spool.specs.SpoolKept.{policy_of}
use Rattle.tool_step.specs.End.{machine}
use Rattle.tool_step.specs.Equipment.{EquipmentView, starts}
use Rattle.tool_step.specs.Setup.{setup_in}
use Rattle.tool_step.specs.Step.{end_plan}
use Rattle.end_pair.specs.Noted.{noted_by}
use Rattle.end_run.specs.Acts.{lines_of, log_of}
use Rattle.end_run.specs.Pieces.{Piece}
use Rattle.end_run.specs.Scenes.{StopAt}
use Rattle.end_run.specs.Script.{ScriptLine}
use Rattle.end_run.specs.declared.ending.Ending.{Ending}
use Rattle.gemline_app.specs.Equipment.{equipment_run}
use Rattle.gemline_app.specs.Files.{PlansAre}
use Rattle.gemline_app.specs.Gemline.{IsRun}
use Rattle.gemline_app.specs.Inputs.{WasRead}
use Rattle.gemline_app.specs.LinkTold.{LinkTold}
use Rattle.gemline_app.specs.Linked.{IsIdle, after_run, before_run, outcome_of_ending}
use Rattle.gemline_app.specs.Words.{script_limit}
use Rattle.gemline_app.specs.declared.outcome.Outcome.{Outcome}
use Rattle.link_courses.specs.Lawful.{GiveBytes, KeepsLawOfEnd}
use Rattle.link_courses.specs.Noting.{HasDone, NoReply}

-- what holds of all that the equipment has noted over a file that held this before, as of a replay: each report and
-- each answer holds the values of its event or of that moment, and each command has its note; the start finds what the
-- file held, what is stored goes behind that, and what leaves has its cause, in its step; the oldest message is
-- overwritten for a put alone; the start carries out the setup that the file held, and what is changed of it is kept
pub record KeepsLaws (plan : EquipmentPlan) (file : SpoolFile) (notes : List Happening) : Type 0 where
  pub reported : Reported plan notes
  pub spooled : KeepsSpoolFrom (policy_of plan file.slots) (found_in file.list) notes
  pub leaves : LeaveInTheirSteps (policy_of plan file.slots) notes
  pub room : MakesRoomForPuts notes
  pub set_up : KeepsSetup plan (setup_in file) notes

-- it ran so from its start over such a file: what it has noted of its course, and what of that its output has, with
-- such replies; and that keeps the laws. Where it is given what it takes, that is of doings that keep the law of an
-- end, and in these it tries the messages of its spool in turn
pub record RanInCourse (Such : List ℕ → Type 0) (IsGiven : List LinkIn → Type 0) (plan : EquipmentPlan)
    (file : SpoolFile) (run : Step EquipmentView Happening → List LinkIn → Piece EquipmentView ToolCommand)
    (link : LinkTold) (out : SinkTold) (ended : Ending) : Type 0 where
  pub start : Step EquipmentView Happening
  pub started : starts plan file ≡ Goes start
  pub left : EquipmentView
  pub room : Asked
  pub stop : Option (StopAt EquipmentView ToolCommand)
  pub has :
      HasDone Such machine start side.Equipment (run start) (before_run link out start.next)
      (after_run link out left room stop) ended
  pub keeps : KeepsLaws plan file (noted_by side.Equipment (log_of has.done))
  pub lawful :
      IsGiven has.answers
      → KeepsLawOfEnd (end_plan plan) (AreTried (end_plan plan)) (noted_by side.Equipment (log_of has.done))

-- so it was of the plan and of the script that were read: it is given what it takes where the link gives bytes, and
-- nothing is replied, so that its output has the lines of its notes alone
pub record RanLawfully (plan : List ℕ) (polls : ℕ) (bytes : List ℕ) (source : SourceTold) (files : FilesTold)
    (link : LinkTold) (out : SinkTold) (outcome : Outcome) : Type 0 where
  pub plans : Plans
  pub plans_are : PlansAre plan files plans
  pub text : List ℕ
  pub read : WasRead script_limit source (input.Whole text)
  pub lines : List ScriptLine
  pub script : IsScript side.Equipment text lines
  pub ended : Ending
  pub outcome_is : outcome ≡ outcome_of_ending ended
  pub ran :
      RanInCourse NoReply GiveBytes plans.equipment (file_in bytes) (λ start. equipment_run start lines polls) link out
      ended
  pub alone : lines_of ran.has.done ≡ text_of (log_of ran.has.done)

-- whatever the link does, each run of `equipment` over a disk that tells its bytes is so; or it was refused before
-- anything was written, and made no call of the link
abbrev pub EquipmentsKeepTheirLaws : Type 0
EquipmentsKeepTheirLaws =
    (words : List (List ℕ)) (source : SourceTold) (files : FilesTold) (disk : DiskTold) (link : LinkTold)
    (out err : SinkTold) (status : ℕ) (plan address spool : List ℕ) (polls : ℕ)
    → (run : IsRun words source files disk link out err status)
    → asked_of words ≡ Some (Equipment plan address spool polls) → TellsBytes disk.before
    → (s : Story) → disk.before ≡ Some s
    → IsIdle link out ⊎ RanLawfully plan polls s.now.bytes source files link out run.outcome
