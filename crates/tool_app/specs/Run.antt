-- The run of a tool by what comes beside its link (this profile).
use Rattle.std.specs.Prelude.{◌≡◌, ℕ, ◌-◌, ◌^◌, List, Option, Some, None}
use Rattle.std.specs.Option.{option_map}
use Rattle.disk_base.specs.Story.{Story}
use Rattle.gl_base.specs.Told.{SinkTold}
use Rattle.gl_base.specs.declared.link.LinkIn.{LinkIn}
use Rattle.gl_base.specs.declared.side.Side.TheVariants as side
use Rattle.equipment_node.specs.StartSetup.{start_break}
use Rattle.spool_file.specs.File.{SpoolFile, file_in}
use Rattle.trace_log.specs.Log.{Happening}
use Rattle.trace_log.specs.declared.commands.ToolCommand.{ToolCommand}
use Rattle.message_end.specs.Core.{Step}
use Rattle.message_end.specs.Core.Went.{Goes}
use Rattle.message_end.specs.Ends.{Asked}
use Rattle.equipment_tables.specs.declared.plan.EquipmentPlan.{EquipmentPlan}
use Rattle.tool_step.specs.Equipment.{EquipmentView, starts}
use Rattle.end_run.specs.Commands.{as_it_comes}
use Rattle.end_run.specs.Counts.{Counts}
use Rattle.end_run.specs.Outcome.{RunsOver}
use Rattle.end_run.specs.Pieces.{Piece}
use Rattle.end_run.specs.Run.{commanded_run}
use Rattle.end_run.specs.Scenes.{StopAt}
use Rattle.end_run.specs.Told.{MayCome}
use Rattle.end_run.specs.declared.ending.Ending.{Ending}
use Rattle.gemline_app.specs.Equipment.{HoldsLeft, equipment_due, linked_machine}
use Rattle.gemline_app.specs.Filed.{BytesTold, counted_after, counted_before}
use Rattle.gemline_app.specs.LinkTold.{LinkTold}
use Rattle.gemline_app.specs.Linked.{after_run, before_run}
use Rattle.live_commands.specs.Coming.{at_start}
use Rattle.live_teller.specs.Came.{Came}
use Rattle.live_teller.specs.Tellings.{ToolTelling, told_by}

-- no run lives to make so many polls
abbrev pub most_polls : ℕ
most_polls = 2 ^ 64 - 1

-- its run from a start, where it is told this with each answer of the link, and these answers are to come
abbrev pub live_run :
    Step EquipmentView Happening → List (List ToolTelling) → List LinkIn → Piece EquipmentView ToolCommand
live_run start coming = commanded_run linked_machine equipment_due as_it_comes side.Equipment start coming most_polls

-- what it is told is read off what comes beside the link, where that is told
abbrev pub MayBeTold : Option (List Came) → List (List ToolTelling) → Type 0
MayBeTold came coming = MayCome (option_map (told_by at_start) came) coming

-- the tool ran from a start: its lines, the moments that it asked of the link, and the characters that it sent are
-- those that the start, what it was told and the link's answers ask for; and its disk holds what the run has left there
pub record RunsLive (start : Step EquipmentView Happening) (came : Option (List Came)) (after : Option Story)
    (link : LinkTold) (out : SinkTold) (ended : Ending) : Type 0 where
  pub coming : List (List ToolTelling)
  pub may : MayBeTold came coming
  pub left : EquipmentView
  pub room : Asked
  pub stop : Option (StopAt EquipmentView ToolCommand)
  pub runs : RunsOver (before_run link out start.next) (after_run link out left room stop) (live_run start coming) ended
  pub holds : HoldsLeft left stop after

-- it was started by its plan over what a file holds, and ran from that start
pub record RanLive (plan : EquipmentPlan) (file : SpoolFile) (came : Option (List Came)) (disk : BytesTold)
    (link : LinkTold) (out : SinkTold) (ended : Ending) : Type 0 where
  pub start : Step EquipmentView Happening
  pub started : starts plan file ≡ Goes start
  pub ran : RunsLive start came disk.after link out ended

-- it has run; where its disk told its bytes, these stand for a spool and its setup, and the run is that over what they
-- hold
pub record WasLive (plan : EquipmentPlan) (came : Option (List Came)) (disk : BytesTold) (link : LinkTold)
    (out : SinkTold) (ended : Ending) : Type 0 where
  pub counts : Counts (counted_before disk link out) (counted_after disk link out) (Some ended)
  pub sound : (s : Story) → disk.before ≡ Some s → start_break s.now.bytes ≡ None
  pub ran : (s : Story) → disk.before ≡ Some s → RanLive plan (file_in s.now.bytes) came disk link out ended
