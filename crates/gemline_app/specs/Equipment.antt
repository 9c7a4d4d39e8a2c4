-- What `equipment` reads, writes, sends, and leaves on its disk (this profile).
use Rattle.std.specs.Prelude.{ℕ, List, Option, Some, None, ◌≡◌}
use Rattle.disk_base.specs.Story.{Story}
use Rattle.gl_base.specs.Told.{FilesTold, SinkTold, SourceTold}
use Rattle.gl_base.specs.declared.link.LinkIn.{LinkIn}
use Rattle.gl_base.specs.declared.side.Side.TheVariants as side
use Rattle.spool_show.specs.Told.{DiskTold}
use Rattle.trace_log.specs.Log.{Happening}
use Rattle.trace_log.specs.declared.commands.ToolCommand.{ToolCommand}
use Rattle.message_end.specs.Core.{Step}
use Rattle.message_end.specs.Ends.{Asked, Machine}
use Rattle.equipment_tables.specs.declared.plan.EquipmentPlan.{EquipmentPlan}
use Rattle.tool_step.specs.Disk.{standing_in}
use Rattle.tool_step.specs.End.{machine}
use Rattle.tool_step.specs.Equipment.{EquipmentView, starts}
use Rattle.equipment_node.specs.StartSetup.{start_break}
use Rattle.tool_step.specs.Left.{Holds, Leaves}
use Rattle.tool_step.specs.Step.{deadline_of}
use Rattle.end_run.specs.Pieces.{Piece}
use Rattle.end_run.specs.Scenes.{StopAt}
use Rattle.end_run.specs.Script.{ScriptLine}
use Rattle.end_run.specs.Sides.{told_equipment}
use Rattle.end_run.specs.declared.ending.Ending.{Ending}
use Rattle.gemline_app.specs.Filed as filed
use Rattle.gemline_app.specs.Filed.{BytesTold, Filed, run_of}
use Rattle.gemline_app.specs.LinkTold.{LinkTold}
use Rattle.gemline_app.specs.declared.outcome.Outcome.{Outcome}
use Rattle.gemline_app.specs.declared.outcome.Outcome.TheVariants.{NoMemory}

-- ---- the equipment's run

-- when it acts next by itself: the least moment of its line's, of T4, of T3 and of the delay
abbrev pub equipment_due : EquipmentView → Option ℕ
equipment_due s = deadline_of s.node

-- over a link nothing is said of how much its disk has room for: a step may fail at a call of it
abbrev pub one_call : Asked
one_call = record { calls = 1; bytes = 0 }

abbrev pub linked_machine : Machine EquipmentView ToolCommand
linked_machine = record machine { asks = λ s input now. one_call; start_asks = one_call }

-- it can't start over bytes that stand for no spool, or whose setup is none; and its spool, if full, ends no run
abbrev pub tool : Filed EquipmentPlan EquipmentView ToolCommand
tool = record {
  machine = linked_machine;
  due = equipment_due;
  told = told_equipment;
  side = side.Equipment;
  break_in = start_break;
  starts = starts;
  full = NoMemory;
}

-- its run from a start, with the lines of a script and so many polls, where these answers of the link are to come
abbrev pub equipment_run :
    Step EquipmentView Happening → List ScriptLine → ℕ → List LinkIn → Piece EquipmentView ToolCommand
equipment_run start lines polls = run_of tool start lines polls

-- ---- what its disk holds then

-- of an equipment that is on its way, the spool of its state, whatever a crash leaves; of one that a step has stopped,
-- what that step may leave: where the disk failed at a work, those before it are done and it is amid that one; where
-- memory ran out, some first works of the step are done; where the numbers were spent, those that were decided by then
abbrev pub HoldsLeft : EquipmentView → Option (StopAt EquipmentView ToolCommand) → Option Story → Type 0
HoldsLeft left None after = (t : Story) → after ≡ Some t → Holds (standing_in left) t.now
HoldsLeft left (Some stop) after =
    (t : Story) → after ≡ Some t → Leaves stop.at.state stop.at.input stop.at.moment stop.out t.now stop.why

-- ---- from its start on

abbrev pub RunsFrom :
    Step EquipmentView Happening → List ScriptLine → ℕ → Option Story → LinkTold → SinkTold → Ending → Type 0
RunsFrom = filed.RunsFrom tool HoldsLeft

abbrev pub WasRunOn : EquipmentPlan → List ScriptLine → ℕ → BytesTold → LinkTold → SinkTold → Outcome → Type 0
WasRunOn = filed.WasRunOn tool HoldsLeft

abbrev pub StartRefuses : BytesTold → Outcome → Type 0
StartRefuses = filed.StartRefuses start_break

abbrev pub SpoolRuns : EquipmentPlan → List ScriptLine → ℕ → BytesTold → LinkTold → SinkTold → Outcome → Type 0
SpoolRuns = filed.SpoolRuns tool HoldsLeft

abbrev pub FileRuns :
    EquipmentPlan → List ℕ → List ScriptLine → ℕ → DiskTold → LinkTold → SinkTold → Outcome → Type 0
FileRuns = filed.FileRuns tool HoldsLeft

-- what `equipment` came to
abbrev pub EquipmentComes :
    List ℕ → List ℕ → ℕ → SourceTold → FilesTold → DiskTold → LinkTold → SinkTold → Outcome → Type 0
EquipmentComes = filed.FiledComes tool HoldsLeft (λ plans. plans.equipment)
