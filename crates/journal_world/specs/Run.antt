-- The run of a schedule over a tool and a host with a journal, and what it writes (this profile).
use Rattle.std.specs.Prelude.{ℕ, List}
use Rattle.end_pair.specs.Kept as kept
use Rattle.end_pair.specs.Run as pair
use Rattle.end_pair.specs.World.{Piece, World}
use Rattle.end_pair.specs.declared.answers.RunEnd.{RunEnd}
use Rattle.end_pair.specs.declared.answers.WorldStep.{WorldStep}
use Rattle.equipment_tables.specs.declared.plan.Plans.{Plans}
use Rattle.gl_base.specs.Told.{SinkTold}
use Rattle.journal_node.specs.End as journal
use Rattle.journal_node.specs.Journal.{JournalView, started_on}
use Rattle.line_end.specs.declared.plan.HostPlan.{HostPlan}
use Rattle.line_schedule.specs.declared.schedule.JournalSchedule.{JournalSchedule}
use Rattle.line_world.specs.Run.{EquipmentView, equipment_start}
use Rattle.message_end.specs.Core.{Step}
use Rattle.spool_file.specs.Format.{empty_file}
use Rattle.tool_step.specs.End as equipment
use Rattle.trace_log.specs.Log.{Entry, Happening}
use Rattle.trace_log.specs.Text.{text_of}

-- the host at its start, over an empty journal: the first system bytes are reserved there
abbrev pub host_start : HostPlan → ℕ → Step JournalView Happening
host_start plan slots = started_on plan (empty_file slots)

-- all of the run, over a journal of so many slots: as far as the schedule goes, or to the step that has ended it
abbrev pub piece_of : Plans → ℕ → JournalSchedule → Piece EquipmentView JournalView
piece_of plans slots schedule =
    pair.piece_of equipment.machine journal.machine (equipment_start plans) (host_start plans.host slots)
    schedule.events

-- how far it goes, the log, and its text
abbrev pub went_of : Plans → ℕ → JournalSchedule → WorldStep
went_of plans slots schedule = (piece_of plans slots schedule).went

abbrev pub log_of : Plans → ℕ → JournalSchedule → List Entry
log_of plans slots schedule = pair.whole_log (piece_of plans slots schedule)

abbrev pub trace_text : Plans → ℕ → JournalSchedule → List ℕ
trace_text plans slots schedule = text_of (log_of plans slots schedule)

-- what is written of it, by how it ends. It has no turn left where a step is left behind the last of all steps, or
-- where one comes to a call that its end's disk has no room for; and the journal is full where a step lists a record
-- for which that has no room
abbrev pub Runs : SinkTold → Plans → ℕ → JournalSchedule → RunEnd → Type 0
Runs out plans slots schedule ended =
    pair.Runs out (trace_text plans slots schedule) (went_of plans slots schedule) ended

-- ---- the world

-- the world of the ends' values as one of their states, where these are what the values stand for
abbrev pub seen :
    {E H : Type 0} → (E → EquipmentView) → (H → JournalView) → World E H → World EquipmentView JournalView
seen equipment host world = kept.seen equipment host world
