-- The run of a schedule over a tool and its host, and what it writes (this profile).
use Rattle.std.specs.Prelude.{ℕ, List, ◌^◌}
use Rattle.end_pair.specs.Kept as kept
use Rattle.end_pair.specs.Run as pair
use Rattle.end_pair.specs.World.{Piece, World}
use Rattle.end_pair.specs.declared.answers.RunEnd.{RunEnd}
use Rattle.end_pair.specs.declared.answers.WorldStep.{WorldStep}
use Rattle.tool_step.specs.End as equipment
use Rattle.tool_step.specs.Equipment as equipment_states
use Rattle.equipment_node.specs.declared.in_memory.EquipmentEnd.{EquipmentEnd}
use Rattle.equipment_tables.specs.declared.plan.Plans.{Plans}
use Rattle.gl_base.specs.Told.{SinkTold}
use Rattle.host_node.specs.Host as host
use Rattle.line_end.specs.declared.plan.HostPlan.{HostPlan}
use Rattle.line_schedule.specs.declared.schedule.Schedule.{Schedule}
use Rattle.message_end.specs.Core.{Step}
use Rattle.message_end.specs.Parts.{Node, bare_started}
use Rattle.spool_file.specs.Format.{empty_file}
use Rattle.trace_log.specs.Log.{Entry, Happening}
use Rattle.trace_log.specs.Text.{text_of}
use Rattle.transact.specs.Numbers.{numbers_from}

-- what each end is
abbrev pub EquipmentView : Type 0
EquipmentView = equipment_states.EquipmentView

abbrev pub HostView : Type 0
HostView = Node host.HostOwn host.Kind

-- the equipment at its start, over an empty spool: the first system bytes are reserved
abbrev pub equipment_start : Plans → Step EquipmentView Happening
equipment_start plans = equipment_states.started_on plans.equipment (empty_file plans.slots)

-- the host at its start: all system bytes are left
abbrev pub host_start : HostPlan → Step HostView Happening
host_start plan = bare_started (host.end_plan plan) (host.first_own plan) (numbers_from 0 (2 ^ 32))

-- all of the run: as far as the schedule goes, or to the step that has ended it
abbrev pub piece_of : Plans → Schedule → Piece EquipmentView HostView
piece_of plans schedule =
    pair.piece_of equipment.machine host.host_machine (equipment_start plans) (host_start plans.host)
    schedule.events

-- how far it goes, the log, and its text
abbrev pub went_of : Plans → Schedule → WorldStep
went_of plans schedule = (piece_of plans schedule).went

abbrev pub log_of : Plans → Schedule → List Entry
log_of plans schedule = pair.whole_log (piece_of plans schedule)

abbrev pub trace_text : Plans → Schedule → List ℕ
trace_text plans schedule = text_of (log_of plans schedule)

-- what is written of it, by how it ends. It has no turn left where a step is left behind the last of all steps, or
-- where one comes to a call that the spool's disk has no room for
abbrev pub Runs : SinkTold → Plans → Schedule → RunEnd → Type 0
Runs out plans schedule ended = pair.Runs out (trace_text plans schedule) (went_of plans schedule) ended

-- ---- the world

-- the world of the ends' values as one of their states, where this is what the equipment's value stands for
abbrev pub seen : (EquipmentEnd → EquipmentView) → World EquipmentEnd HostView → World EquipmentView HostView
seen means world = kept.seen means (λ (end : HostView). end) world
