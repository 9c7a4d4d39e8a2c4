-- That a run is safe, whether there was memory for the disks or not: the laws speak of no value.
use Rattle.std.proofs.Common.{◌≤◌, arith, refl, subst, true, ℕ, List}
use Rattle.std.specs.Prelude.{All}
use Rattle.disk_base.specs.MemDisk.{DiskState}
use Rattle.disk_base.specs.contracts.mem_disk.MemDiskDisk.TheImpl.{ghosts}
use Rattle.end_pair.specs.Laws.{AreOnLine, HasBytes, IsOfMoves}
use Rattle.end_pair.specs.Noted.{EntriesAreOfCourses}
use Rattle.end_pair.specs.Run as pair
use Rattle.equipment_node.specs.InMemory.{Holds as HoldsSpool}
use Rattle.equipment_tables.specs.Plan.{EquipmentPlanFits, PlansFit}
use Rattle.equipment_tables.specs.declared.plan.EquipmentPlan.{EquipmentPlan}
use Rattle.equipment_tables.specs.declared.plan.Plans.{Plans}
use Rattle.filed_end.specs.InMemory.{Holds, starts_over}
use Rattle.host_node.specs.Host as host
use Rattle.journal_end.specs.Filed.{MayHold, form}
use Rattle.journal_node.specs.End as journal
use Rattle.journal_node.specs.Journal.{JournalView}
use Rattle.journal_node.specs.Law as law
use Rattle.line_end.specs.Plan.{HostPlanFits}
use Rattle.line_end.specs.declared.plan.HostPlan.{HostPlan}
use Rattle.line_schedule.specs.Schedule.{JournalFits}
use Rattle.line_schedule.specs.declared.event.Event.{Event}
use Rattle.line_schedule.specs.declared.schedule.JournalSchedule.{JournalSchedule}
use Rattle.line_world.specs.Disk.{IsEmptySpool}
use Rattle.line_world.specs.Run.{EquipmentView, equipment_start}
use Rattle.line_world.specs.Safe.{plans_of}
use Rattle.line_world.proofs.Disks.{blank-empty, blank_spool, first-is, holds_empty, opens_empty, starts_over as tool_starts}
use Rattle.line_world.proofs.Events.{Happens, all-happen, all-have}
use Rattle.message_end.specs.Core.{Step, step_in}
use Rattle.message_end.specs.Ends.{Opens}
use Rattle.message_end.specs.Moves.{LinePlans}
use Rattle.spool_slots.specs.Spool.{SpoolView}
use Rattle.tool_law.specs.Laws.{DidOf}
use Rattle.tool_step.specs.End as equipment
use Rattle.tool_step.specs.Step.{end_plan}
use Rattle.trace_log.specs.Log.{Happening}
use Rattle.journal_world.specs.Below.{LawsHold}
use Rattle.journal_world.specs.Run.{host_start, log_of}
use Rattle.journal_world.specs.Safe.{IsSafe}
use Rattle.journal_world.proofs.Claims.{safe}
use Rattle.journal_world.proofs.Disks.{holds-journal, journal-first, opens-journal}

-- the logs of the two ends' runs are of moves
abbrev pub RunsAreMoves : Type 0
RunsAreMoves =
    (tool : EquipmentPlan) (store : SpoolView DiskState) (there : HostPlan) (host_store : SpoolView DiskState)
    (plans : LinePlans) (events : List Event) → EquipmentPlanFits tool → HostPlanFits there → HoldsSpool store
    → Holds MayHold host_store → Opens (tool_starts tool store)
    → Opens (starts_over (form ghosts) there host_store.disk)
    → AreOnLine plans (end_plan tool) (host.end_plan there)
    → All (Happens true (Unit {0}) (λ is. tt)) events → All HasBytes events
    → IsOfMoves (DidOf tool) (law.DidOf there) plans
    (pair.log_of equipment.machine journal.machine (step_in (tool_starts tool store))
    (step_in (starts_over (form ghosts) there host_store.disk)) events)

module _ (plans : Plans) (slots : ℕ) (schedule : JournalSchedule) (fit : PlansFit plans) (some : 1 ≤ slots)
    (most : slots ≤ 1024) (fits : JournalFits schedule)
  where
    abbrev Moved : Step EquipmentView Happening → Step JournalView Happening → Type 0
    Moved first second =
        IsOfMoves (DidOf plans.equipment) (law.DidOf plans.host) (plans_of plans)
        (pair.log_of equipment.machine journal.machine first second schedule.events)

    -- spools of no value
    abbrev spool : SpoolView DiskState
    spool = blank_spool plans.slots

    abbrev list : SpoolView DiskState
    list = blank_spool slots

    spool-empty : IsEmptySpool plans.slots spool
    spool-empty = blank-empty plans.slots fit.slots_at_least (omega (arith, fit.slots_at_most))

    list-empty : IsEmptySpool slots list
    list-empty = blank-empty slots some (omega (arith, most))

    moved : RunsAreMoves → Moved (equipment_start plans) (host_start plans.host slots)
    moved runs =
        subst (λ (second : Step JournalView Happening). Moved (equipment_start plans) second)
        (journal-first plans.host slots list list-empty)
        (subst
        (λ (first : Step EquipmentView Happening).
        Moved first (step_in (starts_over (form ghosts) plans.host list.disk)))
        (first-is plans spool spool-empty)
        (runs plans.equipment spool plans.host list (plans_of plans) schedule.events fit.equipment fit.host
        (holds_empty plans.slots spool spool-empty) (holds-journal slots list list-empty)
        (opens_empty plans spool spool-empty) (opens-journal plans.host slots list list-empty)
        (record { equipment_is = refl; host_is = refl })
        (all-happen true (Unit {0}) (λ is. tt) schedule.events fits.events)
        (all-have true schedule.events fits.events)))

    pub is-safe : LawsHold → RunsAreMoves → EntriesAreOfCourses EquipmentView JournalView
        → IsSafe plans slots (log_of plans slots schedule)
    is-safe laws runs courses =
        safe plans slots schedule fit laws (moved runs)
        (courses equipment.machine journal.machine (equipment_start plans) (host_start plans.host slots)
        schedule.events)
