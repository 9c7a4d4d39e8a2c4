-- All that is claimed of a run's log, from the laws of the crates below.
use Rattle.std.proofs.Common.{List}
use Rattle.end_pair.specs.Laws.{IsOfMoves}
use Rattle.end_pair.specs.Noted.{AreOfCourses}
use Rattle.equipment_tables.specs.Plan.{PlansFit}
use Rattle.equipment_tables.specs.declared.plan.Plans.{Plans}
use Rattle.host_node.specs.Host as host
use Rattle.line_schedule.specs.declared.schedule.Schedule.{Schedule}
use Rattle.tool_law.specs.Laws.{DidOf}
use Rattle.tool_step.specs.End as equipment
use Rattle.trace_log.specs.Log.{Entry}
use Rattle.line_world.specs.Below.{LawsHold}
use Rattle.line_world.specs.Run.{equipment_start, host_start, log_of}
use Rattle.line_world.specs.Safe.{HostDid, IsSafe, plans_of}
use Rattle.line_world.proofs.Behind.{delivers, is-delivered}
use Rattle.line_world.proofs.Noted.{NotesHold, notes-hold}
use Rattle.line_world.proofs.Spool.{holds-spool}

module _ (plans : Plans) (schedule : Schedule) (fit : PlansFit plans) (laws : LawsHold)
    (moved : IsOfMoves (DidOf plans.equipment) (HostDid plans.host) (plans_of plans) (log_of plans schedule))
    (courses :
    AreOfCourses equipment.machine host.host_machine (equipment_start plans) (host_start plans.host)
    (log_of plans schedule))
  where
    abbrev log : List Entry
    log = log_of plans schedule

    holds : NotesHold plans log
    holds = notes-hold plans fit laws log host.host_machine (host_start plans.host) courses

    pub safe : IsSafe plans log
    safe = record {
      delivered = is-delivered plans (HostDid plans.host) fit laws.deliver log moved;
      in_order =
          record {
            moved = moved;
            in_order = (delivers plans (HostDid plans.host) fit laws.deliver log moved).in_order;
          };
      reported = holds.reported;
      sampled = holds.sampled;
      spooled = holds-spool plans (HostDid plans.host) log holds.kept moved fit laws.take;
      left = holds.left;
      set_up = holds.set_up;
    }
