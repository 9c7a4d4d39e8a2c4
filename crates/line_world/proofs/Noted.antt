-- What is claimed of the notes of the equipment in a log, whatever its host is: by the laws of the crates below.
use Rattle.std.proofs.Common.{◌<◌, List, [], Some, refl, sym, subst, arith}
use Rattle.end_pair.specs.Noted.{AreOfCourses, noted_by, timed_by}
use Rattle.equipment_tables.specs.Plan.{PlansFit}
use Rattle.equipment_tables.specs.declared.plan.Plans.{Plans}
use Rattle.gl_base.specs.declared.side.Side.TheVariants.{Equipment}
use Rattle.message_end.specs.Core.{Step}
use Rattle.message_end.specs.Ends.{Machine}
use Rattle.setup_law.specs.Setup.{KeepsSetup}
use Rattle.spool_file.specs.Format.{empty_file}
use Rattle.spool_law.specs.Shelf.{KeepsSpool, Policy}
use Rattle.tool_reports.specs.Reported.{Reported}
use Rattle.tool_spool.specs.LeavesInStep.{LeaveInTheirSteps}
use Rattle.tool_spool.specs.MadeRoom.{MakesRoomForPuts}
use Rattle.tool_spool.specs.SpoolKept.{MayHold, policy_of}
use Rattle.tool_step.specs.End as equipment
use Rattle.trace_log.specs.Log.{Entry, Happening}
use Rattle.trace_log.specs.declared.commands.HostCommand.{HostCommand}
use Rattle.line_world.specs.Below.{LawsHold}
use Rattle.line_world.specs.Run.{equipment_start}
use Rattle.line_world.specs.Safe.{HoldsReports, HoldsSamples, HoldsSetup, LeavesInSteps}
use Rattle.line_world.proofs.Disks.{none-sent}
use Rattle.line_world.proofs.OverStarts.{over-starts}
use Rattle.line_world.proofs.SampledLog.{sampled-log}

pub record NotesHold (plans : Plans) (log : List Entry) : Type 0 where
  pub reported : HoldsReports plans log
  pub sampled : HoldsSamples plans log
  pub kept : KeepsSpool (policy_of plans.equipment plans.slots) (noted_by Equipment log)
  pub left : LeavesInSteps plans log
  pub set_up : HoldsSetup plans log

module _ {H : Type 0} (plans : Plans) (fit : PlansFit plans) (laws : LawsHold) (log : List Entry)
    (host : Machine H HostCommand) (host_start : Step H Happening)
    (courses : AreOfCourses equipment.machine host (equipment_start plans) host_start log)
  where
    abbrev notes : List Happening
    notes = noted_by Equipment log

    abbrev policy : Policy
    policy = policy_of plans.equipment plans.slots

    some : 0 < plans.slots
    some = omega (arith, fit.slots_at_least)

    most : plans.slots < 65536
    most = omega (arith, fit.slots_at_most)

    -- the disk of a run is new
    none : MayHold (empty_file plans.slots)
    none = record {
      chain = omega arith;
      room = omega arith;
      bound = omega arith;
      floor = omega arith;
      sent = none-sent [] refl;
    }

    reports : Reported plans.equipment notes
    reports =
        subst (λ (notes : List Happening). Reported plans.equipment notes) (sym courses.equipment_noted)
        (laws.reports plans.equipment (empty_file plans.slots) fit.equipment (none-sent [] refl)
        courses.equipment_met).reported

    kept : KeepsSpool policy notes
    kept =
        subst (KeepsSpool policy) (sym courses.equipment_noted)
        (laws.kept plans.equipment plans.slots fit.equipment some most courses.equipment_met)

    leaves : LeavesInSteps plans log
    leaves = record {
      caused =
          subst (LeaveInTheirSteps policy) (sym courses.equipment_noted)
          (laws.left plans.equipment (empty_file plans.slots) fit.equipment some most none courses.equipment_met);
      overwritten =
          subst MakesRoomForPuts (sym courses.equipment_noted)
          (laws.used plans.equipment (empty_file plans.slots) fit.equipment some most none
          courses.equipment_met).puts;
    }

    set-up : KeepsSetup plans.equipment (Some []) notes
    set-up =
        subst (KeepsSetup plans.equipment (Some [])) (sym courses.equipment_noted)
        (laws.set_up plans.equipment (empty_file plans.slots) fit.equipment some most none courses.equipment_met).keeps

    pub notes-hold : NotesHold plans log
    notes-hold = record {
      reported =
          record { in_their_start = reports; over_all_starts = over-starts plans.equipment policy notes reports kept };
      sampled =
          sampled-log plans.equipment laws.running laws.few fit.equipment laws.tables (empty_file plans.slots)
          (none-sent [] refl) courses.equipment_met (timed_by Equipment log) courses.equipment_timed;
      kept = kept;
      left = leaves;
      set_up = record { kept = set-up; told = laws.told plans.equipment (Some []) notes set-up };
    }
