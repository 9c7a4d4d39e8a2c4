-- Which of the calls to come of a disk in memory fail (this profile).
use Rattle.std.specs.Prelude.{◌-◌, ◌==◌, Bool, false, not, ◌&&◌, ◌||◌, if◌then◌else◌}
use Rattle.disk_base.specs.declared.disk.DiskAnswer.{DiskAnswer}
use Rattle.disk_base.specs.declared.disk.DiskAnswer.TheVariants.{Done, Failed}
use Rattle.disk_base.specs.declared.fault_plan.FaultPlan.{FaultPlan}

-- none fails
abbrev pub no_faults : FaultPlan
no_faults = record { fail_in = 0; stop_in = 0; stopped = false }

-- whether the disk is to stop at the next call
abbrev pub stops_next : FaultPlan → Bool
stops_next plan = not plan.stopped && plan.stop_in == 1

-- what the next call answers
abbrev pub next_answer : FaultPlan → DiskAnswer
next_answer plan = if plan.stopped || (plan.fail_in == 1 || plan.stop_in == 1) then Failed else Done

-- the plan behind the next call, where that is made
abbrev pub next_plan : FaultPlan → FaultPlan
next_plan plan = record {
  fail_in = plan.fail_in - 1;
  stop_in = plan.stop_in - 1;
  stopped = plan.stopped || plan.stop_in == 1;
}

-- and where it is refused: the stop waits for calls that are made
abbrev pub refused_plan : FaultPlan → FaultPlan
refused_plan plan = record { fail_in = plan.fail_in - 1; stop_in = plan.stop_in; stopped = plan.stopped }
