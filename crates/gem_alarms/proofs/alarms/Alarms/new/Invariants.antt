-- The alarms so far are put.

use Rattle.std.proofs.Common.{drop, []}
use Rattle.gem_tables.proofs.Putting.{ArePut}
use Rattle.gem_alarms.specs.declared.plan.AlarmPlan.{AlarmPlan}
use Rattle.gem_alarms.specs.History.{alarm_after, alarms_at}
use Rattle.gem_alarms.proofs.alarms.Alarms.new.Given as goal

abbrev pub invariant-loop-planned : goal.invariant-loop-planned
invariant-loop-planned l =
    ArePut (λ (p : AlarmPlan). p.alid) (alarm_after []) l.alarms.entries (drop l.planned-index l.plan)
    (alarms_at l.plan [])
