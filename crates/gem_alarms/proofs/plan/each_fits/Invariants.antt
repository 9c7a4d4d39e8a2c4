-- The alarms so far fit.

use Rattle.std.proofs.Common.{ℕ, ◌<◌, get_or}
use Rattle.gem_alarms.specs.declared.plan.AlarmPlan.{AlarmPlan}
use Rattle.gem_alarms.specs.Plan.{AlarmFits}
use Rattle.gem_alarms.proofs.plan.each_fits.Given as goal

abbrev pub invariant-loop-alarm : goal.invariant-loop-alarm
invariant-loop-alarm l = (k : ℕ) (d : AlarmPlan) → k < l.alarm-index → AlarmFits (get_or l.plan k d)
