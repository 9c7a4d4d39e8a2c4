-- The ranges of the line's parameters.
use Rattle.std.specs.Prelude.{◌<◌, ◌≤◌}
use Rattle.line_end.specs.declared.plan.HostPlan.{HostPlan}
use Rattle.line_end.specs.declared.plan.LinePlan.{LinePlan}
use Rattle.line_end.specs.declared.plan.Times.{Times}

-- T1 from 0.1 to 10 seconds, T2 from 0.2 to 25 seconds, RTY from 0 to 31 (SEMI E4, parameters)
pub record TimesFit (times : Times) : Type 0 where
  pub t1_at_least : 100 ≤ times.t1
  pub t1_at_most : times.t1 ≤ 10000
  pub t2_at_least : 200 ≤ times.t2
  pub t2_at_most : times.t2 ≤ 25000
  pub rty_at_most : times.rty ≤ 31

-- the device has 15 bits, T3 and T4 are from 1 to 120 seconds (SEMI E4, parameters); a message's text has from 244 to
-- 7,995,148 bytes at most, one block to 32,767 blocks (this profile)
pub record LinePlanFits (plan : LinePlan) : Type 0 where
  pub device : plan.device < 32768
  pub times : TimesFit plan.times
  pub t3_at_least : 1000 ≤ plan.t3
  pub t3_at_most : plan.t3 ≤ 120000
  pub t4_at_least : 1000 ≤ plan.t4
  pub t4_at_most : plan.t4 ≤ 120000
  pub max_body_at_least : 244 ≤ plan.max_body
  pub max_body_at_most : plan.max_body ≤ 7995148

-- the host's line is within its ranges (this profile)
pub record HostPlanFits (plan : HostPlan) : Type 0 where
  pub line : LinePlanFits plan.line
