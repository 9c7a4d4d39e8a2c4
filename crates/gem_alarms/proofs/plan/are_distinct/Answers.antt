-- An ALID that stands again behind its alarm decides; with none left all are distinct.

use Rattle.std.proofs.Common.{sym, ◌∙◌, ap, ℕ, get_or, nat_eq, arith}
use Rattle.std.specs.List.{list_any}
use Rattle.gl_base.proofs.Distinct.{all_distinct, fresh, not_distinct}
use Rattle.gem_alarms.specs.declared.plan.AlarmPlan.{AlarmPlan}
use Rattle.gem_alarms.specs.Plan.{has_alid}
use Rattle.gem_alarms.proofs.plan.are_distinct.Goals as goal

abbrev alid_of : AlarmPlan → ℕ
alid_of planned = planned.alid

pub returns-then-is_one_of : goal.returns-then-is_one_of
returns-then-is_one_of c =
    let p = c.index-plan-i.result in
    let is =
    c.is_one_of.ensures ∙ ap (list_any (has_alid (get_or c.args.plan.now c.loop-i.i p).alid)) c.split_at.ensures.back in
    not_distinct nat_eq alid_of c.args.plan.now c.loop-i.i p c.is_one_of.result (omega arith) is
    c.if-is_one_of.true c.loop-i.invariant

pub loop-i-preserved : goal.loop-i-preserved
loop-i-preserved c =
    let p = c.index-plan-i.result in
    let is =
    c.is_one_of.ensures ∙ ap (list_any (has_alid (get_or c.args.plan.now c.loop-i.i p).alid)) c.split_at.ensures.back in
    fresh nat_eq alid_of c.args.plan.now c.loop-i.i p _ (omega arith) (sym is ∙ c.if-is_one_of.false) c.loop-i.invariant

pub returns : goal.returns
returns c = all_distinct nat_eq alid_of c.args.plan.now c.loop-i.i (omega arith) c.loop-i.invariant
