-- An ECID that stands again behind its constant decides; with none left all are distinct.

use Rattle.std.proofs.Common.{sym, ◌∙◌, ap, ℕ, get_or, nat_eq, arith}
use Rattle.std.specs.List.{list_any}
use Rattle.gl_base.proofs.Distinct.{all_distinct, fresh, not_distinct}
use Rattle.gem_vars.specs.declared.plan.ConstantPlan.{ConstantPlan}
use Rattle.gem_vars.specs.Plan.{has_ecid}
use Rattle.gem_vars.proofs.plan.ecids_are_distinct.Goals as goal

abbrev ecid_of : ConstantPlan → ℕ
ecid_of planned = planned.ecid

pub returns-then-has_constant : goal.returns-then-has_constant
returns-then-has_constant c =
    let p = c.index-plan-i.result in
    let is =
    c.has_constant.ensures
    ∙ ap (list_any (has_ecid (ecid_of (get_or c.args.plan.now c.loop-i.i p)))) c.split_at.ensures.back in
    not_distinct nat_eq ecid_of c.args.plan.now c.loop-i.i p c.has_constant.result (omega arith) is c.if-has_constant.true
    c.loop-i.invariant

pub loop-i-preserved : goal.loop-i-preserved
loop-i-preserved c =
    let p = c.index-plan-i.result in
    let is =
    c.has_constant.ensures
    ∙ ap (list_any (has_ecid (ecid_of (get_or c.args.plan.now c.loop-i.i p)))) c.split_at.ensures.back in
    fresh nat_eq ecid_of c.args.plan.now c.loop-i.i p _ (omega arith) (sym is ∙ c.if-has_constant.false) c.loop-i.invariant

pub returns : goal.returns
returns c = all_distinct nat_eq ecid_of c.args.plan.now c.loop-i.i (omega arith) c.loop-i.invariant
