-- A VID that stands again behind its variable decides; with none left all are distinct.

use Rattle.std.proofs.Common.{sym, ◌∙◌, ap, ℕ, get_or, nat_eq, arith}
use Rattle.std.specs.List.{list_any}
use Rattle.gl_base.proofs.Distinct.{all_distinct, fresh, not_distinct}
use Rattle.gem_vars.specs.declared.plan.VariablePlan.{VariablePlan}
use Rattle.gem_vars.specs.Plan.{has_vid}
use Rattle.gem_vars.proofs.plan.vids_are_distinct.Goals as goal

abbrev vid_of : VariablePlan → ℕ
vid_of planned = planned.vid

pub returns-then-has_variable : goal.returns-then-has_variable
returns-then-has_variable c =
    let p = c.index-plan-i.result in
    let is =
    c.has_variable.ensures
    ∙ ap (list_any (has_vid (vid_of (get_or c.args.plan.now c.loop-i.i p)))) c.split_at.ensures.back in
    not_distinct nat_eq vid_of c.args.plan.now c.loop-i.i p c.has_variable.result (omega arith) is c.if-has_variable.true
    c.loop-i.invariant

pub loop-i-preserved : goal.loop-i-preserved
loop-i-preserved c =
    let p = c.index-plan-i.result in
    let is =
    c.has_variable.ensures
    ∙ ap (list_any (has_vid (vid_of (get_or c.args.plan.now c.loop-i.i p)))) c.split_at.ensures.back in
    fresh nat_eq vid_of c.args.plan.now c.loop-i.i p _ (omega arith) (sym is ∙ c.if-has_variable.false) c.loop-i.invariant

pub returns : goal.returns
returns c = all_distinct nat_eq vid_of c.args.plan.now c.loop-i.i (omega arith) c.loop-i.invariant
