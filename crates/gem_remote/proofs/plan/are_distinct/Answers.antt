-- A name that stands again behind its command decides; with none left all are distinct.

use Rattle.std.proofs.Common.{sym, ◌∙◌, ap, List, ℕ, get_or, arith}
use Rattle.std.specs.Prelude.{bytes_eq}
use Rattle.std.specs.List.{list_any}
use Rattle.gl_base.proofs.Distinct.{all_distinct, fresh, not_distinct}
use Rattle.gem_remote.specs.declared.plan.CommandPlan.{CommandPlan}
use Rattle.gem_remote.specs.Plan.{has_name}
use Rattle.gem_remote.proofs.plan.are_distinct.Goals as goal

abbrev name_of : CommandPlan → List ℕ
name_of command = command.name

pub returns-then-is_one_of : goal.returns-then-is_one_of
returns-then-is_one_of c =
    let d = c.index-commands-i.result in
    let is =
    c.is_one_of.ensures
    ∙ ap (λ (name : List ℕ). list_any (has_name name) c.split_at.result.1.now) c.as_slice.ensures
    ∙ ap (list_any (has_name (get_or c.args.commands.now c.loop-i.i d).name)) c.split_at.ensures.back in
    not_distinct bytes_eq name_of c.args.commands.now c.loop-i.i d c.is_one_of.result (omega arith) is
    c.if-is_one_of.true c.loop-i.invariant

pub loop-i-preserved : goal.loop-i-preserved
loop-i-preserved c =
    let d = c.index-commands-i.result in
    let is =
    c.is_one_of.ensures
    ∙ ap (λ (name : List ℕ). list_any (has_name name) c.split_at.result.1.now) c.as_slice.ensures
    ∙ ap (list_any (has_name (get_or c.args.commands.now c.loop-i.i d).name)) c.split_at.ensures.back in
    fresh bytes_eq name_of c.args.commands.now c.loop-i.i d _ (omega arith) (sym is ∙ c.if-is_one_of.false)
    c.loop-i.invariant

pub returns : goal.returns
returns c = all_distinct bytes_eq name_of c.args.commands.now c.loop-i.i (omega arith) c.loop-i.invariant
