-- One constant more is put as the plan has it.

use Rattle.std.proofs.Common.{◌≡◌, ◌∙◌, ap, ℕ, List, [], ◌++◌, get_or, arith, nat_eq}
use Rattle.indexmap.specs.IndexMap.{insert_entry}
use Rattle.gem_tables.specs.Rows.{rows_of}
use Rattle.gem_tables.proofs.Putting.{put_more}
use Rattle.gem_vars.specs.declared.constant.Constant.{Constant}
use Rattle.gem_vars.specs.declared.plan.ConstantPlan.{ConstantPlan}
use Rattle.gem_vars.specs.History.{constant_after}
use Rattle.gem_vars.proofs.vars.put_constants.Goals as goal

abbrev constant_of : ConstantPlan → List ℕ → List ℕ → Constant
constant_of p name units =
    record { name = name; units = units; min = p.min; max = p.max; default = p.value; value = p.value }

pub loop-planned-preserved : goal.loop-planned-preserved
loop-planned-preserved c =
    let p = c.planned-item.result in
    let i = c.loop-planned.planned-index in
    let rows = c.loop-planned.constants.entries in
    let name = c.in_ok-of.ensures ∙ c.as_slice.ensures in
    let units = c.in_ok-of-2.ensures ∙ c.as_slice-in-loop-planned.ensures in
    let constant = constant_of p c.in_ok-of.field-0 c.in_ok-of-2.field-0 in
    let is : constant ≡ constant_after [] (get_or c.args.plan.now i p) =
    ap (λ (t : List ℕ). constant_of p t c.in_ok-of-2.field-0) name ∙ ap (constant_of p p.name) units
    ∙ ap (constant_after []) c.planned-item.is in
    put_more (λ (x : ConstantPlan). x.ecid) (constant_after []) c.args.plan.now i p constant rows
    c.insert.new.self.entries
    (c.args.constants.now.entries ++ rows_of (λ (x : ConstantPlan). x.ecid) (constant_after []) c.args.plan.now)
    (omega arith) is
    (c.in_ok-insert.ensures.entries
    ∙ ap (λ (q : ConstantPlan). insert_entry nat_eq rows q.ecid constant) c.planned-item.is)
    c.loop-planned.invariant
