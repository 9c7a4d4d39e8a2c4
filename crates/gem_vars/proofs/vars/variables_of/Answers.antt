-- One variable more is put as the plan has it.

use Rattle.std.proofs.Common.{◌≡◌, ◌∙◌, ap, ℕ, List, [], get_or, arith, nat_eq}
use Rattle.indexmap.specs.IndexMap.{insert_entry}
use Rattle.secs_items.specs.declared.item.Item.{Item}
use Rattle.gem_tables.specs.Rows.{rows_of}
use Rattle.gem_tables.proofs.Putting.{put_more}
use Rattle.gem_vars.specs.declared.plan.VariablePlan.{VariablePlan}
use Rattle.gem_vars.specs.declared.variable.Variable.{Variable}
use Rattle.gem_vars.specs.History.{variable_after}
use Rattle.gem_vars.proofs.vars.variables_of.Goals as goal

abbrev variable_of : List ℕ → List ℕ → Item → Variable
variable_of name units value = record { name = name; units = units; value = value }

pub loop-planned-preserved : goal.loop-planned-preserved
loop-planned-preserved c =
    let p = c.planned-item.result in
    let i = c.loop-planned.planned-index in
    let rows = c.loop-planned.variables.entries in
    let name = c.in_ok-of.ensures ∙ c.as_slice.ensures in
    let units = c.in_ok-of-2.ensures ∙ c.as_slice-in-loop-planned.ensures in
    let variable = variable_of c.in_ok-of.field-0 c.in_ok-of-2.field-0 c.in_ok-copy.field-0 in
    let is : variable ≡ variable_after [] (get_or c.args.plan.now i p) =
    ap (λ (t : List ℕ). variable_of t c.in_ok-of-2.field-0 c.in_ok-copy.field-0) name
    ∙ ap (λ (t : List ℕ). variable_of p.name t c.in_ok-copy.field-0) units
    ∙ ap (variable_of p.name p.units) c.in_ok-copy.ensures
    ∙ ap (variable_after []) c.planned-item.is in
    put_more (λ (x : VariablePlan). x.vid) (variable_after []) c.args.plan.now i p variable rows
    c.insert.new.self.entries (rows_of (λ (x : VariablePlan). x.vid) (variable_after []) c.args.plan.now)
    (omega arith) is
    (c.in_ok-insert.ensures.entries
    ∙ ap (λ (q : VariablePlan). insert_entry nat_eq rows q.vid variable) c.planned-item.is)
    c.loop-planned.invariant
