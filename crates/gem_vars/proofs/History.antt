-- The tables after one entry more, and what they have of an identifier.
use Rattle.std.proofs.Common.{◌≡◌, refl, ◌∙◌, ap, ℕ, List, [], ◌∷◌}
use Rattle.std.specs.Option.{option_map}
use Rattle.gem_tables.proofs.Looking.{changed, looked_up, part_looked_up}
use Rattle.gem_vars.specs.declared.constant.Constant.{Constant}
use Rattle.gem_vars.specs.declared.plan.ConstantPlan.{ConstantPlan}
use Rattle.gem_vars.specs.declared.plan.VariablePlan.{VariablePlan}
use Rattle.gem_vars.specs.declared.plan.VarsPlan.{VarsPlan}
use Rattle.gem_vars.specs.declared.variable.Variable.{Variable}
use Rattle.gem_vars.specs.History.{VarsEntry, constant_after, constant_at, planned_constant, planned_variable, value_at, variable_after, vars_at, with_settings}
use Rattle.gem_vars.specs.History.VarsEntry.{SetConstant, SetValue}
use Rattle.gem_vars.specs.Laws.{after_entry}
use Rattle.gem_vars.specs.Plan.{VarsFit, all_constants}
use Rattle.gem_vars.specs.Tables.{constant_with, constant_in, constant_row_in, variable_with, value_in, with_constants}
use Rattle.gem_vars.proofs.Constants.{all_told_apart}

pub entry_after :
    (plan : VarsPlan) (past : List VarsEntry) (entry : VarsEntry) → VarsFit plan
    → after_entry (vars_at plan past) entry ≡ vars_at plan (entry ∷ past)
entry_after plan past (SetValue vid value) fits =
    ap (λ rows. record { variables = rows; constants = (vars_at plan past).constants })
    (changed (λ (p : VariablePlan). p.vid) (variable_after past) (variable_after (SetValue vid value ∷ past)) vid
    (variable_with value) (λ p same. rw same refl) (λ p other. rw other refl) plan.variables fits.variables.distinct)
entry_after plan past (SetConstant ecid value) fits =
    ap (λ rows. record { variables = (vars_at plan past).variables; constants = rows })
    (changed (λ (p : ConstantPlan). p.ecid) (constant_after past) (constant_after (SetConstant ecid value ∷ past)) ecid
    (constant_with value) (λ p same. rw same refl) (λ p other. rw other refl) (all_constants plan)
    (all_told_apart plan fits))

pub settings_after :
    (plan : VarsPlan) (past : List VarsEntry) (list : List (ℕ × ℕ)) → VarsFit plan
    → with_constants list (vars_at plan past) ≡ vars_at plan (with_settings list past)
settings_after plan past [] fits = refl
settings_after plan past (e ∷ list) fits =
    ap (with_constants list) (entry_after plan past (SetConstant e.0 e.1) fits)
    ∙ settings_after plan (SetConstant e.0 e.1 ∷ past) list fits

pub value_looked_up :
    (plan : VarsPlan) (past : List VarsEntry) (vid : ℕ)
    → value_in (vars_at plan past) vid ≡ option_map (value_at past) (planned_variable plan vid)
value_looked_up plan past vid =
    part_looked_up (λ (p : VariablePlan). p.vid) (variable_after past) (λ (v : Variable). v.value) plan.variables vid

pub constant_looked_up :
    (plan : VarsPlan) (past : List VarsEntry) (ecid : ℕ)
    → constant_in (vars_at plan past) ecid ≡ option_map (constant_at past) (planned_constant plan ecid)
constant_looked_up plan past ecid =
    part_looked_up (λ (p : ConstantPlan). p.ecid) (constant_after past) (λ (c : Constant). c.value) (all_constants plan)
    ecid

pub constant_row_looked_up :
    (plan : VarsPlan) (past : List VarsEntry) (ecid : ℕ)
    → constant_row_in (vars_at plan past) ecid ≡ option_map (constant_after past) (planned_constant plan ecid)
constant_row_looked_up plan past ecid =
    looked_up (λ (p : ConstantPlan). p.ecid) (constant_after past) (all_constants plan) ecid
