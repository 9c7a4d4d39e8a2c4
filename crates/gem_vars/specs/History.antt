-- What the variables and constants are after a history, looked back for. The newest entry stands first.
use Rattle.std.specs.Prelude.{◌≡◌, ℕ, List, ◌∷◌, fold, nat_eq, Option, Some, None, if◌then◌else◌}
use Rattle.std.specs.List.{find}
use Rattle.secs_items.specs.declared.item.Item.{Item}
use Rattle.gem_tables.specs.History.{newest}
use Rattle.gem_tables.specs.Rows.{rows_of}
use Rattle.gem_vars.specs.declared.constant.Constant.{Constant}
use Rattle.gem_vars.specs.declared.plan.ConstantPlan.{ConstantPlan}
use Rattle.gem_vars.specs.declared.plan.VariablePlan.{VariablePlan}
use Rattle.gem_vars.specs.declared.plan.VarsPlan.{VarsPlan}
use Rattle.gem_vars.specs.declared.variable.Variable.{Variable}
use Rattle.gem_vars.specs.Plan.{all_constants, has_ecid, has_vid}
use Rattle.gem_vars.specs.Tables.{VarsTable}

-- an accepted setting of a variable by the tool, and one of a constant by S2F15; an accepted S2F15 counts as one for
-- each of its entries, in their order
pub data VarsEntry : Type 0 where
  SetValue : (vid : ℕ) (value : Item) → VarsEntry
  SetConstant : (ecid : ℕ) (value : ℕ) → VarsEntry

-- the value that an entry gives a variable, if any
abbrev pub value_from : ℕ → VarsEntry → Option Item
value_from vid (SetValue other value) = if nat_eq other vid then Some value else None
value_from vid (SetConstant ecid value) = None

-- the value that it gives a constant
abbrev pub constant_from : ℕ → VarsEntry → Option ℕ
constant_from ecid (SetValue vid value) = None
constant_from ecid (SetConstant other value) = if nat_eq other ecid then Some value else None

-- the value of a variable (SEMI E30, variable data)
abbrev pub value_at : List VarsEntry → VariablePlan → Item
value_at past planned = newest (value_from planned.vid) planned.value past

-- the value of a constant (SEMI E30, equipment constants)
abbrev pub constant_at : List VarsEntry → ConstantPlan → ℕ
constant_at past planned = newest (constant_from planned.ecid) planned.value past

abbrev pub variable_after : List VarsEntry → VariablePlan → Variable
variable_after past planned = record { name = planned.name; units = planned.units; value = value_at past planned }

abbrev pub constant_after : List VarsEntry → ConstantPlan → Constant
constant_after past planned = record {
  name = planned.name;
  units = planned.units;
  min = planned.min;
  max = planned.max;
  default = planned.value;
  value = constant_at past planned;
}

-- the tables after a history
abbrev pub vars_at : VarsPlan → List VarsEntry → VarsTable
vars_at plan past = record {
  variables = rows_of (λ planned. planned.vid) (variable_after past) plan.variables;
  constants = rows_of (λ planned. planned.ecid) (constant_after past) (all_constants plan);
}

-- the tables stand for the plan and a history
abbrev pub StandsFor : VarsTable → VarsPlan → List VarsEntry → Type 0
StandsFor table plan past = table ≡ vars_at plan past

-- the history with the settings of an S2F15
abbrev pub with_settings : List (ℕ × ℕ) → List VarsEntry → List VarsEntry
with_settings list past = fold (λ entries e. SetConstant e.0 e.1 ∷ entries) past list

abbrev pub planned_variable : VarsPlan → ℕ → Option VariablePlan
planned_variable plan vid = find (has_vid vid) plan.variables

abbrev pub planned_constant : VarsPlan → ℕ → Option ConstantPlan
planned_constant plan ecid = find (has_ecid ecid) (all_constants plan)
