-- What holds of the variables and constants after every history.
use Rattle.std.specs.Prelude.{◌≡◌, ℕ, List, [], ◌∷◌, IsTrue, None, Some}
use Rattle.std.specs.Option.{option_map}
use Rattle.secs_items.specs.declared.item.Item.{Item}
use Rattle.gem_vars.specs.declared.plan.ConstantPlan.{ConstantPlan}
use Rattle.gem_vars.specs.declared.plan.VariablePlan.{VariablePlan}
use Rattle.gem_vars.specs.declared.plan.VarsPlan.{VarsPlan}
use Rattle.gem_vars.specs.History.{StandsFor, VarsEntry, constant_at, planned_constant, planned_variable, value_at, vars_at, with_settings}
use Rattle.gem_vars.specs.History.VarsEntry.{SetConstant, SetValue}
use Rattle.gem_vars.specs.Plan.{VarsFit}
use Rattle.gem_vars.specs.Settings.{entry_fault, is_within, refusal_of, same_kind, value_fits}
use Rattle.gem_vars.specs.Tables.{VarsTable, constant_in, value_in, with_constant, with_constants, with_value}

-- what an entry leaves
abbrev pub after_entry : VarsTable → VarsEntry → VarsTable
after_entry table (SetValue vid value) = with_value vid value table
after_entry table (SetConstant ecid value) = with_constant ecid value table

-- where the tables stand for a history, after one entry more, or after the settings of an S2F15, they stand for the
-- longer one; and what they have at an identifier is what is looked back for of the planned variable or constant
pub record VarsAreLookedBackFor : Type 0 where
  pub next :
      (table : VarsTable) (plan : VarsPlan) (past : List VarsEntry) (entry : VarsEntry) → VarsFit plan
      → StandsFor table plan past → StandsFor (after_entry table entry) plan (entry ∷ past)
  pub settings :
      (table : VarsTable) (plan : VarsPlan) (past : List VarsEntry) (list : List (ℕ × ℕ)) → VarsFit plan
      → StandsFor table plan past → StandsFor (with_constants list table) plan (with_settings list past)
  pub value :
      (table : VarsTable) (plan : VarsPlan) (past : List VarsEntry) (vid : ℕ) → StandsFor table plan past
      → value_in table vid ≡ option_map (value_at past) (planned_variable plan vid)
  pub constant :
      (table : VarsTable) (plan : VarsPlan) (past : List VarsEntry) (ecid : ℕ) → StandsFor table plan past
      → constant_in table ecid ≡ option_map (constant_at past) (planned_constant plan ecid)

-- an entry that isn't refused where the tables are so
abbrev pub IsAccepted : VarsTable → VarsEntry → Type 0
IsAccepted table (SetValue vid value) = refusal_of table vid value ≡ None
IsAccepted table (SetConstant ecid value) = entry_fault table (ecid, value) ≡ None

-- each entry was accepted after those before it
abbrev pub AreAccepted : VarsPlan → List VarsEntry → Type 0
AreAccepted plan [] = Unit {0}
AreAccepted plan (entry ∷ past) = IsAccepted (vars_at plan past) entry × AreAccepted plan past

-- the value has the planned kind, and fits
pub record IsAsPlanned (planned : VariablePlan) (value : Item) : Type 0 where
  pub kind : IsTrue (same_kind planned.value value)
  pub fits : IsTrue (value_fits value)

-- after accepted settings each variable has the planned kind and a value that fits, and each constant is in its range
pub record ValuesStayAsPlanned : Type 0 where
  pub variable :
      (plan : VarsPlan) (past : List VarsEntry) (vid : ℕ) (planned : VariablePlan) → VarsFit plan
      → AreAccepted plan past → planned_variable plan vid ≡ Some planned
      → IsAsPlanned planned (value_at past planned)
  pub constant :
      (plan : VarsPlan) (past : List VarsEntry) (ecid : ℕ) (planned : ConstantPlan) → VarsFit plan
      → AreAccepted plan past → planned_constant plan ecid ≡ Some planned
      → IsTrue (is_within planned.min planned.max (constant_at past planned))
