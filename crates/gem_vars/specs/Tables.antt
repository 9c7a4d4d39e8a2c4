-- The tables of variables and constants, what they have of an identifier, and what a setting leaves.
use Rattle.std.specs.Prelude.{ℕ, List, fold, nat_eq, Option}
use Rattle.std.specs.Map.{keys_of, lookup}
use Rattle.std.specs.Option.{option_map}
use Rattle.secs_items.specs.declared.item.Item.{Item}
use Rattle.gem_tables.specs.Rows.{with_row}
use Rattle.gem_vars.specs.declared.constant.Constant.{Constant}
use Rattle.gem_vars.specs.declared.variable.Variable.{Variable}

-- the variables with their VIDs and the constants with their ECIDs, each in the plan's order
pub record VarsTable : Type 0 where
  pub variables : List (ℕ × Variable)
  pub constants : List (ℕ × Constant)

abbrev pub vids_of : VarsTable → List ℕ
vids_of table = keys_of table.variables

abbrev pub ecids_of : VarsTable → List ℕ
ecids_of table = keys_of table.constants

abbrev pub variable_in : VarsTable → ℕ → Option Variable
variable_in table vid = lookup (nat_eq vid) table.variables

-- the value of a variable, where there is one with this VID
abbrev pub value_in : VarsTable → ℕ → Option Item
value_in table vid = option_map (λ variable. variable.value) (variable_in table vid)

abbrev pub constant_row_in : VarsTable → ℕ → Option Constant
constant_row_in table ecid = lookup (nat_eq ecid) table.constants

-- the value of a constant, where there is one with this ECID
abbrev pub constant_in : VarsTable → ℕ → Option ℕ
constant_in table ecid = option_map (λ constant. constant.value) (constant_row_in table ecid)

-- a variable, or a constant, with another value
abbrev pub variable_with : Item → Variable → Variable
variable_with value variable = record variable { value = value }

abbrev pub constant_with : ℕ → Constant → Constant
constant_with value constant = record constant { value = value }

abbrev pub with_value : ℕ → Item → VarsTable → VarsTable
with_value vid value table = record table { variables = with_row vid (variable_with value) table.variables }

abbrev pub with_constant : ℕ → ℕ → VarsTable → VarsTable
with_constant ecid value table = record table { constants = with_row ecid (constant_with value) table.constants }

-- each constant of the list set in turn (SEMI E5, S2F15)
abbrev pub with_constants : List (ℕ × ℕ) → VarsTable → VarsTable
with_constants list table = fold (λ t e. with_constant e.0 e.1 t) table list
