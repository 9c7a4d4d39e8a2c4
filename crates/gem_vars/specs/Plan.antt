-- The variables and constants of the plan, and the constants that every plan has.
use Rattle.std.specs.Prelude.{◌≤◌, ◌-◌, ◌^◌, ℕ, List, [], ◌∷◌, ◌++◌, codes, get_or, length, map, nat_eq, Bool, All, IsTrue}
use Rattle.std.specs.List.{IsDistinct, list_all}
use Rattle.gem_vars.specs.declared.plan.ConstantPlan.{ConstantPlan}
use Rattle.gem_vars.specs.declared.plan.VariablePlan.{VariablePlan}
use Rattle.gem_vars.specs.declared.plan.VarsPlan.{VarsPlan}
use Rattle.gem_vars.specs.Settings.{is_within, value_fits}

abbrev pub has_vid : ℕ → VariablePlan → Bool
has_vid vid variable = nat_eq vid variable.vid

abbrev pub has_ecid : ℕ → ConstantPlan → Bool
has_ecid ecid constant = nat_eq ecid constant.ecid

abbrev pub VariableFits : VariablePlan → Type 0
VariableFits variable = IsTrue (value_fits variable.value)

-- the value lies within the constant's range
abbrev pub is_in_range : ConstantPlan → Bool
is_in_range constant = is_within constant.min constant.max constant.value

-- ECIDs below 100 are kept for constants that every plan has (this profile)
pub record ConstantFits (constant : ConstantPlan) : Type 0 where
  pub own : 100 ≤ constant.ecid
  pub range : IsTrue (is_in_range constant)

-- a constant that every plan has, with the plan's value
abbrev pub built_in : ℕ → List ℕ → List ℕ → ℕ → ℕ → ℕ → ConstantPlan
built_in ecid name units min max value =
    record { ecid = ecid; name = name; units = units; min = min; max = max; value = value }

-- The constants that every plan has, with the plan's values (SEMI E30; the name EnableSpool is this profile's).
abbrev pub built_in_constants : List ℕ → List ConstantPlan
built_in_constants values =
    built_in 1 (codes "EstablishCommunicationsTimeout") (codes "s") 1 120 (get_or values 0 0)
    ∷ built_in 2 (codes "EnableSpool") [] 0 1 (get_or values 1 0)
    ∷ built_in 3 (codes "OverWriteSpool") [] 0 1 (get_or values 2 0)
    ∷ built_in 4 (codes "MaxSpoolTransmit") [] 0 (2 ^ 32 - 1) (get_or values 3 0)
    ∷ []

-- first those, then the plan's own
abbrev pub all_constants : VarsPlan → List ConstantPlan
all_constants plan = built_in_constants plan.built_in ++ plan.constants

abbrev pub planned_vids : List VariablePlan → List ℕ
planned_vids plan = map (λ variable. variable.vid) plan

abbrev pub planned_ecids : List ConstantPlan → List ℕ
planned_ecids plan = map (λ constant. constant.ecid) plan

-- at most 1,024 variables (this profile), each with a VID of its own (SEMI E5, VID)
pub record VariablesFit (plan : List VariablePlan) : Type 0 where
  pub few : length plan ≤ 1024
  pub each : All VariableFits plan
  pub distinct : IsDistinct nat_eq (planned_vids plan)

-- at most 256 constants of the plan's own (this profile), each with an ECID of its own (SEMI E5, ECID)
pub record ConstantsFit (plan : List ConstantPlan) : Type 0 where
  pub few : length plan ≤ 256
  pub each : All ConstantFits plan
  pub distinct : IsDistinct nat_eq (planned_ecids plan)

pub record VarsFit (plan : VarsPlan) : Type 0 where
  pub variables : VariablesFit plan.variables
  pub constants : ConstantsFit plan.constants
  pub built_in : IsTrue (list_all is_in_range (built_in_constants plan.built_in))
