-- What a remote command is answered, as a function of its parameters.
use Rattle.std.specs.Prelude.{◌==◌, ◌||◌, not, ℕ, Bool, List, [], length, filter, map, Option, Some, None, if◌then◌else◌}
use Rattle.std.specs.List.{filter_map, find, list_any}
use Rattle.std.specs.Option.{option_and_then, option_map}
use Rattle.secs_items.specs.declared.item.Item.{Item, out-Item}
use Rattle.secs_items.specs.Kinds.{code_of}
use Rattle.secs_items.specs.Layers.{items_of, kind_of}
use Rattle.gem_shapes.specs.Elements.{text, two}
use Rattle.gem_remote.specs.declared.plan.CommandPlan.{CommandPlan}
use Rattle.gem_remote.specs.declared.plan.ParamPlan.{ParamPlan}
use Rattle.gem_remote.specs.declared.plan.RemotePlan.{RemotePlan}
use Rattle.gem_remote.specs.declared.remote.Remoted.{Remoted}
use Rattle.gem_remote.specs.Commands.{Param, planned_answer, remoted_of}
use Rattle.gem_remote.specs.Plan.{has_cpname, has_name}
use Rattle.equipment_tables.specs.SameItems.{is_same_item}

abbrev pub param_of : Item × Item → Option Param
param_of pair = option_map (λ name. record { name = name; value = pair.1 }) (text pair.0)

-- the parameters that the second part of S2F41 lists
abbrev pub params_in : Item → List Param
params_in item = filter_map (λ one. option_and_then param_of (two one)) (items_of (out-Item item))

-- one of the plan's values, or any where the plan has none (this profile)
abbrev pub is_allowed : List Item → Item → Bool
is_allowed values value = (length values == 0) || list_any (is_same_item value) values

-- CPACK of a parameter that the plan has: 3 where its value is of another kind, else 2 where the value isn't allowed,
-- else 0 (SEMI E5, CPACK; the codes are this profile's)
abbrev pub planned_cpack : ParamPlan → Item → ℕ
planned_cpack plan value =
    if code_of (kind_of (out-Item value)) == code_of plan.kind then if is_allowed plan.values value then 0 else 2 else 3

-- 1 where the plan has no such parameter
abbrev pub cpack_for : Option ParamPlan → Item → ℕ
cpack_for None value = 1
cpack_for (Some plan) value = planned_cpack plan value

-- in a command the first parameter of a name counts (this profile)
abbrev pub cpack_of : List ParamPlan → Param → ℕ
cpack_of plans param = cpack_for (find (has_cpname param.name) plans) param.value

-- CPNAME and CPACK of each parameter that isn't right, in order (SEMI E5, S2F42)
abbrev pub refusals_of : List ParamPlan → List Param → List (List ℕ × ℕ)
refusals_of plans params =
    filter (λ refusal. not (refusal.1 == 0)) (map (λ param. (param.name, cpack_of plans param)) params)

-- HCACK 1 where the plan has no such command, else 3 where a parameter isn't right, else 4 where the command will be
-- carried out later, else 0 (SEMI E5, HCACK)
abbrev pub remoted_for : Option CommandPlan → List Param → Remoted
remoted_for None params = remoted_of 1 []
remoted_for (Some command) params = planned_answer command.later (refusals_of command.params params)

-- HCACK and the body of S2F42; HCACK is 2 where the equipment is in LOCAL, before all else (SEMI E5, S2F42; the order
-- is this profile's)
abbrev pub remoted_by : RemotePlan → Bool → List ℕ → List Param → Remoted
remoted_by plan is_local name params =
    if is_local then remoted_of 2 [] else remoted_for (find (has_name name) plan.commands) params
