-- Kept lists in examples that can be followed by hand: what the rule keeps, and that another rule tells something else.
use Rattle.std.specs.Prelude.{◌≡◌, not, List, [], ◌∷◌, filter}
use Rattle.secs_items.specs.declared.item.Item.TheVariants as item
use Rattle.gem_vars.specs.declared.plan.VariablePlan.{VariablePlan}
use Rattle.gem_vars.specs.declared.plan.VarsPlan.{VarsPlan}
use Rattle.trace_log.specs.Log.{Past}
use Rattle.setup_store.specs.Entries.{Entry}
use Rattle.setup_store.specs.Kept.{is_of, kept}
use Rattle.setup_store.specs.Worked.{constants, define, linked, ten}
use Rattle.equipment_tables.specs.declared.plan.EquipmentPlan.{EquipmentPlan}
use Rattle.equipment_tables.specs.Setup.{TellsTheSame, asked_of, kept_behind}

-- variable 1 alone, and no constants but those that are built in
abbrev pub one_variable : VariablePlan
one_variable = record { vid = 1; name = []; units = []; value = item.U1 (0 ∷ []) }

abbrev pub one_vars : VarsPlan
one_vars = record { variables = one_variable ∷ []; constants = []; built_in = 10 ∷ 1 ∷ 1 ∷ 0 ∷ [] }

-- a plan with them and event 1 alone
abbrev pub with_one : EquipmentPlan → EquipmentPlan
with_one plan = record plan { vars = one_vars; events = 1 ∷ [] }

-- the host defines report 10, of variable 1, and links it to event 1
abbrev pub linked_past : List Past
linked_past = asked_of linked ∷ asked_of ten ∷ []

-- and a second time, which is refused
abbrev pub defined_again : List Past
defined_again = asked_of ten ∷ linked_past

-- it sets constants 2 and 3, and then 3 alone
abbrev pub set_past : List Past
set_past = asked_of (constants ((3, 0) ∷ [])) ∷ asked_of (constants ((2, 0) ∷ (3, 1) ∷ [])) ∷ []

-- links are forgotten
abbrev pub forgets_links : List Entry → Entry → List Entry
forgets_links list primary = filter (λ old. not (is_of 2 35 old)) (kept list primary)

-- of each function the newest alone is kept
abbrev pub newest_alone : List Entry → Entry → List Entry
newest_alone list primary = kept (filter (λ old. not (is_of primary.stream primary.function old)) list) primary

pub record SetupsAreAsWorked : Type 0 where
  pub kept_so : (plan : EquipmentPlan) → kept_behind kept (with_one plan) [] linked_past ≡ ten ∷ linked ∷ []
  -- what is refused isn't kept
  pub kept_once : (plan : EquipmentPlan) → kept_behind kept (with_one plan) [] defined_again ≡ ten ∷ linked ∷ []
  -- a list that forgets S2F35 tells of no link
  pub forgotten : (plan : EquipmentPlan) → TellsTheSame forgets_links → ⊥
  -- one that keeps the newest S2F15 alone forgets a constant that it doesn't name
  pub alone : (plan : EquipmentPlan) → TellsTheSame newest_alone → ⊥
