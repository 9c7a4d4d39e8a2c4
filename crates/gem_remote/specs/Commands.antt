-- What remote commands and texts for terminals are answered.
use Rattle.std.specs.Prelude.{◌≡◌, ◌≢◌, ◌⊎◌, ◌==◌, ℕ, Bool, true, false, List, [], ◌∷◌, ◌++◌, length, map, nat_le, Contains, Option, Some, None, if◌then◌else◌}
use Rattle.std.specs.List.{find, flat_map}
use Rattle.secs_items.specs.declared.item.Item.{Item, out-Item}
use Rattle.secs_items.specs.declared.item.Item.TheVariants as item
use Rattle.secs_items.specs.Layers.{kind_of}
use Rattle.secs_items.specs.Measures.{capped}
use Rattle.secs_items.specs.Spelling.{shortest_spelling}
use Rattle.gem_shapes.specs.Answers.{code_item, pair_item}
use Rattle.gem_remote.specs.declared.plan.CommandPlan.{CommandPlan}
use Rattle.gem_remote.specs.declared.plan.ParamPlan.{ParamPlan}
use Rattle.gem_remote.specs.declared.plan.RemotePlan.{RemotePlan}
use Rattle.gem_remote.specs.declared.remote.Ackc10.{Ackc10}
use Rattle.gem_remote.specs.declared.remote.Ackc10.TheVariants.{Accepted, NoTerminal}
use Rattle.gem_remote.specs.declared.remote.Remoted.{Remoted}
use Rattle.gem_remote.specs.Plan.{has_cpname, has_name}

-- a parameter as it comes: CPNAME and CPVAL (SEMI E5, S2F41)
pub record Param : Type 0 where
  pub name : List ℕ
  pub value : Item

abbrev pub param_item : Param → Item
param_item param = pair_item (item.A param.name) param.value

-- the second part of S2F41 (SEMI E5, S2F41)
abbrev pub params_item : List Param → Item
params_item params = item.L (map param_item params)

-- one of the plan's values, or any where the plan has none (this profile)
abbrev pub IsAllowed : List Item → Item → Type 0
IsAllowed values value = (values ≡ []) ⊎ Contains values value

-- CPACK of a parameter that the plan has: 3 where its value is of another kind, else 2 where the value isn't allowed,
-- else 0 (SEMI E5, CPACK; the codes are this profile's)
pub record IsWrongKind (plan : ParamPlan) (value : Item) : Type 0 where
  pub other : kind_of (out-Item value) ≢ plan.kind

pub record IsWrongValue (plan : ParamPlan) (value : Item) : Type 0 where
  pub same : kind_of (out-Item value) ≡ plan.kind
  pub outside : IsAllowed plan.values value → ⊥

pub record IsRight (plan : ParamPlan) (value : Item) : Type 0 where
  pub same : kind_of (out-Item value) ≡ plan.kind
  pub inside : IsAllowed plan.values value

abbrev pub IsCpackOf : ParamPlan → Item → ℕ → Type 0
IsCpackOf plan value cpack =
    ((cpack ≡ 3) × IsWrongKind plan value) ⊎ ((cpack ≡ 2) × IsWrongValue plan value)
    ⊎ ((cpack ≡ 0) × IsRight plan value)

-- 1 where the plan has no such parameter
abbrev pub IsCpackFor : Option ParamPlan → Item → ℕ → Type 0
IsCpackFor None value cpack = cpack ≡ 1
IsCpackFor (Some plan) value cpack = IsCpackOf plan value cpack

-- a parameter's CPACK by the plan of its command, in which the first of its name counts (this profile)
abbrev pub IsCpack : List ParamPlan → Param → ℕ → Type 0
IsCpack plans param cpack = IsCpackFor (find (has_cpname param.name) plans) param.value cpack

-- CPNAME and CPACK of each parameter that isn't right, in order (SEMI E5, S2F42)
abbrev pub AreRefusals : List ParamPlan → List Param → List (List ℕ × ℕ) → Type 0
AreRefusals plans [] refusals = refusals ≡ []
AreRefusals plans (param ∷ params) refusals =
    (cpack : ℕ) × (others : List (List ℕ × ℕ)) × IsCpack plans param cpack × AreRefusals plans params others
    × (refusals ≡ (if cpack == 0 then others else (param.name, cpack) ∷ others))

abbrev pub refusal_item : List ℕ × ℕ → Item
refusal_item refusal = pair_item (item.A refusal.0) (code_item refusal.1)

-- HCACK, and the body of S2F42 (SEMI E5, S2F42)
abbrev pub remoted_with : ℕ → List Item → Remoted
remoted_with hcack items = record { hcack = hcack; reply = pair_item (code_item hcack) (item.L items) }

abbrev pub remoted_of : ℕ → List (List ℕ × ℕ) → Remoted
remoted_of hcack refusals = remoted_with hcack (map refusal_item refusals)

-- the items of all refusals
abbrev pub HasRefusals : List ParamPlan → List Param → List Item → Type 0
HasRefusals plans params items =
    (refusals : List (List ℕ × ℕ)) × AreRefusals plans params refusals × (items ≡ map refusal_item refusals)

-- the item of a parameter's refusal, or none where it is right
abbrev pub refusal_items : Param → ℕ → List Item
refusal_items param cpack = if cpack == 0 then [] else refusal_item (param.name, cpack) ∷ []

-- these were put behind what was there
abbrev pub PutsRefusal : List ParamPlan → Param → List Item → List Item → Type 0
PutsRefusal plans param old new =
    (cpack : ℕ) × IsCpack plans param cpack × (new ≡ old ++ refusal_items param cpack)

-- how many items there are, and how many bytes they have together
abbrev pub IsSizeOf : List Item → ℕ × ℕ → Type 0
IsSizeOf items size = (size.0 ≡ length items) × (size.1 ≡ capped (length (flat_map shortest_spelling items)))

-- of a parameter's refusal, if it has one
abbrev pub HasRefusalSize : List ParamPlan → Param → ℕ × ℕ → Type 0
HasRefusalSize plans param size =
    (cpack : ℕ) × IsCpack plans param cpack × (size.0 ≡ (if cpack == 0 then 0 else 1))
    × (size.1 ≡ (if cpack == 0 then 0 else capped (length (shortest_spelling (refusal_item (param.name, cpack))))))

-- 3 where a parameter isn't right, else 4 where the command will be carried out later, else 0 (SEMI E5, HCACK)
abbrev pub planned_answer : Bool → List (List ℕ × ℕ) → Remoted
planned_answer later [] = remoted_of (if later then 4 else 0) []
planned_answer later (refusal ∷ refusals) = remoted_of 3 (refusal ∷ refusals)

-- 1 where the plan has no such command
abbrev pub AnswersFor : Option CommandPlan → List Param → Remoted → Type 0
AnswersFor None params answer = answer ≡ remoted_of 1 []
AnswersFor (Some command) params answer =
    (refusals : List (List ℕ × ℕ)) × AreRefusals command.params params refusals
    × (answer ≡ planned_answer command.later refusals)

-- 2 where the equipment is in LOCAL, before all else (SEMI E5, HCACK; the order is this profile's)
abbrev pub Answers : RemotePlan → Bool → List ℕ → List Param → Remoted → Type 0
Answers plan true name params answer = answer ≡ remoted_of 2 []
Answers plan false name params answer = AnswersFor (find (has_name name) plan.commands) params answer

-- a text for a terminal that isn't there (SEMI E5, ACKC10)
abbrev pub ackc10_of : RemotePlan → ℕ → Ackc10
ackc10_of plan tid = if nat_le plan.terminals tid then NoTerminal else Accepted
