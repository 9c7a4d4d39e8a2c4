-- The answer to a remote command as a function is the one that it must have.
use Rattle.std.proofs.Common.{◌≡◌, refl, sym, ◌∙◌, ap, ℕ, Bool, true, false, cond, not, ◌||◌, ◌==◌, ◌≤◌, List, [], ◌∷◌, length, map, Option, Some, None, Result, Ok, Err, inl, inr, arith}
use Rattle.std.specs.Prelude.{IfOk, nat_lt}
use Rattle.std.proofs.lemmas.Bool.{eqb-true}
use Rattle.std.proofs.lemmas.Bool.Decides.{nat_tests}
use Rattle.std.proofs.lemmas.Map.Views.{Contains-from_any, list_any-from_Contains}
use Rattle.std.specs.Bool.{Decides, one_answer}
use Rattle.std.specs.Cmp.{IsEquivalence}
use Rattle.std.specs.List.{filter_map, find, list_any}
use Rattle.std.specs.Option.{option_and_then, option_map}
use Rattle.secs_items.specs.declared.item.Item.{Item, out-Item}
use Rattle.secs_items.specs.declared.item.Item.TheOpen.{Item-F}
use Rattle.secs_items.specs.declared.item.Item.TheVariants as item
use Rattle.secs_items.specs.declared.item.Item.TheVariants.{rolls-A, rolls-L}
use Rattle.secs_items.specs.declared.item.Item.TheViews.{out-roll-Item}
use Rattle.secs_items.specs.Kinds.{code_of}
use Rattle.secs_items.specs.Layers.{items_of, kind_of}
use Rattle.secs_items.specs.Measures.{capped}
use Rattle.secs_items.specs.Spelling.{shortest_spelling}
use Rattle.secs_items.proofs.SpelledLengths.{length-byte, length-list, together-cons}
use Rattle.gem_remote.specs.declared.plan.CommandPlan.{CommandPlan}
use Rattle.gem_remote.specs.declared.plan.ParamPlan.{ParamPlan}
use Rattle.gem_remote.specs.declared.plan.RemotePlan.{RemotePlan}
use Rattle.gem_remote.specs.declared.remote.Remoted.{Remoted}
use Rattle.gem_remote.specs.Commands.{Answers, AnswersFor, AreRefusals, IsAllowed, IsCpackFor, IsCpackOf, Param, param_item, params_item, planned_answer, remoted_of}
use Rattle.gem_remote.specs.Plan.{has_cpname, has_name}
use Rattle.gem_shapes.specs.Answers.{code_item}
use Rattle.gem_shapes.specs.Elements.{list_of, text_of, two, two_of}
use Rattle.equipment_tables.specs.Answers.{carried_lines, is_accepted}
use Rattle.equipment_tables.specs.RemoteAnswers.{cpack_for, cpack_of, is_allowed, param_of, params_in, planned_cpack, refusals_of, remoted_by, remoted_for}
use Rattle.equipment_tables.specs.SameItems.{is_same_item}
use Rattle.equipment_tables.proofs.SameItems.{same_kind, tells}

-- ---- values

equal_items : (i j : Item) → is_same_item i j ≡ true → i ≡ j
equal_items i j = (tells i j).0

turned : (i j : Item) → Decides (is_same_item j i) (i ≡ j)
turned i j = (λ is. sym ((tells j i).0 is), λ is. (tells j i).1 (sym is))

items_equivalence : IsEquivalence is_same_item
items_equivalence = record {
  refl = λ i. (tells i i).1 refl;
  symm = λ i j. one_answer (is_same_item i j) (is_same_item j i) (tells i j) (turned i j);
  congr = λ i j k is. ap (λ (l : Item). is_same_item l k) (equal_items i j is);
}

no_values : (values : List Item) → (length values == 0) ≡ true → values ≡ []
no_values [] none = refl
no_values (v ∷ values) none = absurd (omega (arith, eqb-true (length (v ∷ values)) 0 none))

allowed_tells : (values : List Item) (value : Item) → Decides (is_allowed values value) (IsAllowed values value)
allowed_tells values value = (allowed (length values == 0) refl, passes)
  where
    allowed : (b : Bool) → (length values == 0) ≡ b → (b || list_any (is_same_item value) values) ≡ true
        → IsAllowed values value
    allowed true none is = inl (no_values values none)
    allowed false some is = inr (Contains-from_any equal_items value values is)

    or_true : (b c : Bool) → c ≡ true → (b || c) ≡ true
    or_true true c is = refl
    or_true false c is = is

    passes : IsAllowed values value → is_allowed values value ≡ true
    passes (inl none) = ap (λ vs. (length vs == 0) || list_any (is_same_item value) vs) none
    passes (inr some) =
        or_true (length values == 0) (list_any (is_same_item value) values)
        (list_any-from_Contains items_equivalence value values some)

-- ---- CPACK

abbrev cpack_by : Bool → Bool → ℕ
cpack_by same allowed = cond same (cond allowed 0 2) 3

code_itself : (n : ℕ) → (n == n) ≡ true
code_itself n = grind (arith)

kinds_tell :
    (plan : ParamPlan) (value : Item)
    → Decides (code_of (kind_of (out-Item value)) == code_of plan.kind) (kind_of (out-Item value) ≡ plan.kind)
kinds_tell plan value = (
  same_kind (kind_of (out-Item value)) plan.kind,
  λ same. ap (λ k. code_of (kind_of (out-Item value)) == code_of k) (sym same)
      ∙ code_itself (code_of (kind_of (out-Item value))),
)

false_true : (b : Bool) → b ≡ false → b ≡ true → ⊥
false_true b one other = absurd (cc)

is_cpack : (plan : ParamPlan) (value : Item) → IsCpackOf plan value (planned_cpack plan value)
is_cpack plan value =
    go (code_of (kind_of (out-Item value)) == code_of plan.kind) refl (is_allowed plan.values value) refl
  where
    kinds : Decides (code_of (kind_of (out-Item value)) == code_of plan.kind) (kind_of (out-Item value) ≡ plan.kind)
    kinds = kinds_tell plan value

    values : Decides (is_allowed plan.values value) (IsAllowed plan.values value)
    values = allowed_tells plan.values value

    go : (b : Bool) → (code_of (kind_of (out-Item value)) == code_of plan.kind) ≡ b
        → (c : Bool) → is_allowed plan.values value ≡ c → IsCpackOf plan value (cpack_by b c)
    go false other c allowed = inl (refl, record { other = λ same. false_true _ other (kinds.1 same) })
    go true same false outside =
        inr (inl (refl, record { same = kinds.0 same; outside = λ inside. false_true _ outside (values.1 inside) }))
    go true same true inside = inr (inr (refl, record { same = kinds.0 same; inside = values.0 inside }))

one_cpack_of : (plan : ParamPlan) (value : Item) (a b : ℕ) → IsCpackOf plan value a → IsCpackOf plan value b → a ≡ b
one_cpack_of plan value a b (inl x) (inl y) = x.0 ∙ sym y.0
one_cpack_of plan value a b (inl x) (inr (inl y)) = absurd (x.1.other y.1.same)
one_cpack_of plan value a b (inl x) (inr (inr y)) = absurd (x.1.other y.1.same)
one_cpack_of plan value a b (inr (inl x)) (inl y) = absurd (y.1.other x.1.same)
one_cpack_of plan value a b (inr (inl x)) (inr (inl y)) = x.0 ∙ sym y.0
one_cpack_of plan value a b (inr (inl x)) (inr (inr y)) = absurd (x.1.outside y.1.inside)
one_cpack_of plan value a b (inr (inr x)) (inl y) = absurd (y.1.other x.1.same)
one_cpack_of plan value a b (inr (inr x)) (inr (inl y)) = absurd (y.1.outside x.1.inside)
one_cpack_of plan value a b (inr (inr x)) (inr (inr y)) = x.0 ∙ sym y.0

is_cpack_for : (plan : Option ParamPlan) (value : Item) → IsCpackFor plan value (cpack_for plan value)
is_cpack_for None value = refl
is_cpack_for (Some plan) value = is_cpack plan value

one_cpack : (plan : Option ParamPlan) (value : Item) (n : ℕ) → IsCpackFor plan value n → n ≡ cpack_for plan value
one_cpack None value n is = is
one_cpack (Some plan) value n is = one_cpack_of plan value n (planned_cpack plan value) is (is_cpack plan value)

-- ---- refusals

refused :
    (b : Bool) (refusal : List ℕ × ℕ) (others : List (List ℕ × ℕ))
    → cond b others (refusal ∷ others) ≡ cond (not b) (refusal ∷ others) others
refused true refusal others = refl
refused false refusal others = refl

are_refusals : (plans : List ParamPlan) (params : List Param) → AreRefusals plans params (refusals_of plans params)
are_refusals plans [] = refl
are_refusals plans (p ∷ params) = (
  cpack_of plans p,
  refusals_of plans params,
  is_cpack_for (find (has_cpname p.name) plans) p.value,
  are_refusals plans params,
  sym (refused (cpack_of plans p == 0) (p.name, cpack_of plans p) (refusals_of plans params)),
)

one_refusals :
    (plans : List ParamPlan) (params : List Param) (refusals : List (List ℕ × ℕ))
    → AreRefusals plans params refusals → refusals ≡ refusals_of plans params
one_refusals plans [] refusals are = are
one_refusals plans (p ∷ params) refusals are =
    let code = one_cpack (find (has_cpname p.name) plans) p.value are.0 are.2 in
    let others = one_refusals plans params are.1 are.3 in
    are.4
    ∙ ap (λ (n : ℕ). cond (n == 0) are.1 ((p.name, n) ∷ are.1)) code
    ∙ ap (λ (rest : List (List ℕ × ℕ)). cond (cpack_of plans p == 0) rest ((p.name, cpack_of plans p) ∷ rest)) others
    ∙ refused (cpack_of plans p == 0) (p.name, cpack_of plans p) (refusals_of plans params)

-- ---- answers

answers_for :
    (command : Option CommandPlan) (params : List Param) → AnswersFor command params (remoted_for command params)
answers_for None params = refl
answers_for (Some command) params =
    (refusals_of command.params params, are_refusals command.params params, refl)

one_for :
    (command : Option CommandPlan) (params : List Param) (answer : Remoted) → AnswersFor command params answer
    → answer ≡ remoted_for command params
one_for None params answer is = is
one_for (Some command) params answer is =
    is.2 ∙ ap (planned_answer command.later) (one_refusals command.params params is.0 is.1)

pub answers_so :
    (plan : RemotePlan) (is_local : Bool) (name : List ℕ) (params : List Param)
    → Answers plan is_local name params (remoted_by plan is_local name params)
answers_so plan true name params = refl
answers_so plan false name params = answers_for (find (has_name name) plan.commands) params

pub one_answered :
    (plan : RemotePlan) (is_local : Bool) (name : List ℕ) (params : List Param) (answer : Remoted)
    → Answers plan is_local name params answer → answer ≡ remoted_by plan is_local name params
one_answered plan true name params answer is = is
one_answered plan false name params answer is = one_for (find (has_name name) plan.commands) params answer is

-- ---- parameters in an item

opened_L : (items : List Item) → out-Item (item.L items) ≡ Item-F.L items
opened_L items = ap out-Item (sym (rolls-L items)) ∙ out-roll-Item (Item-F.L items)

opened_A : (characters : List ℕ) → out-Item (item.A characters) ≡ Item-F.A characters
opened_A characters = ap out-Item (sym (rolls-A characters)) ∙ out-roll-Item (Item-F.A characters)

one_param : (p : Param) → option_and_then param_of (two (param_item p)) ≡ Some p
one_param p =
    ap (λ x. option_and_then param_of (option_and_then two_of (list_of x))) (opened_L (item.A p.name ∷ p.value ∷ []))
    ∙ ap (λ x. option_map (λ (name : List ℕ). record { name = name; value = p.value }) (text_of x)) (opened_A p.name)

each_param :
    (params : List Param)
    → filter_map (λ one. option_and_then param_of (two one)) (map param_item params) ≡ params
each_param [] = refl
each_param (p ∷ params) =
    rw (one_param p) (ap (λ ps. p ∷ ps) (each_param params))

pub params_again : (params : List Param) → params_in (params_item params) ≡ params
params_again params =
    ap (λ x. filter_map (λ one. option_and_then param_of (two one)) (items_of x)) (opened_L (map param_item params))
    ∙ each_param params

-- the answer that was given, and its length, by the item
pub item_answered :
    {E : Type 0} (plan : RemotePlan) (is_local : Bool) (name : List ℕ) (i : Item) (all : List Param)
    → i ≡ params_item all → (r : Result Remoted E) → IfOk r (λ answer. Answers plan is_local name all answer)
    → IfOk r (λ answer. answer ≡ remoted_by plan is_local name (params_in i))
item_answered plan is_local name i all is (Err e) given = tt
item_answered plan is_local name i all is (Ok answer) given =
    one_answered plan is_local name all answer given
    ∙ ap (remoted_by plan is_local name) (sym (ap params_in is ∙ params_again all))

pub item_measured :
    {E : Type 0} (plan : RemotePlan) (is_local : Bool) (name : List ℕ) (i : Item) (all : List Param)
    → i ≡ params_item all → (r : Result ℕ E)
    → IfOk r (λ len. len ≡ capped (length (shortest_spelling (remoted_by plan is_local name all).reply)))
    → IfOk r (λ len. len ≡ capped (length (shortest_spelling (remoted_by plan is_local name (params_in i)).reply)))
item_measured plan is_local name i all is (Err e) given = tt
item_measured plan is_local name i all is (Ok len) given =
    given
    ∙ ap (λ (ps : List Param). capped (length (shortest_spelling (remoted_by plan is_local name ps).reply)))
    (sym (ap params_in is ∙ params_again all))

-- ---- an accepted command's reply is short

abbrev bare : ℕ → Remoted
bare hcack = remoted_of hcack []

bare_length : (hcack : ℕ) → length (shortest_spelling (bare hcack).reply) ≡ 7
bare_length hcack =
    let whole = length-list (code_item hcack ∷ item.L [] ∷ []) in
    let a = together-cons (code_item hcack) (item.L [] ∷ []) in
    let b = together-cons (item.L []) [] in
    let inner = length-list [] in
    omega (arith, whole, a, b, inner, length-byte hcack)

planned_short :
    (later : Bool) (refusals : List (List ℕ × ℕ)) → is_accepted (planned_answer later refusals).hcack ≡ true
    → length (shortest_spelling (planned_answer later refusals).reply) ≡ 7
planned_short later [] accepted = bare_length (cond later 4 0)
planned_short later (refusal ∷ refusals) accepted = absurd (cc)

for_short :
    (command : Option CommandPlan) (params : List Param) → is_accepted (remoted_for command params).hcack ≡ true
    → length (shortest_spelling (remoted_for command params).reply) ≡ 7
for_short None params accepted = absurd (cc)
for_short (Some command) params accepted =
    planned_short command.later (refusals_of command.params params) accepted

accepted_short :
    (plan : RemotePlan) (is_local : Bool) (name : List ℕ) (params : List Param)
    → is_accepted (remoted_by plan is_local name params).hcack ≡ true
    → length (shortest_spelling (remoted_by plan is_local name params).reply) ≡ 7
accepted_short plan true name params accepted = absurd (cc)
accepted_short plan false name params accepted =
    for_short (find (has_name name) plan.commands) params accepted

-- so one whose reply is too long notes nothing
pub too_long_carries_none :
    (plan : RemotePlan) (is_local : Bool) (name : List ℕ) (params : List Param) (max_body : ℕ) → 244 ≤ max_body
    → nat_lt max_body (length (shortest_spelling (remoted_by plan is_local name params).reply)) ≡ true
    → carried_lines (remoted_by plan is_local name params).hcack name ≡ []
too_long_carries_none plan is_local name params max_body limit past =
    go (is_accepted (remoted_by plan is_local name params).hcack) refl
  where
    go : (b : Bool) → is_accepted (remoted_by plan is_local name params).hcack ≡ b
        → carried_lines (remoted_by plan is_local name params).hcack name ≡ []
    go false refused = rw refused refl
    go true accepted =
        let short = accepted_short plan is_local name params accepted in
        absurd (grind (arith, nat_tests))
