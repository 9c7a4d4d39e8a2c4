-- What accepted settings leave of the plan's kinds and ranges.
use Rattle.std.proofs.Common.{◌≡◌, refl, sym, ◌∙◌, ap, Bool, true, false, cond, ℕ, List, [], ◌∷◌, Some, None, nat_eq, IsTrue, All, subst}
use Rattle.std.specs.Prelude.{if◌then◌else◌}
use Rattle.std.proofs.lemmas.Bool.{eq-eqb, eqb-true}
use Rattle.std.proofs.lemmas.List.Elements.{All-append, All-head, All-tail}
use Rattle.std.proofs.lemmas.List.Sums.{AllPass-from_list_all}
use Rattle.std.specs.List.{find}
use Rattle.std.specs.Option.{option_map, option_map_or, unwrap_or}
use Rattle.secs_items.specs.declared.item.Item.{Item, out-Item}
use Rattle.secs_items.specs.Kinds.{code_of}
use Rattle.secs_items.specs.Layers.{kind_of}
use Rattle.gem_vars.specs.declared.plan.ConstantPlan.{ConstantPlan}
use Rattle.gem_vars.specs.declared.plan.VariablePlan.{VariablePlan}
use Rattle.gem_vars.specs.declared.plan.VarsPlan.{VarsPlan}
use Rattle.gem_vars.specs.declared.settings.Eac.TheVariants as eac
use Rattle.gem_vars.specs.declared.settings.Setting.TheVariants as setting
use Rattle.gem_vars.specs.History.{VarsEntry, constant_after, constant_at, planned_constant, planned_variable, value_at, vars_at}
use Rattle.gem_vars.specs.History.VarsEntry.{SetConstant, SetValue}
use Rattle.gem_vars.specs.Laws.{AreAccepted, IsAsPlanned}
use Rattle.gem_vars.specs.Plan.{VariableFits, VarsFit, all_constants, built_in_constants, has_ecid, has_vid, is_in_range}
use Rattle.gem_vars.specs.Settings.{entry_fault, is_within, range_fault, refusal_of, same_kind, value_fits, value_refusal}
use Rattle.gem_vars.specs.Tables.{constant_row_in, value_in}
use Rattle.gem_vars.proofs.History.{constant_row_looked_up, value_looked_up}

-- what is found passes the test, and has what all have
found :
    {A : Type 0} (P : A → Type 0) (test : A → Bool) (xs : List A) (x : A) → All P xs → find test xs ≡ Some x
    → P x × (test x ≡ true)
found P test [] x all is = absurd (cc)
found {A} P test (y ∷ ys) x all is = go (test y) refl is (found P test ys x (All-tail P y ys all))
  where
    go : (b : Bool) → test y ≡ b → cond b (Some y) (find test ys) ≡ Some x
        → (find test ys ≡ Some x → P x × (test x ≡ true)) → P x × (test x ≡ true)
    go true passes here rest =
        let same : y ≡ x = cc in
        subst (λ (z : A). P z × (test z ≡ true)) same (All-head P y ys all, passes)
    go false passes here rest = rest here

-- nothing is refused where both tests are passed
passed :
    {E : Type 0} (a b : Bool) (x y : E) → (if a then if b then None else Some x else Some y) ≡ None
    → (a ≡ true) × (b ≡ true)
passed true true x y is = (refl, refl)
passed true false x y is = absurd (cc)
passed false b x y is = absurd (cc)

passed_one : {E : Type 0} (a : Bool) (x : E) → (if a then None else Some x) ≡ None → a ≡ true
passed_one true x is = refl
passed_one false x is = absurd (cc)

abbrev code : Item → ℕ
code i = code_of (kind_of (out-Item i))

kind_kept : (a b c : Item) → same_kind a b ≡ true → same_kind b c ≡ true → same_kind a c ≡ true
kind_kept a b c first second =
    eq-eqb (code a) (code c) (eqb-true (code a) (code b) first ∙ eqb-true (code b) (code c) second)

-- one accepted value more
next_value :
    (plan : VarsPlan) (past : List VarsEntry) (vid other : ℕ) (value : Item) (p : VariablePlan) → other ≡ vid
    → planned_variable plan vid ≡ Some p → refusal_of (vars_at plan past) other value ≡ None
    → IsAsPlanned p (value_at past p) → IsAsPlanned p value
next_value plan past vid other value p same is accepted before =
    let held = value_at past p in
    let here : value_in (vars_at plan past) other ≡ Some held =
    ap (value_in (vars_at plan past)) same ∙ value_looked_up plan past vid ∙ ap (option_map (value_at past)) is in
    let none : value_refusal other value held ≡ None =
    sym (ap (λ o. option_map_or (value_refusal other value) o (Some (setting.Unknown other))) here) ∙ accepted in
    let both =
    passed (same_kind held value) (value_fits value) (setting.TooLong other) (setting.Kind other) none in
    record { kind = kind_kept p.value held value before.kind both.0; fits = both.1 }

pub value_as_planned :
    (plan : VarsPlan) (past : List VarsEntry) (vid : ℕ) (p : VariablePlan) → VarsFit plan → AreAccepted plan past
    → planned_variable plan vid ≡ Some p → IsAsPlanned p (value_at past p)
value_as_planned plan [] vid p fits accepted is = record {
  kind = eq-eqb (code p.value) (code p.value) refl;
  fits = (found VariableFits (has_vid vid) plan.variables p fits.variables.each is).0;
}
value_as_planned plan (SetConstant ecid n ∷ past) vid p fits accepted is =
    value_as_planned plan past vid p fits accepted.1 is
value_as_planned plan (SetValue other value ∷ past) vid p fits accepted is =
    go (nat_eq other p.vid) refl (value_as_planned plan past vid p fits accepted.1 is)
  where
    go : (b : Bool) → nat_eq other p.vid ≡ b → IsAsPlanned p (value_at past p)
        → IsAsPlanned p (unwrap_or (if b then Some value else None) (value_at past p))
    go true names before =
        let mine = eqb-true vid p.vid (found VariableFits (has_vid vid) plan.variables p fits.variables.each is).1 in
        next_value plan past vid other value p (eqb-true other p.vid names ∙ sym mine) is accepted.0 before
    go false names before = before

-- each planned value is in its range
all_in_range : (plan : VarsPlan) → VarsFit plan → All (λ c. IsTrue (is_in_range c)) (all_constants plan)
all_in_range plan fits =
    All-append (λ (c : ConstantPlan). IsTrue (is_in_range c)) (built_in_constants plan.built_in) plan.constants
    (AllPass-from_list_all is_in_range (built_in_constants plan.built_in) fits.built_in)
    (λ k d less. (fits.constants.each k d less).range)

next_constant :
    (plan : VarsPlan) (past : List VarsEntry) (ecid other n : ℕ) (p : ConstantPlan) → other ≡ ecid
    → planned_constant plan ecid ≡ Some p → entry_fault (vars_at plan past) (other, n) ≡ None
    → is_within p.min p.max n ≡ true
next_constant plan past ecid other n p same is accepted =
    let here : constant_row_in (vars_at plan past) other ≡ Some (constant_after past p) =
    ap (constant_row_in (vars_at plan past)) same ∙ constant_row_looked_up plan past ecid
    ∙ ap (option_map (constant_after past)) is in
    let none : range_fault other n (constant_after past p) ≡ None =
    sym (ap (λ o. option_map_or (range_fault other n) o (Some (eac.Unknown other))) here) ∙ accepted in
    passed_one (is_within p.min p.max n) (eac.OutOfRange other) none

pub constant_as_planned :
    (plan : VarsPlan) (past : List VarsEntry) (ecid : ℕ) (p : ConstantPlan) → VarsFit plan → AreAccepted plan past
    → planned_constant plan ecid ≡ Some p → IsTrue (is_within p.min p.max (constant_at past p))
constant_as_planned plan [] ecid p fits accepted is =
    (found (λ (c : ConstantPlan). IsTrue (is_in_range c)) (has_ecid ecid) (all_constants plan) p (all_in_range plan fits)
    is).0
constant_as_planned plan (SetValue vid value ∷ past) ecid p fits accepted is =
    constant_as_planned plan past ecid p fits accepted.1 is
constant_as_planned plan (SetConstant other n ∷ past) ecid p fits accepted is =
    go (nat_eq other p.ecid) refl (constant_as_planned plan past ecid p fits accepted.1 is)
  where
    go : (b : Bool) → nat_eq other p.ecid ≡ b → IsTrue (is_within p.min p.max (constant_at past p))
        → IsTrue (is_within p.min p.max (unwrap_or (if b then Some n else None) (constant_at past p)))
    go true names before =
        let mine =
        eqb-true ecid p.ecid
        (found (λ (c : ConstantPlan). IsTrue (is_in_range c)) (has_ecid ecid) (all_constants plan) p
        (all_in_range plan fits) is).1 in
        next_constant plan past ecid other n p (eqb-true other p.ecid names ∙ sym mine) is accepted.0
    go false names before = before
