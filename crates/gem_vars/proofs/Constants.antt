-- The ECIDs of the built-in constants and of the plan's own are told apart.
use Rattle.std.proofs.Common.{◌≡◌, refl, Bool, true, false, ℕ, ◌<◌, List, [], ◌∷◌, ◌++◌, map, nat_eq, All, arith}
use Rattle.std.proofs.lemmas.Bool.{eqb-true}
use Rattle.std.proofs.lemmas.List.Elements.{All-head, All-tail}
use Rattle.std.proofs.lemmas.Map.Keys.{IsDistinct-cons}
use Rattle.std.specs.List.{AllByRecursion, IsDistinct}
use Rattle.std.specs.Map.{keys_of}
use Rattle.gem_vars.specs.declared.constant.Constant.{Constant}
use Rattle.gem_vars.specs.declared.plan.ConstantPlan.{ConstantPlan}
use Rattle.gem_vars.specs.declared.plan.VarsPlan.{VarsPlan}
use Rattle.gem_vars.specs.History.{constant_after}
use Rattle.gem_vars.specs.Plan.{ConstantFits, VarsFit, all_constants, built_in_constants, planned_ecids}

differ : (a b : ℕ) → a < b → nat_eq a b ≡ false
differ a b less = go (nat_eq a b) refl
  where
    go : (t : Bool) → nat_eq a b ≡ t → t ≡ false
    go true is = let same = eqb-true a b is in absurd (omega arith)
    go false is = refl

-- each is at least 100
high :
    (plan : List ConstantPlan) → All ConstantFits plan → (id : ℕ) → id < 100
    → AllByRecursion (λ other. nat_eq id other ≡ false) (planned_ecids plan)
high [] all id low = tt
high (p ∷ plan) all id low =
    let own = (All-head ConstantFits p plan all).own in
    (differ id p.ecid (omega arith), high plan (All-tail ConstantFits p plan all) id low)

pub all_told_apart : (plan : VarsPlan) → VarsFit plan → IsDistinct nat_eq (planned_ecids (all_constants plan))
all_told_apart plan fits =
    let own = planned_ecids plan.constants in
    let above = high plan.constants fits.constants.each in
    IsDistinct-cons nat_eq 1 (2 ∷ 3 ∷ 4 ∷ own) (refl, (refl, (refl, above 1 (omega arith))))
    (IsDistinct-cons nat_eq 2 (3 ∷ 4 ∷ own) (refl, (refl, above 2 (omega arith)))
    (IsDistinct-cons nat_eq 3 (4 ∷ own) (refl, above 3 (omega arith))
    (IsDistinct-cons nat_eq 4 own (above 4 (omega arith)) fits.constants.distinct)))

built_in_apart : IsDistinct nat_eq (1 ∷ 2 ∷ 3 ∷ 4 ∷ [])
unfolding IsDistinct
built_in_apart = ((refl, (refl, (refl, tt))), ((refl, (refl, tt)), ((refl, tt), (tt, tt))))

-- the built-in ones in an empty table
pub first_apart :
    (old : List (ℕ × Constant)) (rows : List ConstantPlan) (values : List ℕ) → old ≡ []
    → rows ≡ built_in_constants values → IsDistinct nat_eq (keys_of old ++ planned_ecids rows)
first_apart old rows values none is = rw (none, is) built_in_apart

-- the plan's own behind them
pub own_apart :
    (plan : VarsPlan) (old now : List (ℕ × Constant)) (rows own : List ConstantPlan) → VarsFit plan → old ≡ []
    → rows ≡ built_in_constants plan.built_in → own ≡ plan.constants
    → now ≡ old ++ map (λ p. (p.ecid, constant_after [] p)) rows
    → IsDistinct nat_eq (keys_of now ++ planned_ecids own)
own_apart plan old now rows own fits none is own_is put = rw (put, none, is, own_is) (all_told_apart plan fits)
