-- How many elements an array has, and the least of names one after another.
use Rattle.std.proofs.Common.{◌≡◌, refl, ap, ℕ, suc, List, [], ◌∷◌, ◌++◌, length, Option}
use Rattle.toml.specs.declared.value.Value.{Value}
use Rattle.toml.specs.View.{items_view}
use Rattle.gem_config.specs.Others.{least_of, lesser}
use Rattle.gem_config.specs.Rows.{count_of}

pub count_of_view : (values : List Value) → count_of (items_view values) ≡ length values
count_of_view [] = refl
count_of_view (v ∷ values) = ap suc (count_of_view values)

pub least_behind : (before : Option (List ℕ)) (names more : List (List ℕ))
    → least_of before (names ++ more) ≡ least_of (least_of before names) more
least_behind before [] more = refl
least_behind before (n ∷ names) more = least_behind (lesser before n) names more
