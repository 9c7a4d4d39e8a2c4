-- A store without slots, which has no recipes and takes none.
use Rattle.std.specs.Prelude.{◌≡◌, ◌-◌, ◌≤◌, ℕ, All, List, [], ◌∷◌, length, map, Option, Some, nat_eq, nat_lt, if◌then◌else◌}
use Rattle.std.specs.FinMap.{empty, entries, len-empty, len-entries}
use Rattle.std.specs.List.{IsDistinct}
use Rattle.std.specs.Option.{unwrap_or}
use Rattle.std.proofs.Common.{◌∙◌, ap, arith, refl, subst, sym}
use Rattle.std.proofs.lemmas.List.Elements.{All-nil}
use Rattle.gem_recipes.specs.declared.keeper.RecipePut.{RecipePut}
use Rattle.gem_recipes.specs.declared.keeper.RecipePut.TheVariants.{NoSpace, TooLong}
use Rattle.gem_recipes.specs.Recipes.{EntryFits, Recipe, Recipes, RecipesFit, by_bytes, most_body}

-- what a put of so many bytes is answered
abbrev pub refusal_of : ℕ → RecipePut
refusal_of long = if nat_lt most_body long then TooLong else NoSpace

-- ---- what is told of it fits

no_elements : (held : List (List ℕ × Recipe)) → length held ≡ 0 → held ≡ []
no_elements [] is = refl
no_elements (e ∷ held) is = absurd (omega arith)

pub no_entries : entries (empty {X = Recipe} {R = by_bytes}) ≡ []
no_entries = no_elements _ (sym (len-entries empty) ∙ len-empty by_bytes Recipe)

none_apart : IsDistinct nat_eq []
unfolding IsDistinct
none_apart = tt

empty_fits : RecipesFit 0 empty
empty_fits =
    let few : 0 ≤ 0 - 1 = omega arith in
    record {
      few = subst (λ long. long ≤ 0 - 1) (sym (len-empty by_bytes Recipe)) few;
      each = subst (All EntryFits) (sym no_entries) (All-nil EntryFits);
      distinct = subst
          (λ (held : List (List ℕ × Recipe)). IsDistinct nat_eq (map (λ recipe. recipe.number) (map (λ e. e.1) held)))
          (sym no_entries) none_apart;
    }

pub none_fit : (recipes : Recipes) → Some empty ≡ Some recipes → RecipesFit 0 recipes
none_fit recipes is = subst (RecipesFit 0) (ap (λ (o : Option Recipes). unwrap_or o empty) is) empty_fits
