-- What a store without slots answers.
use Rattle.std.proofs.Common.{◌≡◌, refl, ◌∙◌, ap, arith, subst, Bool, true, false, ◌&&◌, ◌||◌, ◌-◌, ◌^◌, ◌<◌, ◌≤◌, ℕ, List, [], is_some, length, map, nat_lt, Option, None, Some, if◌then◌else◌}
use Rattle.std.proofs.lemmas.Bool.Decides.{nat_tests}
use Rattle.std.proofs.lemmas.List.Elements.{All-nil}
use Rattle.std.specs.FinMap.{contains_key, empty, get-empty, len, len-empty}
use Rattle.std.specs.Option.{option_map, unwrap_or}
use Rattle.gem_recipes.specs.declared.keeper.RecipeNames.TheVariants.{Names}
use Rattle.gem_recipes.specs.declared.keeper.RecipePut.TheVariants.{NoSpace, Stored, TooLong}
use Rattle.gem_recipes.specs.Keeper.{AnswersNames, AnswersPut, IsOf, PutLeaves, put_failed}
use Rattle.gem_recipes.specs.NoRecipes.{no_entries, refusal_of}
use Rattle.gem_recipes.specs.Recipes.{IsPpid, Recipe, Recipes, body_of, by_bytes, has_space, most_body, names_of, next_number, put_answer}

-- what is told to be there is nothing
is_none_told : (recipes : Recipes) → Some empty ≡ Some recipes → empty ≡ recipes
is_none_told recipes is = ap (λ (o : Option Recipes). unwrap_or o empty) is

-- so what nothing asks for is what is asked for
of_none : {A : Type 0} (asked : Recipes → A) (answer : A) → asked empty ≡ answer → IsOf (Some empty) asked answer
of_none asked answer so recipes is = subst (λ some. asked some ≡ answer) (is_none_told recipes is) so

-- ---- what nothing asks for

no_space : (name : List ℕ) → has_space 0 name empty ≡ false
no_space name =
    ap
    (λ (o : Option Recipe). (is_some o || nat_lt (len {X = Recipe} {R = by_bytes} empty) (0 - 1))
    && nat_lt (next_number empty) (2 ^ 63))
    (get-empty by_bytes name)
    ∙ ap (λ long. (false || nat_lt long (0 - 1)) && nat_lt (next_number empty) (2 ^ 63)) (len-empty by_bytes Recipe)

put_of_none : (name body : List ℕ) → put_answer 0 name body empty ≡ refusal_of (length body)
put_of_none name body =
    ap (λ b. if nat_lt most_body (length body) then TooLong else if b then Stored else NoSpace) (no_space name)

no_body : (name : List ℕ) → body_of name empty ≡ None
no_body name = ap (option_map (λ (recipe : Recipe). recipe.body)) (get-empty by_bytes name)

not_known : (name : List ℕ) → (λ (recipes : Recipes). contains_key recipes name) empty ≡ false
not_known name = ap (λ (o : Option Recipe). is_some o) (get-empty by_bytes name)

no_names : names_of empty ≡ []
no_names = ap (λ (held : List (List ℕ × Recipe)). map (λ e. e.0) held) no_entries

-- ---- each call's answer

pub room_refused : (name : List ℕ) → IsOf (Some empty) (put_answer 0 name []) NoSpace
room_refused name = of_none _ _ (put_of_none name [])

longer : (most long : ℕ) → nat_lt most long ≡ true → most < long
longer most long is = grind (arith, nat_tests)

within : (most long : ℕ) → nat_lt most long ≡ false → long ≤ most
within most long is = grind (arith, nat_tests)

pub put_refused : (name body : List ℕ) → AnswersPut 0 name body (Some empty) (refusal_of (length body))
put_refused name body = go (nat_lt most_body (length body)) refl
  where
    go : (b : Bool) → nat_lt most_body (length body) ≡ b
        → AnswersPut 0 name body (Some empty) (if b then TooLong else NoSpace)
    go true is = longer most_body (length body) is
    go false is = (
      within most_body (length body) is,
      of_none _ _ (put_of_none name body ∙ ap (λ (b : Bool). if b then TooLong else NoSpace) is),
    )

pub put_leaves_none :
    (name body : List ℕ) (long : ℕ)
    → PutLeaves 0 name body (Some empty) (Some empty) (refusal_of long)
put_leaves_none name body long = go (nat_lt most_body long)
  where
    go : (b : Bool) → PutLeaves 0 name body (Some empty) (Some empty) (if b then TooLong else NoSpace)
    go true = refl
    go false = refl

pub put_has_not_failed : (long : ℕ) → put_failed (refusal_of long) ≡ false
put_has_not_failed long = go (nat_lt most_body long)
  where
    go : (b : Bool) → put_failed (if b then TooLong else NoSpace) ≡ false
    go true = refl
    go false = refl

pub get_finds_none : (name : List ℕ) → IsOf (Some empty) (body_of name) None
get_finds_none name = of_none _ _ (no_body name)

pub delete_finds_none : (name : List ℕ) → IsOf (Some empty) (λ recipes. contains_key recipes name) false
delete_finds_none name = of_none _ _ (not_known name)

pub none_named : AnswersNames (Some empty) (Names [])
none_named = (All-nil IsPpid, of_none _ _ no_names)
