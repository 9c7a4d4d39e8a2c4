-- The worked exchanges, each answer by the entries of the map that it comes from.
use Rattle.std.proofs.Common.{◌≡◌, refl, sym, ◌∙◌, ap, subst, Bool, ◌+◌, ◌-◌, ◌^◌, ◌&&◌, ◌||◌, ℕ, List, [], ◌∷◌, fold, get_or, is_none, is_some, length, map, max, nat_eq, nat_lt, Option, None, Some, if◌then◌else◌, true≢false}
use Rattle.std.specs.Cmp.Lexicographic.{nat_list_cmp_total}
use Rattle.std.specs.FinMap.{contains_key, empty, entries, entries-insert, find, get, get-entries, len, len-entries, put}
use Rattle.std.specs.List.{filter_map, list_all}
use Rattle.std.specs.Option.{option_map}
use Rattle.gem_recipes.specs.declared.keeper.RecipePut.{RecipePut}
use Rattle.gem_recipes.specs.declared.keeper.RecipePut.TheVariants.{NoSpace, Stored, TooLong}
use Rattle.gem_recipes.specs.History.{after_change, recipes_after}
use Rattle.gem_recipes.specs.History.RecipeChange.{Deletes}
use Rattle.gem_recipes.specs.Recipes.{Recipe, Recipes, by_bytes, has_space, most_body, next_number, put_answer, with_recipe}
use Rattle.gem_recipes.specs.Requests.{AreAnswered, Exchange, IsAnswered, accepted, ackc7_of, most_length, ppgnt_of}
use Rattle.gem_recipes.specs.Requests.Exchange.{Asked, Deleted, Inquired, Listed, Sent}
use Rattle.gem_recipes.specs.Worked.{all_deleted, another_byte, deleted_before_looking, first, inquired, listed_as_stored, listed_by_bytes, one_byte, replaced, second, stored_and_read}
use Rattle.gem_recipes.specs.NoRecipes.{no_entries}
use Rattle.gem_recipes.proofs.History.{none_left}

abbrev Entries : Type 0
Entries = List (List ℕ × Recipe)

-- ---- the entries that changes leave

abbrev next_in : Entries → ℕ
next_in held = fold (λ next number. max next (number + 1)) 0 (map (λ recipe. recipe.number) (map (λ e. e.1) held))

abbrev stored : List ℕ → List ℕ → Entries → Entries
stored name bytes held = put by_bytes name (record { number = next_in held; body = bytes }) held

after_storing :
    (recipes : Recipes) (held : Entries) (name bytes : List ℕ) → entries recipes ≡ held
    → entries (with_recipe name bytes recipes) ≡ stored name bytes held
after_storing recipes held name bytes is =
    entries-insert nat_list_cmp_total recipes name _ ∙ ap (stored name bytes) is

after_clearing : (recipes : Recipes) → entries (after_change (Deletes []) recipes) ≡ []
after_clearing recipes = ap entries (none_left recipes) ∙ no_entries

-- ---- answers by the entries

abbrev space_in : ℕ → List ℕ → Entries → Bool
space_in slots name held =
    (is_some (find by_bytes name held) || nat_lt (length held) (slots - 1)) && nat_lt (next_in held) (2 ^ 63)

abbrev put_in : ℕ → List ℕ → List ℕ → Entries → RecipePut
put_in slots name bytes held =
    if nat_lt most_body (length bytes) then TooLong else if space_in slots name held then Stored else NoSpace

abbrev AnsweredIn : ℕ → Entries → Exchange → Type 0
AnsweredIn slots held (Inquired name long ppgnt) =
    ppgnt ≡ (if nat_lt most_length long then 2 else if space_in slots name held then 0 else 2)
AnsweredIn slots held (Sent name bytes ackc7) = Some ackc7 ≡ ackc7_of (put_in slots name bytes held)
AnsweredIn slots held (Asked name bytes) = bytes ≡ option_map (λ recipe. recipe.body) (find by_bytes name held)
AnsweredIn slots held (Deleted names ackc7) =
    ackc7 ≡ (if list_all (λ name. is_some (find by_bytes name held)) names then 0 else 4)
AnsweredIn slots held (Listed names) = names ≡ map (λ e. e.0) held

module _ (slots : ℕ) (recipes : Recipes) where
  space_by : (name : List ℕ) → has_space slots name recipes ≡ space_in slots name (entries recipes)
  space_by name =
      ap
      (λ (o : Option Recipe). (is_some o || nat_lt (len recipes) (slots - 1))
      && nat_lt (next_number recipes) (2 ^ 63))
      (get-entries recipes name)
      ∙ ap
      (λ long. (is_some (find by_bytes name (entries recipes)) || nat_lt long (slots - 1))
      && nat_lt (next_number recipes) (2 ^ 63))
      (len-entries recipes)

  put_by : (name bytes : List ℕ) → put_answer slots name bytes recipes ≡ put_in slots name bytes (entries recipes)
  put_by name bytes =
      ap (λ b. if nat_lt most_body (length bytes) then TooLong else if b then Stored else NoSpace) (space_by name)

  all_by :
      (names : List (List ℕ))
      → list_all (λ name. contains_key recipes name) names
      ≡ list_all (λ name. is_some (find by_bytes name (entries recipes))) names
  all_by [] = refl
  all_by (one ∷ more) =
      ap (λ (o : Option Recipe). is_some o && list_all (λ name. contains_key recipes name) more)
      (get-entries recipes one)
      ∙ ap (λ b. is_some (find by_bytes one (entries recipes)) && b) (all_by more)

  grant_by :
      (name : List ℕ) (long : ℕ)
      → ppgnt_of slots name long recipes
      ≡ (if nat_lt most_length long then 2 else if space_in slots name (entries recipes) then 0 else 2)
  grant_by name long = ap (λ b. if nat_lt most_length long then 2 else if b then 0 else 2) (space_by name)

  from_entries : (exchange : Exchange) → AnsweredIn slots (entries recipes) exchange → IsAnswered slots recipes exchange
  from_entries (Inquired name long ppgnt) so = so ∙ sym (grant_by name long)
  from_entries (Sent name bytes ackc7) so = so ∙ sym (ap ackc7_of (put_by name bytes))
  from_entries (Asked name bytes) so = so ∙ sym (ap (option_map (λ recipe. recipe.body)) (get-entries recipes name))
  from_entries (Deleted names ackc7) so = so ∙ sym (ap (λ b. if b then 0 else 4) (all_by names))
  from_entries (Listed names) so = so

  to_entries : (exchange : Exchange) → IsAnswered slots recipes exchange → AnsweredIn slots (entries recipes) exchange
  to_entries (Inquired name long ppgnt) so = so ∙ grant_by name long
  to_entries (Sent name bytes ackc7) so = so ∙ ap ackc7_of (put_by name bytes)
  to_entries (Asked name bytes) so = so ∙ ap (option_map (λ recipe. recipe.body)) (get-entries recipes name)
  to_entries (Deleted names ackc7) so = so ∙ ap (λ b. if b then 0 else 4) (all_by names)
  to_entries (Listed names) so = so

module _ (slots : ℕ) (recipes : Recipes) (held : Entries) (is : entries recipes ≡ held) where
  answered : (exchange : Exchange) → AnsweredIn slots held exchange → IsAnswered slots recipes exchange
  answered exchange so =
      from_entries slots recipes exchange (subst (λ es. AnsweredIn slots es exchange) (sym is) so)

  so_answered : (exchange : Exchange) → IsAnswered slots recipes exchange → AnsweredIn slots held exchange
  so_answered exchange so =
      subst (λ es. AnsweredIn slots es exchange) is (to_entries slots recipes exchange so)

-- ---- the runs

abbrev once : Recipes
once = with_recipe first one_byte empty

abbrev twice : Recipes
twice = with_recipe first another_byte once

abbrev only_second : Recipes
only_second = with_recipe second one_byte empty

abbrev both : Recipes
both = with_recipe first one_byte only_second

in_once : entries once ≡ (first, record { number = 0; body = one_byte }) ∷ []
in_once = after_storing empty [] first one_byte no_entries

in_twice : entries twice ≡ (first, record { number = 1; body = another_byte }) ∷ []
in_twice = after_storing once _ first another_byte in_once

in_second : entries only_second ≡ (second, record { number = 0; body = one_byte }) ∷ []
in_second = after_storing empty [] second one_byte no_entries

in_both :
    entries both
    ≡ (first, record { number = 1; body = one_byte }) ∷ (second, record { number = 0; body = one_byte }) ∷ []
in_both = after_storing only_second _ first one_byte in_second

reads : AreAnswered 2 empty stored_and_read
reads = (
  answered 2 once _ in_once (Deleted (second ∷ []) 4) refl,
  (
    answered 2 once _ in_once (Listed (first ∷ [])) refl,
    (
      answered 2 once _ in_once (Asked first (Some one_byte)) refl,
      (
        answered 2 empty [] no_entries (Sent first one_byte 0) refl,
        tt,
      ),
    ),
  ),
)

replaces : AreAnswered 2 empty replaced
replaces = (
  answered 2 once _ in_once (Sent first another_byte 0) refl,
  (answered 2 once _ in_once (Sent second one_byte 3) refl, reads),
)

pub deletes_all : AreAnswered 2 empty all_deleted
deletes_all =
    let cleared = after_clearing twice in (
      answered 2 _ [] cleared (Deleted [] 0) refl,
      (
        answered 2 _ [] cleared (Listed []) refl,
        (
          answered 2 _ [] cleared (Asked first None) refl,
          (
            answered 2 twice _ in_twice (Deleted [] 0) refl,
            (
              answered 2 twice _ in_twice (Asked first (Some another_byte)) refl,
              replaces,
            ),
          ),
        ),
      ),
    )

pub inquires : AreAnswered 2 empty inquired
inquires = (
  answered 2 once _ in_once (Inquired second 1 2) refl,
  (
    answered 2 once _ in_once (Inquired first 65439 2) refl,
    (
      answered 2 once _ in_once (Inquired first 65438 0) refl,
      (
        answered 2 empty [] no_entries (Sent first one_byte 0) refl,
        (
          answered 2 empty [] no_entries (Inquired second 65438 0) refl,
          tt,
        ),
      ),
    ),
  ),
)

pub lists : AreAnswered 3 empty listed_by_bytes
lists = (
  answered 3 both _ in_both (Listed (first ∷ second ∷ [])) refl,
  (
    answered 3 only_second _ in_second (Sent first one_byte 0) refl,
    (answered 3 empty [] no_entries (Sent second one_byte 0) refl, tt),
  ),
)

pub second_number :
    get (recipes_after empty (filter_map accepted replaced)) first ≡ Some (record { number = 1; body = another_byte })
second_number = get-entries twice first ∙ ap (find by_bytes first) in_twice

pub not_early : AreAnswered 2 empty deleted_before_looking → ⊥
not_early so =
    true≢false (ap is_none (so_answered 2 once _ in_once (Asked first None) so.0))

pub not_as_stored : AreAnswered 3 empty listed_as_stored → ⊥
not_as_stored so =
    true≢false
    (ap (λ names. nat_eq (get_or (get_or names 0 []) 1 0) 50)
    (so_answered 3 both _ in_both (Listed (second ∷ first ∷ [])) so.0))
