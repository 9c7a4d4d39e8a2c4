-- What the calls of a keeper make of a request: its answer, and the recipes behind it.
use Rattle.std.proofs.Common.{◌≡◌, ◌+◌, ◌<◌, ◌≤◌, ◌==◌, refl, sym, ◌∙◌, ap, subst, ℕ, Bool, true, false, cond, List, [], ◌∷◌, ◌++◌, length, map, take, nat_lt, Option, None, Some, Result, Ok, Err, Equal, inl, inr, is_eq, arith}
use Rattle.std.proofs.lemmas.Bool.Decides.{nat_tests}
use Rattle.std.proofs.lemmas.List.{take-map}
use Rattle.std.proofs.lemmas.List.Sums.{fold-append}
use Rattle.std.specs.Cmp.Lexicographic.{nat_list_cmp_total}
use Rattle.std.specs.FinMap.{contains_key, get, get-remove, same_map}
use Rattle.std.specs.List.{list_all}
use Rattle.std.specs.Option.{is_some, option_map, unwrap_or}
use Rattle.std.specs.Ordering.{eq_by_cmp}
use Rattle.std.specs.Prelude.{IfOk}
use Rattle.std.specs.declared.cmp.Ordering.{Ordering}
use Rattle.std.specs.declared.cmp.Ordering.TheVariants as ordering
use Rattle.gl_base.specs.Faults.{Rose}
use Rattle.gem_recipes.specs.declared.asking.RecipesAnswer.{RecipesAnswer}
use Rattle.gem_recipes.specs.declared.asking.RecipesAnswer.TheVariants as answer
use Rattle.gem_recipes.specs.declared.asking.RecipesAsked.{RecipesAsked}
use Rattle.gem_recipes.specs.declared.asking.RecipesAsked.TheVariants as asking
use Rattle.gem_recipes.specs.declared.asking.Unanswered.{Unanswered}
use Rattle.gem_recipes.specs.declared.asking.Unanswered.TheVariants as unanswered
use Rattle.gem_recipes.specs.declared.keeper.RecipeKeeper as keeper
use Rattle.gem_recipes.specs.declared.keeper.RecipePut.{RecipePut}
use Rattle.gem_recipes.specs.declared.keeper.RecipePut.TheVariants.{Failed, NoSpace, Stored, TooLong}
use Rattle.gem_recipes.specs.Asking.{AnswerFits, AreNames, DropsEach, DropsOne, EndsDrops, Serves, StaysUnless, after_changes, changes_of, map_after, map_amid, meant, without_each}
use Rattle.gem_recipes.specs.History.RecipeChange.{Deletes, Stores}
use Rattle.gem_recipes.specs.Keeper.{AnswersPut, AnswersRoom, IsOf, PutLeaves}
use Rattle.gem_recipes.specs.Recipes.{Recipe, Recipes, after_put, body_of, by_bytes, has_space, most_body, names_of, put_answer, with_recipe, without}
use Rattle.gem_recipes.specs.Requests.{ackc7_of, delete_ackc7_of, most_length}
use Rattle.gem_recipes.proofs.Exchanges.{in_turn}
use Rattle.gem_recipes.proofs.History.{same_name}

-- ---- what is told

pub as_told : (told : Option Recipes) → told ≡ option_map (λ recipes. recipes) told
as_told None = refl
as_told (Some recipes) = refl

-- what a function makes of the recipes that are told, by what it makes of any
pub each_told :
    (f g : Recipes → Recipes) (told : Option Recipes)
    → ((recipes : Recipes) → told ≡ Some recipes → f recipes ≡ g recipes) → option_map f told ≡ option_map g told
each_told f g None same = refl
each_told f g (Some recipes) same = ap Some (same recipes refl)

-- ---- S7F1

-- there is space where a put of no bytes would be stored
space_for :
    (slots : ℕ) (name : List ℕ) (recipes : Recipes) → put_answer slots name [] recipes ≡ Stored
    → has_space slots name recipes ≡ true
space_for slots name recipes is = go (has_space slots name recipes) is
  where
    go : (b : Bool) → cond b Stored NoSpace ≡ Stored → b ≡ true
    go true is = refl
    go false is = absurd (cc)

no_space_for :
    (slots : ℕ) (name : List ℕ) (recipes : Recipes) → put_answer slots name [] recipes ≡ NoSpace
    → has_space slots name recipes ≡ false
no_space_for slots name recipes is = go (has_space slots name recipes) is
  where
    go : (b : Bool) → cond b Stored NoSpace ≡ NoSpace → b ≡ false
    go true is = absurd (cc)
    go false is = refl

pub long_inquiry :
    (slots : ℕ) (name : List ℕ) (long : ℕ) (told : Option Recipes) → nat_lt most_length long ≡ true
    → Serves slots (asking.Inquire name long) told told (Ok (answer.Code 2))
long_inquiry slots name long told is = (
  λ recipes here. ap (λ b. answer.Code (cond b 2 (cond (has_space slots name recipes) 0 2))) is,
  as_told told,
)

pub space_inquiry :
    (slots : ℕ) (name bytes : List ℕ) (long : ℕ) (told after : Option Recipes) → bytes ≡ name
    → nat_lt most_length long ≡ false → AnswersRoom slots bytes told Stored → after ≡ told
    → Serves slots (asking.Inquire name long) told after (Ok (answer.Code 0))
space_inquiry slots name bytes long told after named is room same = (
  λ recipes here.
      ap (λ b. answer.Code (cond b 2 (cond (has_space slots name recipes) 0 2))) is
      ∙ ap (λ b. answer.Code (cond b 0 2))
      (space_for slots name recipes
      (ap (λ (one : List ℕ). put_answer slots one [] recipes) (sym named) ∙ room recipes here)),
  same ∙ as_told told,
)

pub full_inquiry :
    (slots : ℕ) (name bytes : List ℕ) (long : ℕ) (told after : Option Recipes) → bytes ≡ name
    → nat_lt most_length long ≡ false → AnswersRoom slots bytes told NoSpace → after ≡ told
    → Serves slots (asking.Inquire name long) told after (Ok (answer.Code 2))
full_inquiry slots name bytes long told after named is room same = (
  λ recipes here.
      ap (λ b. answer.Code (cond b 2 (cond (has_space slots name recipes) 0 2))) is
      ∙ ap (λ b. answer.Code (cond b 0 2))
      (no_space_for slots name recipes
      (ap (λ (one : List ℕ). put_answer slots one [] recipes) (sym named) ∙ room recipes here)),
  same ∙ as_told told,
)

-- where nothing was changed and the keeper has failed, none of the changes is made
pub none_made :
    (slots : ℕ) (asked : RecipesAsked) (told after : Option Recipes) → after ≡ told
    → Serves slots asked told after (Err unanswered.Failed)
none_made slots asked told after same = record { count = 0; is = same ∙ as_told told }

-- ---- S7F3

-- the code of an answer to a put; behind a fault none is sent
abbrev unwrap_code : RecipePut → ℕ
unwrap_code answered = unwrap_or (ackc7_of answered) 0

-- what a put comes to
abbrev pub put_served : RecipePut → Result RecipesAnswer Unanswered
put_served Stored = Ok (answer.Code 0)
put_served TooLong = Ok (answer.Code 2)
put_served NoSpace = Ok (answer.Code 3)
put_served Failed = Err unanswered.Failed

pub passes : (most long : ℕ) → most < long → nat_lt most long ≡ true
passes most long longer = grind (arith, nat_tests)

pub stays_under : (most long : ℕ) → long ≤ most → nat_lt most long ≡ false
stays_under most long short = grind (arith, nat_tests)

-- a put makes one change at most
put_whole :
    (slots : ℕ) (name body : List ℕ) (recipes : Recipes)
    → after_put slots name body recipes ≡ map_amid slots (asking.Send name body) 1 recipes
put_whole slots name body recipes = go (nat_lt most_body (length body)) (has_space slots name recipes)
  where
    go : (long space : Bool)
        → cond long recipes (cond space (with_recipe name body recipes) recipes)
        ≡ after_changes
        (take 1
        (cond (unwrap_code (cond long TooLong (cond space Stored NoSpace)) == 0) (Stores name body ∷ []) []))
        recipes
    go true space = refl
    go false true = refl
    go false false = refl

-- what a put leaves that is answered so
left_by :
    (slots : ℕ) (name body : List ℕ) (recipes : Recipes) (answered : RecipePut)
    → put_answer slots name body recipes ≡ answered
    → map_after slots (asking.Send name body) recipes
    ≡ after_changes (cond (unwrap_code answered == 0) (Stores name body ∷ []) []) recipes
left_by slots name body recipes answered is =
    ap (λ a. after_changes (cond (unwrap_code a == 0) (Stores name body ∷ []) []) recipes) is

-- what is too long is refused as such
too_long : (slots : ℕ) (name body : List ℕ) (recipes : Recipes) → most_body < length body
    → put_answer slots name body recipes ≡ TooLong
too_long slots name body recipes longer =
    ap (λ b. cond b TooLong (cond (has_space slots name recipes) Stored NoSpace)) (passes most_body (length body) longer)

pub sent :
    (slots : ℕ) (name body : List ℕ) (told after : Option Recipes) (answered : RecipePut)
    → AnswersPut slots name body told answered → PutLeaves slots name body told after answered
    → Serves slots (asking.Send name body) told after (put_served answered)
sent slots name body told after Stored answers leaves = (
  λ recipes here. ap (λ a. answer.Code (unwrap_code a)) (answers.1 recipes here),
  leaves
      ∙ each_told (with_recipe name body) (map_after slots (asking.Send name body)) told (λ recipes here.
      sym (left_by slots name body recipes Stored (answers.1 recipes here))),
)
sent slots name body told after TooLong answers leaves = (
  λ recipes here. ap (λ a. answer.Code (unwrap_code a)) (too_long slots name body recipes answers),
  leaves
      ∙ as_told told
      ∙ each_told (λ recipes. recipes) (map_after slots (asking.Send name body)) told (λ recipes here.
      sym (left_by slots name body recipes TooLong (too_long slots name body recipes answers))),
)
sent slots name body told after NoSpace answers leaves = (
  λ recipes here. ap (λ a. answer.Code (unwrap_code a)) (answers.1 recipes here),
  leaves
      ∙ as_told told
      ∙ each_told (λ recipes. recipes) (map_after slots (asking.Send name body)) told (λ recipes here.
      sym (left_by slots name body recipes NoSpace (answers.1 recipes here))),
)
sent slots name body told after Failed answers leaves =
    elim leaves [
      | inl old ↦ record { count = 0; is = old ∙ as_told told }
      | inr new ↦ record {
        count = 1;
        is = new
            ∙ each_told (after_put slots name body) (map_amid slots (asking.Send name body) 1) told (λ recipes here.
            put_whole slots name body recipes);
      }
    ]

pub sent_by :
    (slots : ℕ) (name bytes body text : List ℕ) (told after : Option Recipes) (answered : RecipePut)
    → bytes ≡ name → text ≡ body → AnswersPut slots bytes text told answered
    → PutLeaves slots bytes text told after answered
    → Serves slots (asking.Send name body) told after (put_served answered)
sent_by slots name bytes body text told after answered named same answers leaves =
    sent slots name body told after answered
    (subst (λ (one : List ℕ). AnswersPut slots name one told answered) same
    (subst (λ (one : List ℕ). AnswersPut slots one text told answered) named answers))
    (subst (λ (one : List ℕ). PutLeaves slots name one told after answered) same
    (subst (λ (one : List ℕ). PutLeaves slots one text told after answered) named leaves))

-- ---- S7F5 and S7F19

pub found :
    (slots : ℕ) (name bytes : List ℕ) (told after : Option Recipes) (body : Option (List ℕ)) → bytes ≡ name
    → IsOf told (body_of bytes) body → after ≡ told
    → Serves slots (asking.Ask name) told after (Ok (answer.Body name body))
found slots name bytes told after body same is stands = (
  λ recipes here.
      ap (λ one. answer.Body name (body_of one recipes)) (sym same) ∙ ap (answer.Body name) (is recipes here),
  stands ∙ as_told told,
)

pub listed :
    (slots : ℕ) (names : List (List ℕ)) (told after : Option Recipes) → IsOf told names_of names → after ≡ told
    → Serves slots asking.List told after (Ok (answer.Names names))
listed slots names told after is stands = (λ recipes here. ap answer.Names (is recipes here), stands ∙ as_told told)

-- ---- calls one behind another

-- what is asked behind calls that changed nothing
pub served_behind :
    (slots now_slots : ℕ) (asked : RecipesAsked) (told now after : Option Recipes) (r : Result RecipesAnswer Unanswered)
    → now_slots ≡ slots → now ≡ told → Serves now_slots asked now after r → Serves slots asked told after r
served_behind slots now_slots asked told now after r same stands serves =
    subst (λ (before : Option Recipes). Serves slots asked before after r) stands
    (subst (λ n. Serves n asked now after r) same serves)

-- a call of a keeper behind others, none of which has failed
pub stays_on :
    {K : Type 0} (members : keeper.Ghosts K) (before now after : K) (failed : Bool)
    → StaysUnless false members before now → StaysUnless failed members now after
    → StaysUnless failed members before after
stays_on members before now after true first last = (
  last.0 ∙ first.0,
  last.1 ∙ first.1,
  last.2,
  subst (λ count. Rose count (members.faults after)) first.3 last.3,
)
stays_on members before now after false first last = (
  last.0 ∙ first.0,
  last.1 ∙ first.1,
  last.2,
  last.3 ∙ first.3,
)

-- ---- S7F17

equal_of : (o : Ordering) → is_eq o ≡ true → o ≡ Equal
equal_of ordering.Less is = absurd (cc)
equal_of ordering.Equal is = refl
equal_of ordering.Greater is = absurd (cc)

-- a name that isn't there can't go
absent : (recipes : Recipes) (name : List ℕ) → contains_key recipes name ≡ false → without name recipes ≡ recipes
absent recipes name none =
    same_map nat_list_cmp_total same_name _ _ (λ one.
    get-remove nat_list_cmp_total recipes name one ∙ go one (eq_by_cmp by_bytes one name) refl)
  where
    no_recipe : (o : Option Recipe) → is_some o ≡ false → None ≡ o
    no_recipe None is = refl
    no_recipe (Some recipe) is = absurd (cc)

    go : (one : List ℕ) (b : Bool) → eq_by_cmp by_bytes one name ≡ b
        → cond b None (get recipes one) ≡ get recipes one
    go one true tied =
        no_recipe (get recipes one)
        (ap (λ other. contains_key recipes other) (same_name one name (equal_of (by_bytes one name) tied)) ∙ none)
    go one false apart = refl

-- so what is told stays
pub gone :
    (told : Option Recipes) (name : List ℕ) → IsOf told (λ recipes. contains_key recipes name) false
    → told ≡ option_map (without name) told
gone told name none =
    as_told told ∙ each_told (λ recipes. recipes) (without name) told (λ recipes here.
    sym (absent recipes name (none recipes here)))

pub dropped_none :
    (told after : Option Recipes) (name : List ℕ) → IsOf told (λ recipes. contains_key recipes name) false
    → after ≡ told → after ≡ option_map (without name) told
dropped_none told after name none same = same ∙ gone told name none

-- one recipe more is deleted
pub one_more :
    (before now after : Option Recipes) (names : List (List ℕ)) (name : List ℕ)
    → now ≡ option_map (without_each names) before → after ≡ option_map (without name) now
    → after ≡ option_map (without_each (names ++ name ∷ [])) before
one_more before now after names name is then = then ∙ ap (option_map (without name)) is ∙ go before
  where
    go : (told : Option Recipes)
        → option_map (without name) (option_map (without_each names) told)
        ≡ option_map (without_each (names ++ name ∷ [])) told
    go None = refl
    go (Some recipes) = ap Some (sym (fold-append (λ left one. without one left) recipes names (name ∷ [])))

-- where the keeper fails at one of several, some first of them are deleted
pub ends_at :
    (names : List (List ℕ)) (place : ℕ) (name : List ℕ) (before now after : Option Recipes) (why : Unanswered)
    → take (place + 1) names ≡ take place names ++ name ∷ []
    → now ≡ option_map (without_each (take place names)) before → DropsOne name now after (Err why)
    → EndsDrops names before after why
ends_at names place name before now after unanswered.Failed next is drops =
    elim drops [
      | inl old ↦ (place, old ∙ is)
      | inr new ↦ (
        place + 1,
        one_more before now after (take place names) name is new
            ∙ ap (λ list. option_map (without_each list) before) (sym next),
      )
    ]
ends_at names place name before now after unanswered.NoMemory next is drops = absurd drops

-- ---- what a deletion comes to

all_known :
    (told : Option Recipes) (names : List (List ℕ)) (has : List ℕ → Bool) (b : Bool) → AreNames told has
    → list_all has names ≡ b → (recipes : Recipes) → told ≡ Some recipes
    → delete_ackc7_of names recipes ≡ cond b 0 4
all_known told names has b are all recipes here =
    ap (λ known. cond known 0 4) (ap (λ test. list_all test names) (λ j name. are name recipes here j) ∙ all)

-- the changes of a deletion that is accepted
accepted_changes :
    (slots : ℕ) (names : List (List ℕ)) (recipes : Recipes) (code : ℕ) → delete_ackc7_of names recipes ≡ code
    → changes_of slots (asking.Delete names) recipes
    ≡ cond (code == 0) (map (λ name. Deletes (name ∷ [])) (meant names recipes)) []
accepted_changes slots names recipes code is =
    ap (λ c. cond (c == 0) (map (λ name. Deletes (name ∷ [])) (meant names recipes)) []) is

-- some first of them delete some first of what is meant
some_changes :
    (slots : ℕ) (names : List (List ℕ)) (recipes : Recipes) (count : ℕ) → delete_ackc7_of names recipes ≡ 0
    → map_amid slots (asking.Delete names) count recipes ≡ without_each (take count (meant names recipes)) recipes
some_changes slots names recipes count is =
    ap (λ changes. after_changes (take count changes) recipes) (accepted_changes slots names recipes 0 is)
    ∙ ap (λ changes. after_changes changes recipes) (take-map (λ name. Deletes (name ∷ [])) count (meant names recipes))
    ∙ in_turn (take count (meant names recipes)) recipes

all_changes :
    (slots : ℕ) (names : List (List ℕ)) (recipes : Recipes) → delete_ackc7_of names recipes ≡ 0
    → map_after slots (asking.Delete names) recipes ≡ without_each (meant names recipes) recipes
all_changes slots names recipes is =
    ap (λ changes. after_changes changes recipes) (accepted_changes slots names recipes 0 is)
    ∙ in_turn (meant names recipes) recipes

-- where these are what is meant, of recipes that are told, their deletion is what was asked for
deleted :
    (slots : ℕ) (names list : List (List ℕ)) (before after : Option Recipes) (r : Result RecipesAnswer Unanswered)
    → ((recipes : Recipes) → before ≡ Some recipes → delete_ackc7_of names recipes ≡ 0)
    → ((recipes : Recipes) → before ≡ Some recipes → meant names recipes ≡ list) → DropsEach list before after r
    → Serves slots (asking.Delete names) before after r
deleted slots names list before after (Ok given) known are drops = (
  λ recipes here. ap answer.Code (known recipes here) ∙ sym drops.0,
  drops.1
      ∙ each_told (without_each list) (map_after slots (asking.Delete names)) before (λ recipes here.
      ap (λ some. without_each some recipes) (sym (are recipes here))
      ∙ sym (all_changes slots names recipes (known recipes here))),
)
deleted slots names list before after (Err unanswered.Failed) known are drops = record {
  count = drops.0;
  is = drops.1
      ∙ each_told (without_each (take drops.0 list)) (map_amid slots (asking.Delete names) drops.0) before (λ recipes here.
      ap (λ some. without_each (take drops.0 some) recipes) (sym (are recipes here))
      ∙ sym (some_changes slots names recipes drops.0 (known recipes here)));
}
deleted slots names list before after (Err unanswered.NoMemory) known are drops = absurd drops

pub deleted_all :
    (slots : ℕ) (known : List (List ℕ)) (before after : Option Recipes) (r : Result RecipesAnswer Unanswered)
    → IsOf before names_of known → DropsEach known before after r → Serves slots (asking.Delete []) before after r
deleted_all slots known before after r all drops = deleted slots [] known before after r (λ recipes here. refl) all drops

pub deleted_named :
    (slots : ℕ) (names : List (List ℕ)) (before after : Option Recipes) (has : List ℕ → Bool)
    (r : Result RecipesAnswer Unanswered)
    → 0 < length names → AreNames before has → list_all has names ≡ true → DropsEach names before after r
    → Serves slots (asking.Delete names) before after r
deleted_named slots [] before after has r some are all drops = absurd (omega (arith, some))
deleted_named slots (name ∷ more) before after has r some are all drops =
    deleted slots (name ∷ more) (name ∷ more) before after r (all_known before (name ∷ more) has true are all)
    (λ recipes here. refl) drops

-- one that isn't known refuses them all
pub deleted_none :
    (slots : ℕ) (names : List (List ℕ)) (told : Option Recipes) (has : List ℕ → Bool)
    → AreNames told has → list_all has names ≡ false
    → Serves slots (asking.Delete names) told told (Ok (answer.Code 4))
deleted_none slots names told has are some = (
  λ recipes here. ap answer.Code (all_known told names has false are some recipes here),
  as_told told
      ∙ each_told (λ recipes. recipes) (map_after slots (asking.Delete names)) told (λ recipes here.
      sym
      (ap (λ changes. after_changes changes recipes)
      (accepted_changes slots names recipes 4 (all_known told names has false are some recipes here)))),
)

pub dropped_fits :
    (names : List (List ℕ)) (before after : Option Recipes) (r : Result RecipesAnswer Unanswered)
    → DropsEach names before after r → IfOk r AnswerFits
dropped_fits names before after (Ok given) drops = subst AnswerFits (sym drops.0) (omega arith)
dropped_fits names before after (Err why) drops = tt
