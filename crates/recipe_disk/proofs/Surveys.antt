-- What one pass over the slots finds.
use Rattle.std.proofs.Common.{◌≡◌, refl, sym, ap, subst, ◌∙◌, ℕ, zero, suc, ◌+◌, ◌-◌, ◌^◌, ◌<◌, ◌≤◌, ◌&&◌, ◌||◌, Bool, true, false, bytes_eq, is_none, is_some, nat_le, nat_lt, not, List, Option, None, Some, if◌then◌else◌, arith}
use Rattle.std.proofs.lemmas.Bool.{and_parts, and_right}
use Rattle.std.proofs.lemmas.Bool.Decides.{nat_tests}
use Rattle.std.specs.FinMap.{contains_key, get, len}
use Rattle.std.specs.Prelude.{IfSome}
use Rattle.disk_base.specs.Story.{Story}
use Rattle.gem_recipes.specs.Recipes.{Recipe, Recipes, has_space, next_number}
use Rattle.spool_file.specs.Area.{first_at, or_else}
use Rattle.spool_file.proofs.Firsts.{none_below}
use Rattle.recipe_disk.specs.Changes.{Rests}
use Rattle.recipe_disk.specs.File.{recipes_in}
use Rattle.recipe_disk.specs.Map.{IsNoName, recipes_below}
use Rattle.recipe_disk.specs.Slot.{RecipeSlot, is_open, name_in, name_of, recipe_of, slot_in}
use Rattle.recipe_disk.specs.Survey.{IsSurvey, behind_if, behind_live, count_if, free_at, free_if, is_live, live_count, named_at, named_if, place_for}
use Rattle.recipe_disk.specs.declared.head.Head.{Head}
use Rattle.recipe_disk.specs.declared.survey.Survey.{Survey}
use Rattle.recipe_disk.proofs.Areas.{IsArea}
use Rattle.recipe_disk.proofs.Holders.{held, names_agree, names_differ, unheld}
use Rattle.recipe_disk.proofs.Images.{IsFile}
use Rattle.recipe_disk.proofs.Putting.{Replaces, file_at, recipes_are}
use Rattle.recipe_disk.proofs.Tidy.{behind_below, count_below, live_is}

-- ---- a slot that was found is one of those so far

pub bound_if : (b : Bool) (place : Option ℕ) (k : ℕ) → IfSome place (λ j. j < k) → IfSome (or_else place (if b then Some k else None)) (λ j. j < k + 1)
bound_if true None k below = omega arith
bound_if false None k below = tt
bound_if b (Some j) k below = omega (arith, below)

pub count_most : (b : Bool) (count k : ℕ) → count ≤ k → (if b then count + 1 else count) ≤ k + 1
count_most true count k most = omega (arith, most)
count_most false count k most = omega (arith, most)

pub bound_by : (b : Bool) (before now : Option ℕ) (k : ℕ) → now ≡ or_else before (if b then Some k else None) → IfSome before (λ j. j < k) → IfSome now (λ j. j < k + 1)
bound_by b before now k is below = subst (λ (o : Option ℕ). IfSome o (λ j. j < k + 1)) (sym is) (bound_if b before k below)

pub count_by : (b : Bool) (before now k : ℕ) → now ≡ (if b then before + 1 else before) → before ≤ k → now ≤ k + 1
count_by b before now k is most = subst (λ n. n ≤ k + 1) (sym is) (count_most b before k most)

-- ---- the first place that passes a test

abbrev at_if : (ℕ → Bool) → ℕ → Option ℕ
at_if test k = if test k then Some k else None

here_or : (test : ℕ → Bool) (m k : ℕ) (b : Bool) → test m ≡ b → (if b then Some m else None) ≡ Some k → (k < suc m) × (test k ≡ true)
here_or test m k true is found = let same : m ≡ k = cc in (omega (arith, same), ap test (sym same) ∙ is)
here_or test m k false is found = absurd cc

pub some_at : (test : ℕ → Bool) (n k : ℕ) → first_at (at_if test) n ≡ Some k → (k < n) × (test k ≡ true)
some_at test zero k found = absurd cc
some_at test (suc m) k found = by (first_at (at_if test) m) refl (some_at test m k) found
  where
    by : (o : Option ℕ) → first_at (at_if test) m ≡ o → (first_at (at_if test) m ≡ Some k → (k < m) × (test k ≡ true)) → or_else o (at_if test m) ≡ Some k →
        (k < suc m) × (test k ≡ true)
    by None is before here = here_or test m k (test m) refl here
    by (Some j) is before here = let earlier = before (is ∙ here) in (let below = earlier.0 in omega (arith, below), earlier.1)

pub none_at : (test : ℕ → Bool) (n k : ℕ) → first_at (at_if test) n ≡ None → k < n → test k ≡ false
none_at test n k none below = by (test k) (none_below (at_if test) n k none below)
  where
    by : (b : Bool) → (if b then Some k else None) ≡ None → b ≡ false
    by true is = absurd cc
    by false is = refl

-- ---- a file at rest

-- there is space for a recipe of the name, in this slot
pub record HasPlace (slots : ℕ) (name : List ℕ) (recipes : Recipes) (survey : Survey) (p : ℕ) : Type 0 where
  pub space : has_space slots name recipes ≡ true
  pub free : survey.free ≡ Some p
  pub low : survey.next < 2 ^ 63
  pub room : contains_key recipes name ≡ false → len recipes < slots - 1

-- two tests that find the same
first_same : (one other : ℕ → Option ℕ) (n : ℕ) → ((k : ℕ) → k < n → one k ≡ other k) → first_at one n ≡ first_at other n
first_same one other zero same = refl
first_same one other (suc m) same =
    ap (λ o. or_else o (one m)) (first_same one other m (λ k below. same k (omega (arith, below))))
    ∙ ap (or_else (first_at other m)) (same m (omega arith))

-- ---- a file at rest, and the slot of a name

-- a slot that is open is live
module _ (slots : ℕ) (s : Story) (rests : Rests slots s) where
  abbrev S : ℕ → RecipeSlot
  S = slot_in s.now.bytes

  file : IsFile slots s.now.bytes
  file = file_at slots s rests

  live : (k : ℕ) → k < slots → is_live (S k).head ≡ is_open (S k)
  live k below = live_is (S k).head (file.area.fields k below)

  -- the slot of a name, by what is looked for
  pub named_there : (name : List ℕ) →
      first_at (λ k. if is_open (S k) && bytes_eq (name_of (S k)) name then Some k else None) slots ≡ named_at S name slots
  named_there name =
      first_same _ _ slots
      (λ k below. ap (λ b. if b && bytes_eq (name_of (S k)) name then Some k else None) (sym (live k below)))

  module _ (name : List ℕ) (found : Option ℕ) (is : found ≡ named_at S name slots) where
    nameless : named_at S name slots ≡ None → IsNoName S slots name
    nameless none k below opened named =
        let test = none_at (λ k. is_live (S k).head && bytes_eq (name_in (S k).head) name) slots k none below in
        let other : bytes_eq (name_of (S k)) name ≡ false =
        sym (ap (λ b. b && bytes_eq (name_of (S k)) name) (live k below ∙ opened)) ∙ test in
        names_differ (name_of (S k)) name other named

    slot_there : (q : ℕ) → named_at S name slots ≡ Some q → (q < slots) × (is_open (S q) ≡ true) × (name_of (S q) ≡ name)
    slot_there q here =
        let there = some_at (λ k. is_live (S k).head && bytes_eq (name_in (S k).head) name) slots q here in
        let both = and_parts (is_live (S q).head) (bytes_eq (name_of (S q)) name) there.1 in
        (there.0, sym (live q there.0) ∙ both.0, names_agree (name_of (S q)) name both.1)

    replaces_by : (place : Option ℕ) → named_at S name slots ≡ place → Replaces slots name S place
    replaces_by None at = nameless at
    replaces_by (Some q) at = slot_there q at

    pub replaces : Replaces slots name S found
    replaces = replaces_by found (sym is)

    -- the recipe of the name
    pub found_gets : (q : ℕ) → found ≡ Some q → get (recipes_in s.now.bytes) name ≡ Some (recipe_of (S q))
    found_gets q here =
        let there = slot_there q (sym is ∙ here) in
        ap (λ (r : Recipes). get r name) (sym (recipes_are slots s rests))
        ∙ held S slots name q (record {
          below = there.0;
          opened = there.1;
          named = there.2;
          newest = λ j below other opened named. absurd (other (rests.tidy j q below there.0 opened there.1 (named ∙ sym there.2)));
        })

    pub none_gets : found ≡ None → get (recipes_in s.now.bytes) name ≡ None
    none_gets none =
        ap (λ (r : Recipes). get r name) (sym (recipes_are slots s rests)) ∙ unheld S slots name (nameless (sym is ∙ none))

    known_by : (place : Option ℕ) → found ≡ place → contains_key (recipes_in s.now.bytes) name ≡ is_some place
    known_by None at = ap (λ (o : Option Recipe). is_some o) (none_gets at)
    known_by (Some q) at = ap (λ (o : Option Recipe). is_some o) (found_gets q at)

    pub known : contains_key (recipes_in s.now.bytes) name ≡ is_some found
    known = known_by found refl

  -- any slot that is open and has the name is the one
  pub named_here : (name : List ℕ) (q : ℕ) → q < slots → (is_open (S q) && bytes_eq (name_of (S q)) name) ≡ true → named_at S name slots ≡ Some q
  named_here name q below here = by (named_at S name slots) refl
    where
      both : (is_open (S q) ≡ true) × (bytes_eq (name_of (S q)) name ≡ true)
      both = and_parts (is_open (S q)) (bytes_eq (name_of (S q)) name) here

      named : name_of (S q) ≡ name
      named = names_agree (name_of (S q)) name both.1

      by : (place : Option ℕ) → named_at S name slots ≡ place → place ≡ Some q
      by None none = absurd (nameless name None (sym none) none q below both.0 named)
      by (Some p) at =
          let there = slot_there name (Some p) (sym at) p at in
          ap Some (rests.tidy p q there.0 below there.1 both.0 (there.2 ∙ sym named))

  pub named_found : (name : List ℕ) (found : Option ℕ) (q : ℕ) → found ≡ Some q → IfSome found (λ k. k < slots) →
      IfSome found (λ k. (is_open (S k) && bytes_eq (name_of (S k)) name) ≡ true) → found ≡ named_at S name slots
  named_found name found q is below here =
      is
      ∙ sym (named_here name q (subst (λ (o : Option ℕ). IfSome o (λ k. k < slots)) is below)
      (subst (λ (o : Option ℕ). IfSome o (λ k. (is_open (S k) && bytes_eq (name_of (S k)) name) ≡ true)) is here))

module _ (slots : ℕ) (s : Story) (rests : Rests slots s) (two : 2 ≤ slots) (name : List ℕ) (survey : Survey) (is : IsSurvey (slot_in s.now.bytes) name slots survey) where
  abbrev T : ℕ → RecipeSlot
  T = slot_in s.now.bytes

  abbrev R : Recipes
  R = recipes_below T slots

  area : IsArea T slots
  area = (file slots s rests).area

  known_is : contains_key (recipes_in s.now.bytes) name ≡ is_some survey.found
  known_is = known slots s rests name survey.found is.found

  pub count_is : survey.count ≡ len (recipes_in s.now.bytes)
  count_is = is.count ∙ count_below T slots rests.tidy area.fields slots (omega arith) ∙ ap len (recipes_are slots s rests)

  pub next_is : survey.next ≡ next_number (recipes_in s.now.bytes)
  next_is = is.next ∙ behind_below T slots rests.tidy area.fields slots (omega arith) ∙ ap next_number (recipes_are slots s rests)

  -- a free slot
  pub free_there : (p : ℕ) → survey.free ≡ Some p → (p < slots) × (is_open (T p) ≡ false)
  free_there p found =
      let there = some_at (λ k. not (is_open (T k))) slots p (sym is.free ∙ found) in
      (there.0, turned (is_open (T p)) there.1)
    where
      turned : (b : Bool) → not b ≡ true → b ≡ false
      turned true h = absurd cc
      turned false h = refl

  -- there is always one
  full : survey.free ≡ None → ⊥
  full none =
      let all = all_counted slots (omega arith) (λ k below. shut_not (is_open (T k)) (none_at (λ k. not (is_open (T k))) slots k (sym is.free ∙ none) below)) in
      let few = area.few in
      let count : live_count T slots ≡ len R = count_below T slots rests.tidy area.fields slots (omega arith) in
      omega (arith, all, few, count, two)
    where
      shut_not : (b : Bool) → not b ≡ false → b ≡ true
      shut_not true h = refl
      shut_not false h = absurd cc

      all_counted : (m : ℕ) → m ≤ slots → ((k : ℕ) → k < slots → is_open (T k) ≡ true) → live_count T m ≡ m
      all_counted zero within each = refl
      all_counted (suc m) within each =
          ap (λ b. if b then live_count T m + 1 else live_count T m) (live slots s rests m (omega (arith, within)) ∙ each m (omega (arith, within)))
          ∙ ap (λ (c : ℕ). c + 1) (all_counted m (omega (arith, within)) each)
          ∙ omega arith

  -- ---- whether there is space

  abbrev spaced : Bool → ℕ → ℕ → Bool
  spaced is_known many behind = (is_known || nat_lt many (slots - 1)) && nat_lt behind (2 ^ 63)

  space_is : has_space slots name (recipes_in s.now.bytes) ≡ spaced (is_some survey.found) survey.count survey.next
  space_is =
      ap (λ b. spaced b (len (recipes_in s.now.bytes)) (next_number (recipes_in s.now.bytes))) known_is
      ∙ ap (λ (n : ℕ). spaced (is_some survey.found) n (next_number (recipes_in s.now.bytes))) (sym count_is)
      ∙ ap (λ (n : ℕ). spaced (is_some survey.found) survey.count n) (sym next_is)

  abbrev placed : Bool → Bool → Option ℕ → Option ℕ
  placed spent narrow free = if spent then None else (if narrow then None else free)

  place_by : (spent narrow : Bool) → nat_le (2 ^ 63) survey.next ≡ spent → (is_none survey.found && nat_le slots (survey.count + 1)) ≡ narrow → (p : ℕ) →
      placed spent narrow survey.free ≡ Some p → HasPlace slots name (recipes_in s.now.bytes) survey p
  place_by true narrow a b p found = absurd cc
  place_by false true a b p found = absurd cc
  place_by false false a b p found =
      let low : survey.next < 2 ^ 63 = grind (arith, nat_tests, a) in record {
        space = space_is ∙ spaced_by (is_some survey.found) refl low;
        free = found;
        low = low;
        room = λ unknown. subst (λ n. n < slots - 1) count_is (narrow_not (is_some survey.found) refl (sym known_is ∙ unknown));
      }
    where
      wide : (found : Option ℕ) → is_some found ≡ false → (is_none found && nat_le slots (survey.count + 1)) ≡ false → nat_le slots (survey.count + 1) ≡ false
      wide None unknown test = test
      wide (Some q) unknown test = absurd cc

      narrow_not : (x : Bool) → is_some survey.found ≡ x → is_some survey.found ≡ false → survey.count < slots - 1
      narrow_not x is_x unknown =
          let test : nat_le slots (survey.count + 1) ≡ false = wide survey.found unknown b in
          grind (arith, nat_tests, test)

      spaced_by : (x : Bool) → is_some survey.found ≡ x → survey.next < 2 ^ 63 → spaced (is_some survey.found) survey.count survey.next ≡ true
      spaced_by true is_x low =
          let behind : nat_lt survey.next (2 ^ 63) ≡ true = grind (arith, nat_tests, low) in
          ap (λ x. spaced x survey.count survey.next) is_x ∙ behind
      spaced_by false is_x low =
          let behind : nat_lt survey.next (2 ^ 63) ≡ true = grind (arith, nat_tests, low) in
          let less = narrow_not false is_x is_x in
          let many : nat_lt survey.count (slots - 1) ≡ true = grind (arith, nat_tests, less) in
          ap (λ x. spaced x survey.count survey.next) is_x
          ∙ ap (λ x. x && nat_lt survey.next (2 ^ 63)) many ∙ behind

  pub has_place : (p : ℕ) → place_for slots survey ≡ Some p → HasPlace slots name (recipes_in s.now.bytes) survey p
  has_place p found = place_by (nat_le (2 ^ 63) survey.next) (is_none survey.found && nat_le slots (survey.count + 1)) refl refl p found

  no_place_by : (spent narrow : Bool) → nat_le (2 ^ 63) survey.next ≡ spent → (is_none survey.found && nat_le slots (survey.count + 1)) ≡ narrow →
      placed spent narrow survey.free ≡ None → has_space slots name (recipes_in s.now.bytes) ≡ false
  no_place_by true narrow a b none =
      let behind : nat_lt survey.next (2 ^ 63) ≡ false = grind (arith, nat_tests, a) in
      space_is ∙ and_right (is_some survey.found || nat_lt survey.count (slots - 1)) (nat_lt survey.next (2 ^ 63)) behind
  no_place_by false true a b none = space_is ∙ ap (λ x. x && nat_lt survey.next (2 ^ 63)) (narrow_is survey.found b)
    where
      narrow_is : (found : Option ℕ) → (is_none found && nat_le slots (survey.count + 1)) ≡ true → (is_some found || nat_lt survey.count (slots - 1)) ≡ false
      narrow_is None test = grind (arith, nat_tests, test)
      narrow_is (Some q) test = absurd cc
  no_place_by false false a b none = absurd (full none)

  pub no_place : place_for slots survey ≡ None → has_space slots name (recipes_in s.now.bytes) ≡ false
  no_place none =
      no_place_by (nat_le (2 ^ 63) survey.next) (is_none survey.found && nat_le slots (survey.count + 1)) refl refl none
