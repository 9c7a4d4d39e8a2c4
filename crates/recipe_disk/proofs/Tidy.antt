-- What tidy slots hold: each open one adds a recipe of a new name.
use Rattle.std.proofs.Common.{◌≡◌, refl, sym, ap, subst, ◌∙◌, ℕ, zero, suc, ◌+◌, ◌<◌, ◌≤◌, ◌⊎◌, inl, inr, ◌&&◌, Bool, true, false, cond, List, [], All, fold, is_none, is_some, map, max, nat_eq, Option, None, if◌then◌else◌, arith}
use Rattle.std.proofs.lemmas.Bool.Decides.{nat_tests}
use Rattle.std.proofs.lemmas.List.Elements.{All-nil}
use Rattle.std.specs.Cmp.Lexicographic.{nat_list_cmp_total}
use Rattle.std.specs.FinMap.{empty, entries, get, insert, len, len-empty, len-insert}
use Rattle.std.specs.List.{IsDistinct}
use Rattle.gem_recipes.specs.NoRecipes.{no_entries}
use Rattle.gem_recipes.specs.Recipes.{EntryFits, Recipe, Recipes, RecipesFit, by_bytes, next_number, numbers_of}
use Rattle.recipe_disk.specs.Map.{IsTidy, is_newer, recipes_below}
use Rattle.recipe_disk.specs.Slot.{RecipeSlot, fields_break, head_break, is_open, name_of, number_of, recipe_of}
use Rattle.recipe_disk.specs.Survey.{behind_live, is_live, live_count}
use Rattle.recipe_disk.specs.declared.head.Head.{Head}
use Rattle.recipe_disk.proofs.Areas.{IsArea}
use Rattle.recipe_disk.proofs.Entries.{distinct_insert, each_insert, next_insert}
use Rattle.recipe_disk.proofs.Holders.{Differ, closed_same, last_or, newer_put, not_both, unheld}

-- an open head with sound fields is live, and no other is
pub live_is : (head : Head) → head_break head ≡ None → is_live head ≡ head.opened
live_is head none = by head.opened refl
  where
    by : (b : Bool) → head.opened ≡ b → (head.opened && is_none (fields_break head)) ≡ head.opened
    by true opened =
        let sound : fields_break head ≡ None = sym (ap (λ b. if b then fields_break head else None) opened) ∙ none in
        ap (λ b. b && is_none (fields_break head)) opened ∙ ap (λ (o : Option ℕ). is_none o) sound ∙ sym opened
    by false shut = ap (λ b. b && is_none (fields_break head)) shut ∙ sym shut

-- no recipes have no numbers
none_next : next_number empty ≡ 0
none_next = ap (λ (held : List (List ℕ × Recipe)). fold (λ next number. max next (number + 1)) 0 (map (λ recipe. recipe.number) (map (λ e. e.1) held))) no_entries

none_apart : IsDistinct nat_eq []
unfolding IsDistinct
none_apart = tt

none_distinct : IsDistinct nat_eq (numbers_of empty)
none_distinct =
    subst (λ (held : List (List ℕ × Recipe)). IsDistinct nat_eq (map (λ recipe. recipe.number) (map (λ e. e.1) held))) (sym no_entries) none_apart

module _ (slot : ℕ → RecipeSlot) (n : ℕ) (tidy : IsTidy slot n) where
  -- the name of an open slot is new
  pub new_name : (m : ℕ) → m < n → is_open (slot m) ≡ true → get (recipes_below slot m) (name_of (slot m)) ≡ None
  new_name m below opened =
      unheld slot m (name_of (slot m)) (λ j less there named.
      let one = tidy j m (omega (arith, less, below)) below there opened named in omega (arith, one, less))

  -- so it is inserted
  pub adds : (m : ℕ) → m < n → is_open (slot m) ≡ true → recipes_below slot (suc m) ≡ insert (recipes_below slot m) (name_of (slot m)) (recipe_of (slot m))
  adds m below opened =
      newer_put (slot m) (recipes_below slot m) opened (ap (is_newer (number_of (slot m))) (new_name m below opened))

  pub skips : (m : ℕ) → is_open (slot m) ≡ false → recipes_below slot (suc m) ≡ recipes_below slot m
  skips m shut = closed_same (slot m) (recipes_below slot m) shut

  -- what holds of each open slot holds of each entry
  each_step : (P : List ℕ × Recipe → Type 0) (m : ℕ) → m < n → (is_open (slot m) ≡ true → P (name_of (slot m), recipe_of (slot m))) → All P (entries (recipes_below slot m)) →
      All P (entries (recipes_below slot (suc m)))
  each_step P m below here each = by (is_open (slot m)) refl
    where
      by : (b : Bool) → is_open (slot m) ≡ b → All P (entries (recipes_below slot (suc m)))
      by true opened =
          subst (λ (R : Recipes). All P (entries R)) (sym (adds m below opened))
          (each_insert (recipes_below slot m) (name_of (slot m)) (recipe_of (slot m)) (new_name m below opened) P (here opened) each)
      by false shut = subst (λ (R : Recipes). All P (entries R)) (sym (skips m shut)) each

  pub each_below : (P : List ℕ × Recipe → Type 0) (m : ℕ) → m ≤ n → ((k : ℕ) → k < m → is_open (slot k) ≡ true → P (name_of (slot k), recipe_of (slot k))) →
      All P (entries (recipes_below slot m))
  each_below P zero within here = subst (All P) (sym no_entries) (All-nil P)
  each_below P (suc m) within here =
      each_step P m (omega (arith, within)) (here m (omega arith))
      (each_below P m (omega (arith, within)) (λ k below. here k (omega (arith, below))))

  -- ---- numbers

  other_number : (a b : ℕ) → (a ≡ b → ⊥) → nat_eq a b ≡ false
  other_number a b apart = grind (arith, nat_tests, apart)

  distinct_step : Differ slot n → (m : ℕ) → m < n → IsDistinct nat_eq (numbers_of (recipes_below slot m)) → IsDistinct nat_eq (numbers_of (recipes_below slot (suc m)))
  distinct_step differ m below distinct = by (is_open (slot m)) refl
    where
      by : (b : Bool) → is_open (slot m) ≡ b → IsDistinct nat_eq (numbers_of (recipes_below slot (suc m)))
      by true opened =
          subst (λ (R : Recipes). IsDistinct nat_eq (numbers_of R)) (sym (adds m below opened))
          (distinct_insert (recipes_below slot m) (name_of (slot m)) (recipe_of (slot m)) (new_name m below opened)
          (each_below (λ e. nat_eq (number_of (slot m)) e.1.number ≡ false) m (omega (arith, below))
          (λ k less there. other_number (number_of (slot m)) (number_of (slot k))
          (λ same. let one = differ m k below (omega (arith, less, below)) opened there same in omega (arith, one, less)))) distinct)
      by false shut = subst (λ (R : Recipes). IsDistinct nat_eq (numbers_of R)) (sym (skips m shut)) distinct

  pub distinct_below : Differ slot n → (m : ℕ) → m ≤ n → IsDistinct nat_eq (numbers_of (recipes_below slot m))
  distinct_below differ zero within = none_distinct
  distinct_below differ (suc m) within =
      distinct_step differ m (omega (arith, within)) (distinct_below differ m (omega (arith, within)))

  -- ---- counts

  module _ (sound : (k : ℕ) → k < n → head_break (slot k).head ≡ None) where
    count_step : (m : ℕ) → m < n → live_count slot m ≡ len (recipes_below slot m) → live_count slot (suc m) ≡ len (recipes_below slot (suc m))
    count_step m below before = by (is_open (slot m)) refl
      where
        by : (b : Bool) → is_open (slot m) ≡ b → live_count slot (suc m) ≡ len (recipes_below slot (suc m))
        by true opened =
            ap (λ b. if b then live_count slot m + 1 else live_count slot m) (live_is (slot m).head (sound m below) ∙ opened)
            ∙ ap (λ (c : ℕ). c + 1) before
            ∙ sym (ap len (adds m below opened)
            ∙ len-insert nat_list_cmp_total (recipes_below slot m) (name_of (slot m)) (recipe_of (slot m))
            ∙ ap (λ (o : Option Recipe). cond (is_some o) (len (recipes_below slot m)) (len (recipes_below slot m) + 1)) (new_name m below opened))
        by false shut =
            ap (λ b. if b then live_count slot m + 1 else live_count slot m) (live_is (slot m).head (sound m below) ∙ shut)
            ∙ before ∙ sym (ap len (skips m shut))

    pub count_below : (m : ℕ) → m ≤ n → live_count slot m ≡ len (recipes_below slot m)
    count_below zero within = sym (len-empty by_bytes Recipe)
    count_below (suc m) within = count_step m (omega (arith, within)) (count_below m (omega (arith, within)))

    behind_step : (m : ℕ) → m < n → behind_live slot m ≡ next_number (recipes_below slot m) → behind_live slot (suc m) ≡ next_number (recipes_below slot (suc m))
    behind_step m below before = by (is_open (slot m)) refl
      where
        by : (b : Bool) → is_open (slot m) ≡ b → behind_live slot (suc m) ≡ next_number (recipes_below slot (suc m))
        by true opened =
            ap (λ b. if b then max (behind_live slot m) (number_of (slot m) + 1) else behind_live slot m) (live_is (slot m).head (sound m below) ∙ opened)
            ∙ ap (λ (c : ℕ). max c (number_of (slot m) + 1)) before
            ∙ sym (ap next_number (adds m below opened)
            ∙ next_insert (recipes_below slot m) (name_of (slot m)) (recipe_of (slot m)) (new_name m below opened))
        by false shut =
            ap (λ b. if b then max (behind_live slot m) (number_of (slot m) + 1) else behind_live slot m) (live_is (slot m).head (sound m below) ∙ shut)
            ∙ before ∙ sym (ap next_number (skips m shut))

    pub behind_below : (m : ℕ) → m ≤ n → behind_live slot m ≡ next_number (recipes_below slot m)
    behind_below zero within = sym none_next
    behind_below (suc m) within = behind_step m (omega (arith, within)) (behind_below m (omega (arith, within)))

  -- it is above all open numbers
  pub all_below : (m k : ℕ) → k < m → m ≤ n → is_open (slot k) ≡ true → head_break (slot k).head ≡ None → number_of (slot k) < behind_live slot m
  all_below zero k below within opened sound = absurd (omega (arith, below))
  all_below (suc m) k below within opened sound =
      by (last_or k m below) (λ less. all_below m k less (omega (arith, within)) opened sound) (is_live (slot m).head) refl
    where
      by : (k ≡ m) ⊎ (k < m) → (k < m → number_of (slot k) < behind_live slot m) → (b : Bool) → is_live (slot m).head ≡ b →
          number_of (slot k) < (if is_live (slot m).head then max (behind_live slot m) (number_of (slot m) + 1) else behind_live slot m)
      by (inl same) before true live =
          let here : number_of (slot k) ≡ number_of (slot m) = ap (λ i. number_of (slot i)) same in
          subst (λ b. number_of (slot k) < (if b then max (behind_live slot m) (number_of (slot m) + 1) else behind_live slot m)) (sym live)
          (omega (arith, here))
      by (inl same) before false dead =
          absurd (not_both (is_live (slot m).head)
          (subst (λ i. is_live (slot i).head ≡ true) same (live_is (slot k).head sound ∙ opened)) dead)
      by (inr less) before true live =
          let earlier = before less in
          subst (λ b. number_of (slot k) < (if b then max (behind_live slot m) (number_of (slot m) + 1) else behind_live slot m)) (sym live)
          (omega (arith, earlier))
      by (inr less) before false dead =
          subst (λ b. number_of (slot k) < (if b then max (behind_live slot m) (number_of (slot m) + 1) else behind_live slot m)) (sym dead)
          (before less)

  pub recipes_fit : IsArea slot n → ((k : ℕ) → k < n → is_open (slot k) ≡ true → EntryFits (name_of (slot k), recipe_of (slot k))) → RecipesFit n (recipes_below slot n)
  recipes_fit area each = record {
    few = area.few;
    each = each_below EntryFits n (omega arith) each;
    distinct = distinct_below area.differ n (omega arith);
  }
