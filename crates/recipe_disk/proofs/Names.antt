-- The names of the recipes in their order, with one more.
use Rattle.std.proofs.Common.{◌≡◌, refl, sym, ap, ◌∙◌, ℕ, suc, ◌+◌, ◌<◌, Bool, true, false, List, [], ◌∷◌, map, None, if◌then◌else◌, Less, Equal, Greater, arith}
use Rattle.std.specs.Cmp.Lexicographic.{nat_list_cmp_total}
use Rattle.std.specs.FinMap.{entries, entries-insert, find, get, get-entries, insert, put}
use Rattle.std.specs.FinMap.Entries.{by_order}
use Rattle.std.specs.List.{insert as put_at}
use Rattle.std.specs.Ordering.{is_lt, ordering_reverse}
use Rattle.std.specs.declared.cmp.Ordering.{Ordering}
use Rattle.gem_recipes.specs.NoRecipes.{no_entries}
use Rattle.gem_recipes.specs.Recipes.{Recipe, Recipes, by_bytes, names_of}
use Rattle.recipe_disk.specs.Map.{IsTidy, recipes_below}
use Rattle.recipe_disk.specs.Slot.{RecipeSlot, is_open, name_of, recipe_of}
use Rattle.recipe_disk.proofs.Entries.{Entries, later_too, not_tied}
use Rattle.recipe_disk.proofs.Tidy.{adds, new_name, skips}

-- how many names at the front of a list come before this one
abbrev pub place_among : List ℕ → List (List ℕ) → ℕ
place_among name [] = 0
place_among name (other ∷ names) = if is_lt (by_bytes other name) then place_among name names + 1 else 0

abbrev names_in : Entries → List (List ℕ)
names_in held = map (λ e. e.0) held

-- where a name belongs in front of another, and behind it
turned : (name other : List ℕ) (o : Ordering) → by_bytes name other ≡ o → is_lt (by_bytes other name) ≡ is_lt (ordering_reverse o)
turned name other o is = ap is_lt (nat_list_cmp_total.antisymm other name ∙ ap ordering_reverse is)

pub one_behind : (names : List (List ℕ)) (name other : List ℕ) (n : ℕ) → put_at (other ∷ names) (n + 1) name ≡ other ∷ put_at names n name
one_behind names name other n =
    let one : n + 1 ≡ suc n = omega arith in ap (λ (k : ℕ). put_at (other ∷ names) k name) one

pub names_put : (name : List ℕ) (recipe : Recipe) (held : Entries) → find by_bytes name held ≡ None →
    names_in (put by_bytes name recipe held) ≡ put_at (names_in held) (place_among name (names_in held)) name
names_put name recipe [] nowhere = refl
names_put name recipe (e ∷ held) nowhere =
    by (by_bytes name e.0) refl (λ greater. names_put name recipe held (later_too name e held nowhere greater))
  where
    by : (o : Ordering) → by_bytes name e.0 ≡ o →
        (by_bytes name e.0 ≡ Greater → names_in (put by_bytes name recipe held) ≡ put_at (names_in held) (place_among name (names_in held)) name) →
        names_in (by_order o ((name, recipe) ∷ e ∷ held) ((e.0, recipe) ∷ held) (e ∷ put by_bytes name recipe held))
        ≡ put_at (names_in (e ∷ held)) (place_among name (names_in (e ∷ held))) name
    by Less is later =
        sym (ap (λ (b : Bool). put_at (names_in (e ∷ held)) (if b then place_among name (names_in held) + 1 else 0) name) (turned name e.0 Less is))
    by Equal is later = absurd (not_tied name e held nowhere is)
    by Greater is later =
        ap (λ (names : List (List ℕ)). e.0 ∷ names) (later is)
        ∙ sym (ap (λ (b : Bool). put_at (names_in (e ∷ held)) (if b then place_among name (names_in held) + 1 else 0) name) (turned name e.0 Greater is)
        ∙ one_behind (names_in held) name e.0 (place_among name (names_in held)))

pub names_insert : (R : Recipes) (name : List ℕ) (recipe : Recipe) → get R name ≡ None →
    names_of (insert R name recipe) ≡ put_at (names_of R) (place_among name (names_of R)) name
names_insert R name recipe none =
    ap names_in (entries-insert nat_list_cmp_total R name recipe) ∙ names_put name recipe (entries R) (sym (get-entries R name) ∙ none)

-- ---- the names of tidy slots

pub none_named : (slot : ℕ → RecipeSlot) → names_of (recipes_below slot 0) ≡ []
none_named slot = ap names_in no_entries

module _ (slot : ℕ → RecipeSlot) (n : ℕ) (tidy : IsTidy slot n) (m : ℕ) (below : m < n) (names : List (List ℕ)) (are : names ≡ names_of (recipes_below slot m)) where
  pub names_more : is_open (slot m) ≡ true → put_at names (place_among (name_of (slot m)) names) (name_of (slot m)) ≡ names_of (recipes_below slot (m + 1))
  names_more opened =
      let one : suc m ≡ m + 1 = omega arith in
      ap (λ (all : List (List ℕ)). put_at all (place_among (name_of (slot m)) all) (name_of (slot m))) are
      ∙ sym (names_insert (recipes_below slot m) (name_of (slot m)) (recipe_of (slot m)) (new_name slot n tidy m below opened))
      ∙ sym (ap names_of (adds slot n tidy m below opened))
      ∙ ap (λ k. names_of (recipes_below slot k)) one

  pub names_same : is_open (slot m) ≡ false → names ≡ names_of (recipes_below slot (m + 1))
  names_same shut =
      let one : suc m ≡ m + 1 = omega arith in
      are ∙ sym (ap names_of (skips slot n tidy m shut)) ∙ ap (λ k. names_of (recipes_below slot k)) one
