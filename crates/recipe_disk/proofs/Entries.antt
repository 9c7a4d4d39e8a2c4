-- The entries of a map with one whose name is new.
use Rattle.std.proofs.Common.{◌≡◌, refl, sym, ap, subst, ◌∙◌, ℕ, ◌+◌, false, List, [], ◌∷◌, fold, is_eq, map, max, nat_eq, None, Some, if◌then◌else◌, Less, Equal, Greater, arith, All}
use Rattle.std.proofs.lemmas.Bool.Decides.{nat_tests}
use Rattle.std.proofs.lemmas.List.Elements.{All-cons, All-head, All-tail}
use Rattle.std.proofs.lemmas.Map.Keys.{IsDistinct-cons, IsDistinct-head, IsDistinct-tail}
use Rattle.std.specs.Cmp.Lexicographic.{nat_list_cmp_total}
use Rattle.std.specs.FinMap.{entries, entries-insert, find, get, get-entries, insert, put}
use Rattle.std.specs.FinMap.Entries.{by_order}
use Rattle.std.specs.List.{AllByRecursion, IsDistinct}
use Rattle.std.specs.declared.cmp.Ordering.{Ordering}
use Rattle.gem_recipes.specs.Recipes.{Recipe, Recipes, by_bytes, next_number, numbers_of}

abbrev pub Entries : Type 0
Entries = List (List ℕ × Recipe)

abbrev pub numbers : Entries → List ℕ
numbers held = map (λ recipe. recipe.number) (map (λ e. e.1) held)

not_none : (recipe : Recipe) → Some recipe ≡ None → ⊥
not_none recipe is = absurd cc

-- a name that is found nowhere ties with none
module _ (name : List ℕ) (e : List ℕ × Recipe) (held : Entries) (nowhere : find by_bytes name (e ∷ held) ≡ None) where
  pub not_tied : by_bytes name e.0 ≡ Equal → ⊥
  not_tied is = not_none e.1 (sym (ap (λ (o : Ordering). if is_eq o then Some e.1 else find by_bytes name held) is) ∙ nowhere)

  pub later_too : by_bytes name e.0 ≡ Greater → find by_bytes name held ≡ None
  later_too is = sym (ap (λ (o : Ordering). if is_eq o then Some e.1 else find by_bytes name held) is) ∙ nowhere

-- the three ways of putting it
abbrev placed : List ℕ → Recipe → (e : List ℕ × Recipe) → Entries → Ordering → Entries
placed name recipe e held o =
    by_order o ((name, recipe) ∷ e ∷ held) ((e.0, recipe) ∷ held) (e ∷ put by_bytes name recipe held)

-- ---- what holds of all

pub each_put : (P : List ℕ × Recipe → Type 0) (name : List ℕ) (recipe : Recipe) (held : Entries) → find by_bytes name held ≡ None → P (name, recipe) → All P held →
    All P (put by_bytes name recipe held)
each_put P name recipe [] nowhere here each = All-cons P (name, recipe) [] here each
each_put P name recipe (e ∷ held) nowhere here each =
    by (by_bytes name e.0) refl (λ greater. each_put P name recipe held (later_too name e held nowhere greater) here (All-tail P e held each))
  where
    by : (o : Ordering) → by_bytes name e.0 ≡ o → (by_bytes name e.0 ≡ Greater → All P (put by_bytes name recipe held)) → All P (placed name recipe e held o)
    by Less is later = All-cons P (name, recipe) (e ∷ held) here each
    by Equal is later = absurd (not_tied name e held nowhere is)
    by Greater is later = All-cons P e (put by_bytes name recipe held) (All-head P e held each) (later is)

-- ---- numbers

abbrev next_from : ℕ → List ℕ → ℕ
next_from next all = fold (λ before number. max before (number + 1)) next all

next_max : (a b : ℕ) (all : List ℕ) → next_from (max a b) all ≡ max (next_from a all) b
next_max a b [] = refl
next_max a b (one ∷ more) =
    let swap : max (max a b) (one + 1) ≡ max (max a (one + 1)) b = omega arith in
    ap (λ (n : ℕ). next_from n more) swap ∙ next_max (max a (one + 1)) b more

abbrev Later : ℕ → List ℕ → Recipe → Entries → Type 0
Later a name recipe held = next_from a (numbers (put by_bytes name recipe held)) ≡ max (next_from a (numbers held)) (recipe.number + 1)

next_put : (a : ℕ) (name : List ℕ) (recipe : Recipe) (held : Entries) → find by_bytes name held ≡ None →
    next_from a (numbers (put by_bytes name recipe held)) ≡ max (next_from a (numbers held)) (recipe.number + 1)
next_put a name recipe [] nowhere = refl
next_put a name recipe (e ∷ held) nowhere =
    by (by_bytes name e.0) refl (λ greater. next_put (max a (e.1.number + 1)) name recipe held (later_too name e held nowhere greater))
  where
    by : (o : Ordering) → by_bytes name e.0 ≡ o → (by_bytes name e.0 ≡ Greater → Later (max a (e.1.number + 1)) name recipe held) →
        next_from a (numbers (placed name recipe e held o)) ≡ max (next_from a (numbers (e ∷ held))) (recipe.number + 1)
    by Less is later =
        let swap : max (max a (recipe.number + 1)) (e.1.number + 1) ≡ max (max a (e.1.number + 1)) (recipe.number + 1) = omega arith in
        ap (λ (n : ℕ). next_from n (numbers held)) swap ∙ next_max (max a (e.1.number + 1)) (recipe.number + 1) (numbers held)
    by Equal is later = absurd (not_tied name e held nowhere is)
    by Greater is later = later is

pub next_insert : (R : Recipes) (name : List ℕ) (recipe : Recipe) → get R name ≡ None → next_number (insert R name recipe) ≡ max (next_number R) (recipe.number + 1)
next_insert R name recipe none =
    ap (λ (held : Entries). next_from 0 (numbers held)) (entries-insert nat_list_cmp_total R name recipe)
    ∙ next_put 0 name recipe (entries R) (sym (get-entries R name) ∙ none)

-- other numbers
abbrev Apart : ℕ → List ℕ → Type 0
Apart number all = AllByRecursion (λ other. nat_eq number other ≡ false) all

turned : (a b : ℕ) → nat_eq a b ≡ false → nat_eq b a ≡ false
turned a b is = grind (arith, nat_tests, is)

apart_put : (number : ℕ) (name : List ℕ) (recipe : Recipe) (held : Entries) → nat_eq number recipe.number ≡ false → Apart number (numbers held) →
    Apart number (numbers (put by_bytes name recipe held))
apart_put number name recipe [] other apart = (other, tt)
apart_put number name recipe (e ∷ held) other apart = by (by_bytes name e.0) (apart_put number name recipe held other apart.1)
  where
    by : (o : Ordering) → Apart number (numbers (put by_bytes name recipe held)) → Apart number (numbers (placed name recipe e held o))
    by Less later = (other, apart)
    by Equal later = (other, apart.1)
    by Greater later = (apart.0, later)

distinct_put : (name : List ℕ) (recipe : Recipe) (held : Entries) → find by_bytes name held ≡ None → Apart recipe.number (numbers held) → IsDistinct nat_eq (numbers held) →
    IsDistinct nat_eq (numbers (put by_bytes name recipe held))
distinct_put name recipe [] nowhere apart distinct = let none : Apart recipe.number [] = tt in IsDistinct-cons nat_eq recipe.number [] none distinct
distinct_put name recipe (e ∷ held) nowhere apart distinct =
    by (by_bytes name e.0) refl (λ greater. distinct_put name recipe held (later_too name e held nowhere greater) apart.1 (IsDistinct-tail nat_eq e.1.number (numbers held) distinct))
  where
    by : (o : Ordering) → by_bytes name e.0 ≡ o → (by_bytes name e.0 ≡ Greater → IsDistinct nat_eq (numbers (put by_bytes name recipe held))) →
        IsDistinct nat_eq (numbers (placed name recipe e held o))
    by Less is later = IsDistinct-cons nat_eq recipe.number (numbers (e ∷ held)) apart distinct
    by Equal is later = absurd (not_tied name e held nowhere is)
    by Greater is later =
        IsDistinct-cons nat_eq e.1.number (numbers (put by_bytes name recipe held))
        (apart_put e.1.number name recipe held (turned recipe.number e.1.number apart.0) (IsDistinct-head nat_eq e.1.number (numbers held) distinct)) (later is)

apart_of : (number : ℕ) (held : Entries) → All (λ e. nat_eq number e.1.number ≡ false) held → Apart number (numbers held)
apart_of number [] each = tt
apart_of number (e ∷ held) each =
    (All-head (λ e. nat_eq number e.1.number ≡ false) e held each, apart_of number held (All-tail (λ e. nat_eq number e.1.number ≡ false) e held each))

module _ (R : Recipes) (name : List ℕ) (recipe : Recipe) (none : get R name ≡ None) where
  nowhere : find by_bytes name (entries R) ≡ None
  nowhere = sym (get-entries R name) ∙ none

  pub each_insert : (P : List ℕ × Recipe → Type 0) → P (name, recipe) → All P (entries R) → All P (entries (insert R name recipe))
  each_insert P here each =
      subst (All P) (sym (entries-insert nat_list_cmp_total R name recipe)) (each_put P name recipe (entries R) nowhere here each)

  pub distinct_insert : All (λ e. nat_eq recipe.number e.1.number ≡ false) (entries R) → IsDistinct nat_eq (numbers_of R) → IsDistinct nat_eq (numbers_of (insert R name recipe))
  distinct_insert apart distinct =
      subst (λ (held : Entries). IsDistinct nat_eq (numbers held)) (sym (entries-insert nat_list_cmp_total R name recipe))
      (distinct_put name recipe (entries R) nowhere (apart_of recipe.number (entries R) apart) distinct)
