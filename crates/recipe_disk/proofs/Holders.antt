-- The recipes of slots, name by name: what the newest open slot of a name holds.
use Rattle.std.proofs.Common.{◌≡◌, refl, sym, ap, subst, ◌∙◌, ℕ, zero, suc, ◌<◌, ◌≤◌, ◌⊎◌, inl, inr, Bool, true, false, cond, ◌&&◌, bytes_eq, is_eq, nat_lt, List, Option, None, Some, Equal, if◌then◌else◌, arith}
use Rattle.std.proofs.lemmas.Bool.{and_from, and_right, cases_eq, cases_lt}
use Rattle.std.proofs.lemmas.Bool.Decides.{nat_tests}
use Rattle.std.proofs.lemmas.Slice.Eq.{bytes_eq-Decides}
use Rattle.std.specs.Cmp.Lexicographic.{nat_list_cmp_total, texts_ties}
use Rattle.std.specs.FinMap.{get, get-empty, get-insert, insert, nat_cmp-IsAntisymmetric, same_map, slice_cmp-IsAntisymmetric}
use Rattle.std.specs.Option.{unwrap_or}
use Rattle.gem_recipes.specs.Recipes.{Recipe, Recipes, by_bytes}
use Rattle.recipe_disk.specs.Map.{IsHolder, IsNoName, is_newer, recipes_below, with_slot}
use Rattle.recipe_disk.specs.Slot.{RecipeSlot, is_open, name_of, number_of, recipe_of}

-- two names that tie are one, and to tie is to have the same bytes
pub same_name : (a b : List ℕ) → by_bytes a b ≡ Equal → a ≡ b
same_name = slice_cmp-IsAntisymmetric nat_cmp-IsAntisymmetric

pub tie : (a b : List ℕ) → is_eq (by_bytes a b) ≡ bytes_eq a b
tie a b = sym (texts_ties a b)

-- two maps that answer alike are one
pub same_recipes : (a b : Recipes) → ((q : List ℕ) → get a q ≡ get b q) → a ≡ b
same_recipes = same_map nat_list_cmp_total same_name

-- whether two names are one
pub names_differ : (a b : List ℕ) → bytes_eq a b ≡ false → a ≡ b → ⊥
names_differ a b nay is = absurd (grind (arith, nay, (bytes_eq-Decides a b).1 is))

pub names_agree : (a b : List ℕ) → bytes_eq a b ≡ true → a ≡ b
names_agree a b is = (bytes_eq-Decides a b).0 is

pub last_or : (k m : ℕ) → k < suc m → (k ≡ m) ⊎ (k < m)
last_or k m below = by (cases_eq k m)
  where
    by : (k ≡ m) ⊎ (k ≡ m → ⊥) → (k ≡ m) ⊎ (k < m)
    by (inl is) = inl is
    by (inr nay) = inr (grind (arith, below, nay))

pub not_both : (b : Bool) → b ≡ true → b ≡ false → ⊥
not_both b yes_ no_ = absurd (grind (arith, yes_, no_))

-- ---- one slot more

module _ (slot : RecipeSlot) (R : Recipes) where
  abbrev put_in : Recipes
  put_in = insert R (name_of slot) (recipe_of slot)

  pub closed_same : is_open slot ≡ false → with_slot slot R ≡ R
  closed_same is = ap (λ b. if b && is_newer (number_of slot) (get R (name_of slot)) then put_in else R) is

  pub older_same : is_newer (number_of slot) (get R (name_of slot)) ≡ false → with_slot slot R ≡ R
  older_same nay = ap (λ b. if b then put_in else R) (and_right (is_open slot) (is_newer (number_of slot) (get R (name_of slot))) nay)

  pub newer_put : is_open slot ≡ true → is_newer (number_of slot) (get R (name_of slot)) ≡ true → with_slot slot R ≡ put_in
  newer_put is new = ap (λ b. if b then put_in else R) (and_from (is_open slot) (is_newer (number_of slot) (get R (name_of slot))) is new)

  pub other_same : (q : List ℕ) → bytes_eq q (name_of slot) ≡ false → get (with_slot slot R) q ≡ get R q
  other_same q nay = by (is_open slot && is_newer (number_of slot) (get R (name_of slot)))
    where
      by : (b : Bool) → get (if b then put_in else R) q ≡ get R q
      by true =
          get-insert nat_list_cmp_total R (name_of slot) (recipe_of slot) q
          ∙ ap (λ b. cond b (Some (recipe_of slot)) (get R q)) (tie q (name_of slot) ∙ nay)
      by false = refl

  pub there_put : (q : List ℕ) → bytes_eq q (name_of slot) ≡ true → get put_in q ≡ Some (recipe_of slot)
  there_put q is =
      get-insert nat_list_cmp_total R (name_of slot) (recipe_of slot) q
      ∙ ap (λ b. cond b (Some (recipe_of slot)) (get R q)) (tie q (name_of slot) ∙ is)

-- ---- where what a name has comes from

abbrev IsFrom : (ℕ → RecipeSlot) → ℕ → List ℕ → Recipe → ℕ → Type 0
IsFrom slot n name recipe k =
    (k < n) × (is_open (slot k) ≡ true) × (name_of (slot k) ≡ name) × (recipe_of (slot k) ≡ recipe)

same_some : (a b : Recipe) → Some a ≡ Some b → a ≡ b
same_some a b is = ap (λ (o : Option Recipe). unwrap_or o a) is

module _ (slot : ℕ → RecipeSlot) (m : ℕ) (name : List ℕ) (recipe : Recipe) where
  abbrev R : Recipes
  R = recipes_below slot m

  abbrev Found : ℕ → Type 0
  Found n = (k : ℕ) × IsFrom slot n name recipe k

  module _ (before : get R name ≡ Some recipe → Found m) (is : get (with_slot (slot m) R) name ≡ Some recipe) where
    earlier : get R name ≡ Some recipe → Found (suc m)
    earlier there = let from = before there in (from.0, (omega (arith, from.1.0), from.1.1, from.1.2, from.1.3))

    by_age : is_open (slot m) ≡ true → bytes_eq name (name_of (slot m)) ≡ true → (b : Bool) → is_newer (number_of (slot m)) (get R (name_of (slot m))) ≡ b → Found (suc m)
    by_age opened same true new = (
      m,
      (
        omega arith,
        opened,
        sym (names_agree name (name_of (slot m)) same),
        same_some (recipe_of (slot m)) recipe
            (sym (there_put (slot m) R name same) ∙ ap (λ (r : Recipes). get r name) (sym (newer_put (slot m) R opened new)) ∙ is),
      ),
    )
    by_age opened same false new = earlier (ap (λ (r : Recipes). get r name) (sym (older_same (slot m) R new)) ∙ is)

    by_name : is_open (slot m) ≡ true → (b : Bool) → bytes_eq name (name_of (slot m)) ≡ b → Found (suc m)
    by_name opened true same = by_age opened same (is_newer (number_of (slot m)) (get R (name_of (slot m)))) refl
    by_name opened false other = earlier (sym (other_same (slot m) R name other) ∙ is)

    by_gate : (b : Bool) → is_open (slot m) ≡ b → Found (suc m)
    by_gate true opened = by_name opened (bytes_eq name (name_of (slot m))) refl
    by_gate false closed = earlier (ap (λ (r : Recipes). get r name) (sym (closed_same (slot m) R closed)) ∙ is)

    pub source_on : Found (suc m)
    source_on = by_gate (is_open (slot m)) refl

not_some : (recipe : Recipe) → None ≡ Some recipe → ⊥
not_some recipe is = absurd cc

pub source : (slot : ℕ → RecipeSlot) (n : ℕ) (name : List ℕ) (recipe : Recipe) → get (recipes_below slot n) name ≡ Some recipe → (k : ℕ) × IsFrom slot n name recipe k
source slot zero name recipe is = absurd (not_some recipe (sym (get-empty by_bytes name) ∙ is))
source slot (suc m) name recipe is = source_on slot m name recipe (source slot m name recipe) is

-- ---- no open slot of a name

unheld_on : (slot : ℕ → RecipeSlot) (m : ℕ) (name : List ℕ) → IsNoName slot (suc m) name → get (recipes_below slot m) name ≡ None → get (recipes_below slot (suc m)) name ≡ None
unheld_on slot m name none before = by (is_open (slot m)) refl
  where
    named : is_open (slot m) ≡ true → (b : Bool) → bytes_eq name (name_of (slot m)) ≡ b → get (with_slot (slot m) (recipes_below slot m)) name ≡ None
    named opened true same = absurd (none m (omega arith) opened (sym (names_agree name (name_of (slot m)) same)))
    named opened false other = other_same (slot m) (recipes_below slot m) name other ∙ before

    by : (b : Bool) → is_open (slot m) ≡ b → get (with_slot (slot m) (recipes_below slot m)) name ≡ None
    by true opened = named opened (bytes_eq name (name_of (slot m))) refl
    by false closed = ap (λ (r : Recipes). get r name) (closed_same (slot m) (recipes_below slot m) closed) ∙ before

pub unheld : (slot : ℕ → RecipeSlot) (n : ℕ) (name : List ℕ) → IsNoName slot n name → get (recipes_below slot n) name ≡ None
unheld slot zero name none = get-empty by_bytes name
unheld slot (suc m) name none = unheld_on slot m name none (unheld slot m name (λ k below. none k (omega (arith, below))))

-- ---- the newest open slot of a name

-- it is above what those before it have
is_above : (slot : ℕ → RecipeSlot) (m : ℕ) (name : List ℕ) (number : ℕ) → ((j : ℕ) → j < m → is_open (slot j) ≡ true → name_of (slot j) ≡ name → number_of (slot j) < number) →
    is_newer number (get (recipes_below slot m) name) ≡ true
is_above slot m name number newest = by (get (recipes_below slot m) name) refl
  where
    by : (o : Option Recipe) → get (recipes_below slot m) name ≡ o → is_newer number o ≡ true
    by None is = refl
    by (Some recipe) is =
        let from = source slot m name recipe is in
        let less = newest from.0 from.1.0 from.1.1 from.1.2 in
        let here : recipe.number < number = subst (λ (r : Recipe). r.number < number) from.1.3 less in
        grind (arith, nat_tests, here)

held_last : (slot : ℕ → RecipeSlot) (m : ℕ) (name : List ℕ) → IsHolder slot (suc m) name m → get (recipes_below slot (suc m)) name ≡ Some (recipe_of (slot m))
held_last slot m name is =
    let R = recipes_below slot m in
    let above = is_above slot m (name_of (slot m)) (number_of (slot m))
    (λ j below opened named. is.newest j (omega (arith, below)) (λ same. omega (arith, same, below)) opened (named ∙ is.named)) in
    ap (λ (r : Recipes). get r name) (newer_put (slot m) R is.opened above)
    ∙ there_put (slot m) R name ((bytes_eq-Decides name (name_of (slot m))).1 (sym is.named))

held_before : (slot : ℕ → RecipeSlot) (m : ℕ) (name : List ℕ) (k : ℕ) → k < m → IsHolder slot (suc m) name k → get (recipes_below slot m) name ≡ Some (recipe_of (slot k)) →
    get (recipes_below slot (suc m)) name ≡ Some (recipe_of (slot k))
held_before slot m name k earlier is before = by (is_open (slot m)) refl
  where
    older : is_open (slot m) ≡ true → bytes_eq name (name_of (slot m)) ≡ true → is_newer (number_of (slot m)) (get (recipes_below slot m) (name_of (slot m))) ≡ false
    older opened same =
        let there = names_agree name (name_of (slot m)) same in
        let less = is.newest m (omega arith) (λ same. omega (arith, same, earlier)) opened (sym there) in
        let test : nat_lt (number_of (slot k)) (number_of (slot m)) ≡ false = grind (arith, nat_tests, less) in
        ap (λ (q : List ℕ). is_newer (number_of (slot m)) (get (recipes_below slot m) q)) (sym there)
        ∙ ap (is_newer (number_of (slot m))) before ∙ test

    named : is_open (slot m) ≡ true → (b : Bool) → bytes_eq name (name_of (slot m)) ≡ b → get (with_slot (slot m) (recipes_below slot m)) name ≡ Some (recipe_of (slot k))
    named opened true same = ap (λ (r : Recipes). get r name) (older_same (slot m) (recipes_below slot m) (older opened same)) ∙ before
    named opened false other = other_same (slot m) (recipes_below slot m) name other ∙ before

    by : (b : Bool) → is_open (slot m) ≡ b → get (with_slot (slot m) (recipes_below slot m)) name ≡ Some (recipe_of (slot k))
    by true opened = named opened (bytes_eq name (name_of (slot m))) refl
    by false closed = ap (λ (r : Recipes). get r name) (closed_same (slot m) (recipes_below slot m) closed) ∙ before

-- among fewer slots it is the newest, too
fewer : (slot : ℕ → RecipeSlot) (m : ℕ) (name : List ℕ) (k : ℕ) → k < m → IsHolder slot (suc m) name k → IsHolder slot m name k
fewer slot m name k below is = record {
  below = below;
  opened = is.opened;
  named = is.named;
  newest = λ j less other. is.newest j (omega (arith, less)) other;
}

pub held : (slot : ℕ → RecipeSlot) (n : ℕ) (name : List ℕ) (k : ℕ) → IsHolder slot n name k → get (recipes_below slot n) name ≡ Some (recipe_of (slot k))
held slot zero name k is = absurd (omega (arith, is.below))
held slot (suc m) name k is = by_place (last_or k m is.below) (λ below. held slot m name k (fewer slot m name k below is))
  where
    by_place : (k ≡ m) ⊎ (k < m) → (k < m → get (recipes_below slot m) name ≡ Some (recipe_of (slot k))) → get (recipes_below slot (suc m)) name ≡ Some (recipe_of (slot k))
    by_place (inl same) before =
        held_last slot m name (subst (IsHolder slot (suc m) name) same is)
        ∙ ap (λ (j : ℕ). Some (recipe_of (slot j))) (sym same)
    by_place (inr below) before = held_before slot m name k below is (before below)

-- ---- each name has one, or no open slot, where numbers differ

abbrev pub Differ : (ℕ → RecipeSlot) → ℕ → Type 0
Differ slot n =
    (j k : ℕ) → j < n → k < n → is_open (slot j) ≡ true → is_open (slot k) ≡ true → number_of (slot j) ≡ number_of (slot k) → j ≡ k

abbrev pub Decided : (ℕ → RecipeSlot) → ℕ → List ℕ → Type 0
Decided slot n name = ((k : ℕ) × IsHolder slot n name k) ⊎ IsNoName slot n name

module _ (slot : ℕ → RecipeSlot) (m : ℕ) (name : List ℕ) (differ : Differ slot (suc m)) where
  -- the slot says nothing of the name
  passed : (is_open (slot m) ≡ true → name_of (slot m) ≡ name → ⊥) → Decided slot m name → Decided slot (suc m) name
  passed nay (inl found) = inl (
    found.0,
    record {
      below = let below = found.1.below in omega (arith, below);
      opened = found.1.opened;
      named = found.1.named;
      newest = λ j less other opened named. newer j (last_or j m less) other opened named;
    },
  ) where
    newer : (j : ℕ) → (j ≡ m) ⊎ (j < m) → (j ≡ found.0 → ⊥) → is_open (slot j) ≡ true → name_of (slot j) ≡ name → number_of (slot j) < number_of (slot found.0)
    newer j (inl same) other opened named =
        absurd (nay (subst (λ i. is_open (slot i) ≡ true) same opened) (subst (λ i. name_of (slot i) ≡ name) same named))
    newer j (inr below) other opened named = found.1.newest j below other opened named
  passed nay (inr none) = inr (λ k less opened named. here k (last_or k m less) opened named) where
    here : (k : ℕ) → (k ≡ m) ⊎ (k < m) → is_open (slot k) ≡ true → name_of (slot k) ≡ name → ⊥
    here k (inl same) opened named = nay (subst (λ i. is_open (slot i) ≡ true) same opened) (subst (λ i. name_of (slot i) ≡ name) same named)
    here k (inr below) opened named = none k below opened named

  module _ (opened : is_open (slot m) ≡ true) (named : name_of (slot m) ≡ name) where
    -- it is the newest one
    topped : ((j : ℕ) → j < m → is_open (slot j) ≡ true → name_of (slot j) ≡ name → number_of (slot j) < number_of (slot m)) → Decided slot (suc m) name
    topped above = inl (
      m,
      record {
        below = omega arith;
        opened = opened;
        named = named;
        newest = λ j less other is there. above j (grind (arith, less, other)) is there;
      },
    )

    -- or there is a newer one
    by_number : (k : ℕ) → IsHolder slot m name k → (number_of (slot k) < number_of (slot m)) ⊎ (number_of (slot m) ≤ number_of (slot k)) → Decided slot (suc m) name
    by_number k is (inl less) = topped (λ j below is_there there. within j (cases_eq j k) below is_there there)
      where
        within : (j : ℕ) → (j ≡ k) ⊎ (j ≡ k → ⊥) → j < m → is_open (slot j) ≡ true → name_of (slot j) ≡ name → number_of (slot j) < number_of (slot m)
        within j (inl same) below is_there there = subst (λ i. number_of (slot i) < number_of (slot m)) (sym same) less
        within j (inr other) below is_there there =
            let before = is.newest j below other is_there there in omega (arith, before, less)
    by_number k is (inr more) =
        let below = is.below in
        let apart : (number_of (slot m) ≡ number_of (slot k)) → ⊥ =
        λ same. let one = differ m k (omega arith) (omega (arith, below)) opened is.opened same in omega (arith, one, below) in
        let less : number_of (slot m) < number_of (slot k) = grind (arith, more, apart) in
        inl (
          k,
          record {
            below = omega (arith, below);
            opened = is.opened;
            named = is.named;
            newest = λ j under other is_there there. newer less j (last_or j m under) other is_there there;
          },
        )
      where
        newer : number_of (slot m) < number_of (slot k) → (j : ℕ) → (j ≡ m) ⊎ (j < m) → (j ≡ k → ⊥) → is_open (slot j) ≡ true → name_of (slot j) ≡ name → number_of (slot j) < number_of (slot k)
        newer less j (inl same) other is_there there = subst (λ i. number_of (slot i) < number_of (slot k)) (sym same) less
        newer less j (inr under) other is_there there = is.newest j under other is_there there

    met : Decided slot m name → Decided slot (suc m) name
    met (inl found) = by_number found.0 found.1 (cases_lt (number_of (slot found.0)) (number_of (slot m)))
    met (inr none) = topped (λ j below is_there there. absurd (none j below is_there there))

  pub decide_on : Decided slot m name → Decided slot (suc m) name
  decide_on before = by_gate (is_open (slot m)) refl
    where
      by_name : is_open (slot m) ≡ true → (b : Bool) → bytes_eq (name_of (slot m)) name ≡ b → Decided slot (suc m) name
      by_name opened true same = met opened (names_agree (name_of (slot m)) name same) before
      by_name opened false other = passed (λ is there. names_differ (name_of (slot m)) name other there) before

      by_gate : (b : Bool) → is_open (slot m) ≡ b → Decided slot (suc m) name
      by_gate true opened = by_name opened (bytes_eq (name_of (slot m)) name) refl
      by_gate false closed = passed (λ is there. not_both (is_open (slot m)) is closed) before

pub decide : (slot : ℕ → RecipeSlot) (n : ℕ) (name : List ℕ) → Differ slot n → Decided slot n name
decide slot zero name differ = inr (λ k below. absurd (omega (arith, below)))
decide slot (suc m) name differ =
    decide_on slot m name differ (decide slot m name (λ j k a b. differ j k (omega (arith, a)) (omega (arith, b))))
