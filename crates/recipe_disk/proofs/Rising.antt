-- Names in order: two lists of the same ones are one.
use Rattle.std.proofs.Common.{◌≡◌, refl, sym, ap, subst, ◌∙◌, ℕ, zero, suc, ◌+◌, ◌<◌, ◌≤◌, Bool, true, false, List, [], ◌∷◌, get_or, length, if◌then◌else◌, Less, Equal, Greater, arith}
use Rattle.std.proofs.lemmas.List.Sorted.{ranks_by, sorted_far, sum_by-IsPermutation}
use Rattle.std.proofs.lemmas.List.Sums.{sum_by-cons}
use Rattle.std.specs.Cmp.Lexicographic.{nat_list_cmp_total}
use Rattle.std.specs.Cmp.{IsStrictWeakOrder}
use Rattle.std.specs.List.Sorted.{IsPermutation, IsSorted}
use Rattle.std.specs.List.{insert as put_at, sum_by}
use Rattle.std.specs.Ordering.{is_lt, ordering_reverse}
use Rattle.std.specs.declared.cmp.Ordering.{Ordering}
use Rattle.gem_recipes.specs.Recipes.{by_bytes, names_of}
use Rattle.recipe_disk.specs.Map.{IsTidy, recipes_below}
use Rattle.recipe_disk.specs.Slot.{RecipeSlot, is_open, name_of}
use Rattle.recipe_disk.proofs.Holders.{not_both, same_name}
use Rattle.recipe_disk.proofs.Names.{names_more, names_same, none_named, one_behind, place_among}

abbrev Names : Type 0
Names = List (List ℕ)

abbrev comes_before : List ℕ → List ℕ → Bool
comes_before a b = is_lt (by_bytes a b)

pub order : IsStrictWeakOrder comes_before
order = ranks_by nat_list_cmp_total (λ (x : List ℕ). x)

-- none of these comes before a name, and none of a list before an earlier one
abbrev Above : List ℕ → Names → Type 0
Above name [] = Unit {0}
Above name (other ∷ names) = (comes_before other name ≡ false) × Above name names

abbrev Rises : Names → Type 0
Rises [] = Unit {0}
Rises (name ∷ names) = Above name names × Rises names

-- ---- what a sort leaves

above_of : (name : List ℕ) (names : Names) → ((j : ℕ) (d : List ℕ) → j < length names → comes_before (get_or names j d) name ≡ false) → Above name names
above_of name [] none = tt
above_of name (other ∷ names) none = (
  none 0 other (omega arith),
  above_of name names (λ j d below. none (suc j) d (omega (arith, below))),
)

rises_of : (names : Names) → ((i j : ℕ) (d : List ℕ) → i ≤ j → j < length names → comes_before (get_or names j d) (get_or names i d) ≡ false) → Rises names
rises_of [] far = tt
rises_of (name ∷ names) far = (
  above_of name names (λ j d below. far 0 (suc j) d (omega arith) (omega (arith, below))),
  rises_of names (λ i j d less below. far (suc i) (suc j) d (omega (arith, less)) (omega (arith, below))),
)

rises_sorted : (names : Names) → IsSorted by_bytes names → Rises names
rises_sorted names sorted = rises_of names (sorted_far comes_before order names sorted)

-- ---- one name more

above_put : (name other : List ℕ) (names : Names) (at : ℕ) → Above name names → comes_before other name ≡ false → Above name (put_at names at other)
above_put name other names zero above here = (here, above)
above_put name other [] (suc at) above here = (here, tt)
above_put name other (one ∷ names) (suc at) above here = (above.0, above_put name other names at above.1 here)

above_less : (name other : List ℕ) (names : Names) → Above other names → comes_before other name ≡ false → Above name names
above_less name other [] above less = tt
above_less name other (one ∷ names) above less = (order.chain one other name above.0 less, above_less name other names above.1 less)

rises_put : (name : List ℕ) (names : Names) → Rises names → Rises (put_at names (place_among name names) name)
rises_put name [] rises = (tt, tt)
rises_put name (other ∷ names) rises = by (comes_before other name) refl (rises_put name names rises.1)
  where
    by : (b : Bool) → comes_before other name ≡ b → Rises (put_at names (place_among name names) name) →
        Rises (put_at (other ∷ names) (if b then place_among name names + 1 else 0) name)
    by true before later =
        subst Rises (sym (one_behind names name other (place_among name names))) (
          above_put other name names (place_among name names) rises.0 (order.one_way other name before),
          later,
        )
    by false other_way later = ((other_way, above_less name other names rises.0 other_way), rises)

module _ (slot : ℕ → RecipeSlot) (n : ℕ) (tidy : IsTidy slot n) where
  rises_more : (m : ℕ) → m < n → Rises (names_of (recipes_below slot m)) → (b : Bool) → is_open (slot m) ≡ b → Rises (names_of (recipes_below slot (m + 1)))
  rises_more m below rises true opened =
      subst Rises (names_more slot n tidy m below (names_of (recipes_below slot m)) refl opened) (rises_put (name_of (slot m)) (names_of (recipes_below slot m)) rises)
  rises_more m below rises false shut = subst Rises (names_same slot n tidy m below (names_of (recipes_below slot m)) refl shut) rises

  names_rise : (m : ℕ) → m ≤ n → Rises (names_of (recipes_below slot m))
  names_rise zero within = let none : Rises [] = tt in subst Rises (sym (none_named slot)) none
  names_rise (suc m) within =
      let one : m + 1 ≡ suc m = omega arith in
      subst (λ k. Rises (names_of (recipes_below slot k))) one
      (rises_more m (omega (arith, within)) (names_rise m (omega (arith, within))) (is_open (slot m)) refl)

-- ---- the same names

abbrev Same : Names → Names → Type 0
Same one other = (f : List ℕ → ℕ) → sum_by f other ≡ sum_by f one

abbrev below_one : List ℕ → List ℕ → ℕ
below_one name other = if comes_before other name then 1 else 0

none_below : (name : List ℕ) (names : Names) → Above name names → sum_by (below_one name) names ≡ 0
none_below name [] above = refl
none_below name (other ∷ names) above =
    sum_by-cons (below_one name) other names
    ∙ ap (λ (b : Bool). (if b then 1 else 0) + sum_by (below_one name) names) above.0
    ∙ (let rest = none_below name names above.1 in omega (arith, rest))

not_itself : (name : List ℕ) → comes_before name name ≡ false
not_itself name = by (comes_before name name) refl
  where
    by : (b : Bool) → comes_before name name ≡ b → b ≡ false
    by true is = absurd (not_both (comes_before name name) is (order.one_way name name is))
    by false is = refl

-- a list in which none comes before a name begins with none that does
first_not : (name other : List ℕ) (names : Names) → sum_by (below_one name) (other ∷ names) ≡ 0 → comes_before other name ≡ false
first_not name other names none = by (comes_before other name) refl
  where
    total : (if comes_before other name then 1 else 0) + sum_by (below_one name) names ≡ 0
    total = sym (sum_by-cons (below_one name) other names) ∙ none

    by : (b : Bool) → comes_before other name ≡ b → b ≡ false
    by true is =
        let more : 1 + sum_by (below_one name) names ≡ 0 = sym (ap (λ (b : Bool). (if b then 1 else 0) + sum_by (below_one name) names) is) ∙ total in
        absurd (omega (arith, more))
    by false is = refl

neither : (a b : List ℕ) → comes_before a b ≡ false → comes_before b a ≡ false → a ≡ b
neither a b one other = by (by_bytes a b) refl
  where
    by : (o : Ordering) → by_bytes a b ≡ o → a ≡ b
    by Less is = absurd (not_both (comes_before a b) (ap is_lt is) one)
    by Equal is = same_name a b is
    by Greater is =
        absurd (not_both (comes_before b a) (ap is_lt (nat_list_cmp_total.antisymm b a ∙ ap ordering_reverse is)) other)

pub one_list : (one other : Names) → Rises one → Rises other → Same one other → one ≡ other
one_list [] [] rises rises' same = refl
one_list [] (b ∷ other) rises rises' same =
    let total : 1 + sum_by (λ (x : List ℕ). 1) other ≡ 0 = sym (sum_by-cons (λ (x : List ℕ). 1) b other) ∙ same (λ x. 1) in absurd (omega (arith, total))
one_list (a ∷ one) [] rises rises' same =
    let total : 1 + sum_by (λ (x : List ℕ). 1) one ≡ 0 = sym (sum_by-cons (λ (x : List ℕ). 1) a one) ∙ sym (same (λ x. 1)) in absurd (omega (arith, total))
one_list (a ∷ one) (b ∷ other) rises rises' same =
    let first : a ≡ b = neither a b
    (first_not b a one (sym (same (below_one b)) ∙ none_below b (b ∷ other) (not_itself b, rises'.0)))
    (first_not a b other (same (below_one a) ∙ none_below a (a ∷ one) (not_itself a, rises.0))) in
    let rest : Same one other = λ f. tails f (f a) (f b) (sum_by f one) (sum_by f other) (ap f first)
    (sym (sum_by-cons f b other) ∙ same f ∙ sum_by-cons f a one) in
    ap (λ (x : List ℕ). x ∷ one) first ∙ ap (λ (xs : Names). b ∷ xs) (one_list one other rises.1 rises'.1 rest)
  where
    tails : (f : List ℕ → ℕ) (x y m n : ℕ) → x ≡ y → y + n ≡ x + m → n ≡ m
    tails f x y m n is total = omega (arith, is, total)

-- the names of tidy slots in any order, sorted
pub sorted_names : (slot : ℕ → RecipeSlot) (n : ℕ) → IsTidy slot n → (names sorted : Names) → IsPermutation names (names_of (recipes_below slot n)) → IsPermutation names sorted →
    IsSorted by_bytes sorted → names_of (recipes_below slot n) ≡ sorted
sorted_names slot n tidy names sorted are moved up =
    one_list (names_of (recipes_below slot n)) sorted (names_rise slot n tidy n (omega arith)) (rises_sorted sorted up)
    (λ f. sum_by-IsPermutation f names sorted moved ∙ sym (sum_by-IsPermutation f names (names_of (recipes_below slot n)) are))
