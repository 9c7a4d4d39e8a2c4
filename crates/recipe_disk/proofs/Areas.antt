-- What slots that pass the tests are, and what stays so where one of them is written, opened or closed.
use Rattle.std.proofs.Common.{◌≡◌, refl, sym, ap, subst, ◌∙◌, ℕ, zero, suc, ◌+◌, ◌-◌, ◌<◌, ◌≤◌, ◌==◌, ◌⊎◌, inl, inr, Bool, true, false, cond, ◌&&◌, bytes_eq, is_eq, nat_lt, List, Option, None, Some, if◌then◌else◌, arith}
use Rattle.std.proofs.lemmas.Bool.{and_from, and_left, and_right, cases_eq, cases_lt, or_from, or_parts}
use Rattle.std.proofs.lemmas.Bool.Decides.{nat_tests}
use Rattle.std.specs.Cmp.Lexicographic.{nat_list_cmp_total}
use Rattle.std.specs.FinMap.{contains_key, get, get-insert, get-remove, insert, len, len-insert, len-remove, remove}
use Rattle.gem_recipes.specs.Recipes.{Recipe, Recipes, by_bytes}
use Rattle.spool_file.specs.Area.{first_at, or_else}
use Rattle.spool_file.proofs.Firsts.{both_none, first_none, none_below}
use Rattle.recipe_disk.specs.File.{area_break, fields_at, in_slot, names_break, number_at}
use Rattle.recipe_disk.specs.Map.{IsHolder, IsNoName, IsTidy, any_below, has_number, recipes_below, with_slot}
use Rattle.recipe_disk.specs.Slot.{RecipeSlot, fields_break, head_break, is_open, name_of, number_of, recipe_of, slot_place}
use Rattle.recipe_disk.specs.declared.head.Head.{Head}
use Rattle.recipe_disk.proofs.Holders.{Decided, Differ, closed_same, decide, held, last_or, names_agree, names_differ, not_both, same_recipes, tie, unheld}

-- ---- the tests

pub record IsArea (slot : ℕ → RecipeSlot) (n : ℕ) : Type 0 where
  pub fields : (k : ℕ) → k < n → head_break (slot k).head ≡ None
  pub differ : Differ slot n
  pub few : len (recipes_below slot n) ≤ n - 1

-- whether one of some places is such a one
pub none_any : (is : ℕ → Bool) (n k : ℕ) → any_below is n ≡ false → k < n → is k ≡ false
none_any is zero k none below = absurd (omega (arith, below))
none_any is (suc m) k none below =
    let both = or_parts (any_below is m) (is m) none in by (last_or k m below) both.0 both.1 (λ less. none_any is m k both.0 less)
  where
    by : (k ≡ m) ⊎ (k < m) → any_below is m ≡ false → is m ≡ false → (k < m → is k ≡ false) → is k ≡ false
    by (inl same) earlier here before = ap is same ∙ here
    by (inr less) earlier here before = before less

pub any_none : (is : ℕ → Bool) (n : ℕ) → ((k : ℕ) → k < n → is k ≡ false) → any_below is n ≡ false
any_none is zero none = refl
any_none is (suc m) none =
    or_from (any_below is m) (is m) (any_none is m (λ k below. none k (omega (arith, below)))) (none m (omega arith))

out_of_slot : (k : ℕ) (place : Option ℕ) → in_slot k place ≡ None → place ≡ None
out_of_slot k None is = refl
out_of_slot k (Some p) is = absurd (grind (arith, is))

unless_if : (b : Bool) (place : ℕ) → (if b then Some place else None) ≡ None → b ≡ false
unless_if true place is = absurd (grind (arith, is))
unless_if false place is = refl

not_less : (a b place : ℕ) → (if nat_lt a b then Some place else None) ≡ None → b ≤ a
not_less a b place is = grind (arith, nat_tests, is)

within : (a b place : ℕ) → b ≤ a → (if nat_lt a b then Some place else None) ≡ None
within a b place less = grind (arith, nat_tests, less)

-- an earlier slot has another number
other_number : (slot : ℕ → RecipeSlot) (j k : ℕ) → number_at slot k ≡ None → j < k → is_open (slot j) ≡ true → is_open (slot k) ≡ true →
    number_of (slot j) ≡ number_of (slot k) → ⊥
other_number slot j k none below there opened same =
    let test = unless_if (is_open (slot k) && has_number slot k (number_of (slot k))) (slot_place k + 1) none in
    let nay : has_number slot k (number_of (slot k)) ≡ false =
    sym (ap (λ b. b && has_number slot k (number_of (slot k))) opened) ∙ test in
    let here : (is_open (slot j) && number_of (slot j) == number_of (slot k)) ≡ false =
    none_any (λ i. is_open (slot i) && number_of (slot i) == number_of (slot k)) k j nay below in
    let equal : (number_of (slot j) == number_of (slot k)) ≡ true = grind (arith, nat_tests, same) in
    not_both (is_open (slot j) && number_of (slot j) == number_of (slot k))
    (and_from (is_open (slot j)) (number_of (slot j) == number_of (slot k)) there equal) here

numbers_differ : (slot : ℕ → RecipeSlot) (n : ℕ) → ((k : ℕ) → k < n → number_at slot k ≡ None) → Differ slot n
numbers_differ slot n none j k a b there opened same = by (cases_eq j k)
  where
    apart : (j < k) ⊎ (k ≤ j) → (j ≡ k → ⊥) → j ≡ k
    apart (inl less) nay = absurd (other_number slot j k (none k b) less there opened same)
    apart (inr more) nay = absurd (other_number slot k j (none j a) (grind (arith, more, nay)) opened there (sym same))

    by : (j ≡ k) ⊎ (j ≡ k → ⊥) → j ≡ k
    by (inl is) = is
    by (inr nay) = apart (cases_lt j k) nay

number_none : (slot : ℕ → RecipeSlot) (n k : ℕ) → Differ slot n → k < n → number_at slot k ≡ None
number_none slot n k differ below = by (is_open (slot k)) refl
  where
    none : is_open (slot k) ≡ true → (j : ℕ) → j < k → (b : Bool) → is_open (slot j) ≡ b → (c : Bool) → (number_of (slot j) == number_of (slot k)) ≡ c →
        (b && c) ≡ false
    none opened j less true there true same =
        let equal : number_of (slot j) ≡ number_of (slot k) = grind (arith, nat_tests, same) in
        let one = differ j k (omega (arith, less, below)) below there opened equal in absurd (omega (arith, one, less))
    none opened j less true there false other = refl
    none opened j less false shut c other = refl

    by : (b : Bool) → is_open (slot k) ≡ b → (if is_open (slot k) && has_number slot k (number_of (slot k)) then Some (slot_place k + 1) else None) ≡ None
    by true opened =
        let nay = any_none (λ i. is_open (slot i) && number_of (slot i) == number_of (slot k)) k
        (λ j less. none opened j less (is_open (slot j)) refl (number_of (slot j) == number_of (slot k)) refl) in
        ap (λ b. if b then Some (slot_place k + 1) else None) (and_right (is_open (slot k)) (has_number slot k (number_of (slot k))) nay)
    by false shut =
        ap (λ b. if b then Some (slot_place k + 1) else None) (and_left (is_open (slot k)) (has_number slot k (number_of (slot k))) shut)

pub area_of : (slot : ℕ → RecipeSlot) (n : ℕ) → area_break slot n ≡ None → IsArea slot n
area_of slot n none =
    let first = both_none (first_at (fields_at slot) n) (or_else (first_at (number_at slot) n) (names_break slot n)) none in
    let rest = both_none (first_at (number_at slot) n) (names_break slot n) first.1 in
    record {
      fields = λ k below. out_of_slot k (head_break (slot k).head) (none_below (fields_at slot) n k first.0 below);
      differ = numbers_differ slot n (λ k below. none_below (number_at slot) n k rest.0 below);
      few = not_less (n - 1) (len (recipes_below slot n)) (slot_place (n - 1) + 10) rest.1;
    }

pub area_none : (slot : ℕ → RecipeSlot) (n : ℕ) → IsArea slot n → area_break slot n ≡ None
area_none slot n is =
    ap (λ o. or_else o (or_else (first_at (number_at slot) n) (names_break slot n)))
    (first_none (fields_at slot) n (λ k below. ap (in_slot k) (is.fields k below)))
    ∙ ap (λ o. or_else o (names_break slot n)) (first_none (number_at slot) n (λ k below. number_none slot n k is.differ below))
    ∙ within (n - 1) (len (recipes_below slot n)) (slot_place (n - 1) + 10) is.few

-- ---- the same slots, but for what isn't open

-- a slot is open where it was, and is then what it was
pub record IsSameAt (slot now : ℕ → RecipeSlot) (k : ℕ) : Type 0 where
  pub gate : is_open (now k) ≡ is_open (slot k)
  pub same : is_open (slot k) ≡ true → now k ≡ slot k

pub shut_none : (head : Head) → head.opened ≡ false → head_break head ≡ None
shut_none head shut = ap (λ b. if b then fields_break head else None) shut

module _ (slot now : ℕ → RecipeSlot) where
  one_same : (k : ℕ) (R : Recipes) → IsSameAt slot now k → with_slot (now k) R ≡ with_slot (slot k) R
  one_same k R is = by (is_open (slot k)) refl
    where
      by : (b : Bool) → is_open (slot k) ≡ b → with_slot (now k) R ≡ with_slot (slot k) R
      by true opened = ap (λ (s : RecipeSlot). with_slot s R) (is.same opened)
      by false shut = closed_same (now k) R (is.gate ∙ shut) ∙ sym (closed_same (slot k) R shut)

  pub all_same : (n : ℕ) → ((k : ℕ) → k < n → IsSameAt slot now k) → recipes_below now n ≡ recipes_below slot n
  all_same zero each = refl
  all_same (suc m) each =
      ap (λ (R : Recipes). with_slot (now m) R) (all_same m (λ k below. each k (omega (arith, below))))
      ∙ one_same m (recipes_below slot m) (each m (omega arith))

  module _ (n : ℕ) (each : (k : ℕ) → k < n → IsSameAt slot now k) where
    was_open : (k : ℕ) → k < n → is_open (now k) ≡ true → is_open (slot k) ≡ true
    was_open k below opened = sym (each k below).gate ∙ opened

    -- an open slot's number and name
    same_slot : (k : ℕ) → k < n → is_open (now k) ≡ true → now k ≡ slot k
    same_slot k below opened = (each k below).same (was_open k below opened)

    fields_same : ((k : ℕ) → k < n → head_break (slot k).head ≡ None) → (k : ℕ) → k < n → head_break (now k).head ≡ None
    fields_same fields k below = by (is_open (now k)) refl
      where
        by : (b : Bool) → is_open (now k) ≡ b → head_break (now k).head ≡ None
        by true opened = ap (λ (s : RecipeSlot). head_break s.head) (same_slot k below opened) ∙ fields k below
        by false shut = shut_none (now k).head shut

    pub area_same : IsArea slot n → IsArea now n
    area_same is = record {
      fields = fields_same is.fields;
      differ = λ j k a b there opened same. is.differ j k a b (was_open j a there) (was_open k b opened)
          (ap number_of (sym (same_slot j a there)) ∙ same ∙ ap number_of (same_slot k b opened));
      few = subst (λ (R : Recipes). len R ≤ n - 1) (sym (all_same n each)) is.few;
    }

    pub tidy_same : IsTidy slot n → IsTidy now n
    tidy_same tidy j k a b there opened same = tidy j k a b (was_open j a there) (was_open k b opened)
        (ap name_of (sym (same_slot j a there)) ∙ same ∙ ap name_of (same_slot k b opened))

-- ---- one slot changes

-- all others are what they were
module _ (slot now : ℕ → RecipeSlot) (n p : ℕ) (below : p < n) (others : (k : ℕ) → k < n → (k ≡ p → ⊥) → now k ≡ slot k) (area : IsArea slot n) where
  -- what a name has, by what it had
  abbrev Asked : List ℕ → Option Recipe → Type 0
  Asked q recipe = get (recipes_below now n) q ≡ recipe

  -- a holder that isn't that slot stays one where that slot is no newer one
  still : (q : List ℕ) (k : ℕ) → (k ≡ p → ⊥) → IsHolder slot n q k → (is_open (now p) ≡ true → name_of (now p) ≡ q → number_of (now p) < number_of (slot k)) →
      get (recipes_below now n) q ≡ get (recipes_below slot n) q
  still q k other is less =
      let same = others k is.below other in
      let holds : IsHolder now n q k = record {
        below = is.below;
        opened = ap is_open same ∙ is.opened;
        named = ap name_of same ∙ is.named;
        newest = λ j under apart there named. subst (λ (s : RecipeSlot). number_of (now j) < number_of s) (sym same) (by j under apart there named (cases_eq j p));
      } in
      held now n q k holds ∙ ap (λ (s : RecipeSlot). Some (recipe_of s)) same ∙ sym (held slot n q k is)
    where
      by : (j : ℕ) → j < n → (j ≡ k → ⊥) → is_open (now j) ≡ true → name_of (now j) ≡ q → (j ≡ p) ⊎ (j ≡ p → ⊥) → number_of (now j) < number_of (slot k)
      by j under apart there named (inl here) =
          subst (λ i. number_of (now i) < number_of (slot k)) (sym here)
          (less (subst (λ i. is_open (now i) ≡ true) here there) (subst (λ i. name_of (now i) ≡ q) here named))
      by j under apart there named (inr beside) =
          let it = others j under beside in
          subst (λ (s : RecipeSlot). number_of s < number_of (slot k)) (sym it)
          (is.newest j under apart (ap is_open (sym it) ∙ there) (ap name_of (sym it) ∙ named))

  -- a name that no slot had, and that slot hasn't
  nowhere : (q : List ℕ) → IsNoName slot n q → (is_open (now p) ≡ true → name_of (now p) ≡ q → ⊥) → get (recipes_below now n) q ≡ get (recipes_below slot n) q
  nowhere q none nay = unheld now n q (λ k under there named. by k under there named (cases_eq k p)) ∙ sym (unheld slot n q none)
    where
      by : (k : ℕ) → k < n → is_open (now k) ≡ true → name_of (now k) ≡ q → (k ≡ p) ⊎ (k ≡ p → ⊥) → ⊥
      by k under there named (inl here) = nay (subst (λ i. is_open (now i) ≡ true) here there) (subst (λ i. name_of (now i) ≡ q) here named)
      by k under there named (inr beside) =
          let it = others k under beside in none k under (ap is_open (sym it) ∙ there) (ap name_of (sym it) ∙ named)

  -- ---- it is opened, with a number above all

  module _ (shut : is_open (slot p) ≡ false) (opened : is_open (now p) ≡ true) (sound : head_break (now p).head ≡ None)
      (above : (k : ℕ) → k < n → is_open (slot k) ≡ true → number_of (slot k) < number_of (now p)) where
    abbrev name : List ℕ
    name = name_of (now p)

    beside : (k : ℕ) → is_open (slot k) ≡ true → k ≡ p → ⊥
    beside k there here = not_both (is_open (slot k)) there (ap (λ i. is_open (slot i)) here ∙ shut)

    holds : (q : List ℕ) → name ≡ q → IsHolder now n q p
    holds q named = record {
      below = below;
      opened = opened;
      named = named;
      newest = λ j under apart there it_is.
          let it = others j under apart in
          subst (λ (s : RecipeSlot). number_of s < number_of (now p)) (sym it) (above j under (ap is_open (sym it) ∙ there));
    }

    opened_at : (q : List ℕ) → get (recipes_below now n) q ≡ get (insert (recipes_below slot n) name (recipe_of (now p))) q
    opened_at q = by (bytes_eq q name) refl ∙ sym (get-insert nat_list_cmp_total (recipes_below slot n) name (recipe_of (now p)) q)
      where
        none : bytes_eq q name ≡ false → name ≡ q → ⊥
        none other named = names_differ q name other (sym named)

        kept : bytes_eq q name ≡ false → Decided slot n q → get (recipes_below now n) q ≡ get (recipes_below slot n) q
        kept other (inl found) = still q found.0 (beside found.0 found.1.opened) found.1 (λ there named. absurd (none other named))
        kept other (inr nay) = nowhere q nay (λ there named. none other named)

        by : (b : Bool) → bytes_eq q name ≡ b → get (recipes_below now n) q ≡ cond (is_eq (by_bytes q name)) (Some (recipe_of (now p))) (get (recipes_below slot n) q)
        by true same =
            held now n q p (holds q (sym (names_agree q name same)))
            ∙ sym (ap (λ b. cond b (Some (recipe_of (now p))) (get (recipes_below slot n) q)) (tie q name ∙ same))
        by false other =
            kept other (decide slot n q area.differ)
            ∙ sym (ap (λ b. cond b (Some (recipe_of (now p))) (get (recipes_below slot n) q)) (tie q name ∙ other))

    pub opens : recipes_below now n ≡ insert (recipes_below slot n) name (recipe_of (now p))
    opens = same_recipes (recipes_below now n) (insert (recipes_below slot n) name (recipe_of (now p))) opened_at

    opened_fields : (k : ℕ) → k < n → (k ≡ p) ⊎ (k ≡ p → ⊥) → head_break (now k).head ≡ None
    opened_fields k under (inl here) = ap (λ i. head_break (now i).head) here ∙ sound
    opened_fields k under (inr other) = ap (λ (s : RecipeSlot). head_break s.head) (others k under other) ∙ area.fields k under

    opened_differ : (j k : ℕ) → j < n → k < n → is_open (now j) ≡ true → is_open (now k) ≡ true → number_of (now j) ≡ number_of (now k) →
        (j ≡ p) ⊎ (j ≡ p → ⊥) → (k ≡ p) ⊎ (k ≡ p → ⊥) → j ≡ k
    opened_differ j k a b there here same (inl j_is) (inl k_is) = j_is ∙ sym k_is
    opened_differ j k a b there here same (inl j_is) (inr other) =
        let it = others k b other in
        let less = above k b (ap is_open (sym it) ∙ here) in
        let equal : number_of (now p) ≡ number_of (slot k) = ap (λ i. number_of (now i)) (sym j_is) ∙ same ∙ ap number_of it in
        absurd (omega (arith, less, equal))
    opened_differ j k a b there here same (inr other) (inl k_is) =
        let it = others j a other in
        let less = above j a (ap is_open (sym it) ∙ there) in
        let equal : number_of (slot j) ≡ number_of (now p) = ap number_of (sym it) ∙ same ∙ ap (λ i. number_of (now i)) k_is in
        absurd (omega (arith, less, equal))
    opened_differ j k a b there here same (inr j_other) (inr k_other) =
        let j_it = others j a j_other in
        let k_it = others k b k_other in
        area.differ j k a b (ap is_open (sym j_it) ∙ there) (ap is_open (sym k_it) ∙ here)
        (ap number_of (sym j_it) ∙ same ∙ ap number_of k_it)

    -- where there was space for it
    opened_few : (known : Bool) → contains_key (recipes_below slot n) name ≡ known → (known ≡ false → len (recipes_below slot n) < n - 1) →
        len (insert (recipes_below slot n) name (recipe_of (now p))) ≤ n - 1
    opened_few true is space =
        subst (λ m. m ≤ n - 1)
        (sym (len-insert nat_list_cmp_total (recipes_below slot n) name (recipe_of (now p))
        ∙ ap (λ b. cond b (len (recipes_below slot n)) (len (recipes_below slot n) + 1)) is)) area.few
    opened_few false is space =
        let less = space refl in
        let more : len (recipes_below slot n) + 1 ≤ n - 1 = omega (arith, less) in
        subst (λ m. m ≤ n - 1)
        (sym (len-insert nat_list_cmp_total (recipes_below slot n) name (recipe_of (now p))
        ∙ ap (λ b. cond b (len (recipes_below slot n)) (len (recipes_below slot n) + 1)) is)) more

    pub opened_area : (contains_key (recipes_below slot n) name ≡ false → len (recipes_below slot n) < n - 1) → IsArea now n
    opened_area space = record {
      fields = λ k under. opened_fields k under (cases_eq k p);
      differ = λ j k a b there here same. opened_differ j k a b there here same (cases_eq j p) (cases_eq k p);
      few = subst (λ (R : Recipes). len R ≤ n - 1) (sym opens) (opened_few (contains_key (recipes_below slot n) name) refl space);
    }

  -- ---- it is closed

  module _ (shut : is_open (now p) ≡ false) where
    never : (q : List ℕ) (k : ℕ) → is_open (now p) ≡ true → name_of (now p) ≡ q → number_of (now p) < number_of (slot k)
    never q k there named = absurd (not_both (is_open (now p)) there shut)

    beside_shut : (k : ℕ) → is_open (now k) ≡ true → k ≡ p → ⊥
    beside_shut k there here = not_both (is_open (now k)) there (ap (λ i. is_open (now i)) here ∙ shut)

    shut_fields : (k : ℕ) → k < n → (k ≡ p) ⊎ (k ≡ p → ⊥) → head_break (now k).head ≡ None
    shut_fields k under (inl here) = ap (λ i. head_break (now i).head) here ∙ shut_none (now p).head shut
    shut_fields k under (inr other) = ap (λ (s : RecipeSlot). head_break s.head) (others k under other) ∙ area.fields k under

    -- what is open is what it was
    pub was : (k : ℕ) → k < n → is_open (now k) ≡ true → now k ≡ slot k
    was k under there = others k under (beside_shut k there)

    shut_differ : Differ now n
    shut_differ j k a b there here same =
        area.differ j k a b (ap is_open (sym (was j a there)) ∙ there) (ap is_open (sym (was k b here)) ∙ here)
        (ap number_of (sym (was j a there)) ∙ same ∙ ap number_of (was k b here))

    pub shut_area : len (recipes_below now n) ≤ len (recipes_below slot n) → IsArea now n
    shut_area fewer = record {
      fields = λ k under. shut_fields k under (cases_eq k p);
      differ = shut_differ;
      few = let few = area.few in omega (arith, fewer, few);
    }

    pub shut_tidy : IsTidy slot n → IsTidy now n
    shut_tidy tidy j k a b there here same =
        tidy j k a b (ap is_open (sym (was j a there)) ∙ there) (ap is_open (sym (was k b here)) ∙ here)
        (ap name_of (sym (was j a there)) ∙ same ∙ ap name_of (was k b here))

    -- where a newer one has its name nothing changes
    module _ (i : ℕ) (under : i < n) (apart : i ≡ p → ⊥) (there : is_open (slot i) ≡ true) (named : name_of (slot i) ≡ name_of (slot p))
        (newer : number_of (slot p) < number_of (slot i)) where
      stale_at : (q : List ℕ) → Decided slot n q → get (recipes_below now n) q ≡ get (recipes_below slot n) q
      stale_at q (inl found) = still q found.0 (λ here. oldest (subst (IsHolder slot n q) here found.1)) found.1 (never q found.0)
        where
          oldest : IsHolder slot n q p → ⊥
          oldest is =
              let less = is.newest i under apart there (named ∙ is.named) in omega (arith, less, newer)
      stale_at q (inr none) = nowhere q none (λ opened named. not_both (is_open (now p)) opened shut)

      pub stale_same : recipes_below now n ≡ recipes_below slot n
      stale_same = same_recipes (recipes_below now n) (recipes_below slot n) (λ q. stale_at q (decide slot n q area.differ))

    -- where it is the only one of its name, this is gone
    module _ (tidy : IsTidy slot n) (opened : is_open (slot p) ≡ true) where
      gone_at : (q : List ℕ) → get (recipes_below now n) q ≡ get (remove (recipes_below slot n) (name_of (slot p))) q
      gone_at q = by (bytes_eq q (name_of (slot p))) refl ∙ sym (get-remove nat_list_cmp_total (recipes_below slot n) (name_of (slot p)) q)
        where
          none : q ≡ name_of (slot p) → IsNoName now n q
          none is k under there named =
              beside_shut k there (tidy k p under below (ap is_open (sym (was k under there)) ∙ there) opened
              (ap name_of (sym (was k under there)) ∙ named ∙ is))

          kept : bytes_eq q (name_of (slot p)) ≡ false → Decided slot n q → get (recipes_below now n) q ≡ get (recipes_below slot n) q
          kept other (inl found) =
              still q found.0 (λ here. names_differ q (name_of (slot p)) other (sym found.1.named ∙ ap (λ i. name_of (slot i)) here)) found.1 (never q found.0)
          kept other (inr nay) = nowhere q nay (λ is named. not_both (is_open (now p)) is shut)

          by : (b : Bool) → bytes_eq q (name_of (slot p)) ≡ b →
              get (recipes_below now n) q ≡ cond (is_eq (by_bytes q (name_of (slot p)))) None (get (recipes_below slot n) q)
          by true same =
              unheld now n q (none (names_agree q (name_of (slot p)) same))
              ∙ sym (ap (λ b. cond b None (get (recipes_below slot n) q)) (tie q (name_of (slot p)) ∙ same))
          by false other =
              kept other (decide slot n q area.differ)
              ∙ sym (ap (λ b. cond b None (get (recipes_below slot n) q)) (tie q (name_of (slot p)) ∙ other))

      pub gone : recipes_below now n ≡ remove (recipes_below slot n) (name_of (slot p))
      gone = same_recipes (recipes_below now n) (remove (recipes_below slot n) (name_of (slot p))) gone_at

      fewer_or : (b : Bool) (m : ℕ) → cond b (m - 1) m ≤ m
      fewer_or true m = omega arith
      fewer_or false m = omega arith

      pub gone_fewer : len (recipes_below now n) ≤ len (recipes_below slot n)
      gone_fewer =
          subst (λ m. m ≤ len (recipes_below slot n))
          (sym (ap len gone ∙ len-remove nat_list_cmp_total (recipes_below slot n) (name_of (slot p))))
          (fewer_or (contains_key (recipes_below slot n) (name_of (slot p))) (len (recipes_below slot n)))
