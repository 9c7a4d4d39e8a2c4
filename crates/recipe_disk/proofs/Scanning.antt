-- What the tests of slots find, slot by slot.
use Rattle.std.proofs.Common.{◌≡◌, refl, sym, ap, subst, ◌∙◌, ℕ, zero, suc, ◌+◌, ◌-◌, ◌<◌, ◌≤◌, ◌⊎◌, inl, inr, ◌&&◌, ◌||◌, Bool, true, false, cond, bytes_eq, is_some, length, not, List, Option, None, Some, Result, Ok, Err, if◌then◌else◌, arith}
use Rattle.std.proofs.lemmas.Bool.{or_from, or_left, or_right}
use Rattle.std.proofs.lemmas.Bool.Decides.{nat_tests}
use Rattle.std.proofs.lemmas.Slice.Eq.{bytes_eq-Decides}
use Rattle.std.specs.Cmp.Lexicographic.{nat_list_cmp_total}
use Rattle.std.specs.FinMap.{contains_key, get, get-empty, len, len-insert}
use Rattle.std.specs.List.{slice_get}
use Rattle.disk_base.specs.Story.{Story}
use Rattle.gem_recipes.specs.Recipes.{Recipe, Recipes, by_bytes}
use Rattle.spool_file.specs.Area.{first_at, or_else}
use Rattle.spool_file.proofs.Firsts.{one_more}
use Rattle.recipe_disk.specs.File.{area_break, fields_at, front_break, front_in, in_slot, names_break, number_at, recipes_break, slots_in}
use Rattle.recipe_disk.specs.Map.{any_below, has_name, has_number, is_new_name, is_newer, recipes_below, with_slot}
use Rattle.recipe_disk.specs.Reading.{Breaks, Finds, SaysOf}
use Rattle.recipe_disk.specs.Slot.{RecipeSlot, fields_break, head_break, is_open, name_of, number_of, recipe_of, slot_in, slot_place}
use Rattle.recipe_disk.specs.declared.head.Head.{Head}
use Rattle.recipe_disk.specs.declared.reading.Reading.{Reading}
use Rattle.recipe_disk.specs.declared.reading.Reading.TheVariants as reading
use Rattle.recipe_disk.proofs.Holders.{closed_same, last_or, names_agree, names_differ, newer_put, older_same, other_same, there_put}

-- ---- one of some places

pub any_true : (is : ℕ → Bool) (n k : ℕ) → k < n → is k ≡ true → any_below is n ≡ true
any_true is zero k below here = absurd (omega (arith, below))
any_true is (suc m) k below here = by (last_or k m below) (λ less. any_true is m k less here)
  where
    by : (k ≡ m) ⊎ (k < m) → (k < m → any_below is m ≡ true) → (any_below is m || is m) ≡ true
    by (inl same) before = or_right (any_below is m) (is m) (ap is (sym same) ∙ here)
    by (inr less) before = or_left (any_below is m) (is m) (before less)

pub any_next : (is : ℕ → Bool) (k : ℕ) → any_below is k ≡ false → is k ≡ false → any_below is (k + 1) ≡ false
any_next is k none here = subst (λ n. any_below is n ≡ false) (one_more k) (or_from (any_below is k) (is k) none here)

pub any_some : (is : ℕ → Bool) (n : ℕ) → any_below is n ≡ true → (k : ℕ) × (k < n) × (is k ≡ true)
any_some is zero found = absurd (grind (arith, found))
any_some is (suc m) found = by (any_below is m) refl (any_some is m) found
  where
    by : (b : Bool) → any_below is m ≡ b → (any_below is m ≡ true → (k : ℕ) × (k < m) × (is k ≡ true)) → (b || is m) ≡ true → (k : ℕ) × (k < suc m) × (is k ≡ true)
    by true here before either = let earlier = before here in (earlier.0, (let below = earlier.1 in omega (arith, below)), earlier.2)
    by false here before either = (m, omega arith, either)

-- ---- a break

pub finds_broken : {T : Type 0} (told : Option Story) (test : List ℕ → Option ℕ) (P : List ℕ → T → Type 0) (at : ℕ) (result : Reading T) →
    ((s : Story) → told ≡ Some s → test s.now.bytes ≡ Some at) → Breaks told at result → Finds told test P result
finds_broken told test P at (reading.Whole value) found breaks = absurd breaks
finds_broken told test P at (reading.Broken break) found breaks = λ s is.
    let here = breaks s is in
    (found s is ∙ ap (λ (n : ℕ). Some n) (sym here.0), here.1 ∙ ap (λ (n : ℕ). slice_get s.now.bytes n) (sym here.0))
finds_broken told test P at reading.Failed found breaks = tt

-- what is so of the bytes says another thing of them
pub says_as : {T E : Type 0} (told : Option Story) (P Q : List ℕ → T → Type 0) (result : Result T E) →
    ((s : Story) (value : T) → told ≡ Some s → P s.now.bytes value → Q s.now.bytes value) → SaysOf told P result → SaysOf told Q result
says_as told P Q (Ok value) so says = λ s is. so s value is (says s is)
says_as told P Q (Err fault) so says = tt

pub breaks_before : {T : Type 0} (told before : Option Story) (at at' : ℕ) (result : Reading T) → told ≡ before → at ≡ at' → Breaks told at result → Breaks before at' result
breaks_before told before at at' result same place is =
    subst (λ n. Breaks before n result) place (subst (λ b. Breaks b at result) same is)

-- ---- fields

pub fields_broken : (slot : ℕ → RecipeSlot) (k : ℕ) (head : Head) (place : ℕ) → head ≡ (slot k).head → head.opened ≡ true → fields_break head ≡ Some place →
    fields_at slot k ≡ Some (slot_place k + place)
fields_broken slot k head place is opened broken =
    ap (in_slot k) (sym (ap head_break is) ∙ ap (λ b. if b then fields_break head else None) opened ∙ broken)

fields_by : (head : Head) (b : Bool) → head.opened ≡ b → (b ≡ true → fields_break head ≡ None) → head_break head ≡ None
fields_by head true opened none = ap (λ b. if b then fields_break head else None) opened ∙ none refl
fields_by head false shut none = ap (λ b. if b then fields_break head else None) shut

pub fields_whole : (slot : ℕ → RecipeSlot) (k : ℕ) (head : Head) → head ≡ (slot k).head → fields_break head ≡ None → fields_at slot k ≡ None
fields_whole slot k head is none =
    ap (λ (h : Head). in_slot k (head_break h)) (sym is) ∙ ap (in_slot k) (fields_by head head.opened refl (λ opened. none))

pub fields_shut : (slot : ℕ → RecipeSlot) (k : ℕ) (head : Head) → head ≡ (slot k).head → head.opened ≡ false → fields_at slot k ≡ None
fields_shut slot k head is shut =
    ap (λ (h : Head). in_slot k (head_break h)) (sym is) ∙ ap (in_slot k) (fields_by head false shut (λ opened. absurd cc))

-- ---- numbers

pub number_used : (slot : ℕ → RecipeSlot) (k : ℕ) (head : Head) → head ≡ (slot k).head → head.opened ≡ true → has_number slot k head.number ≡ true →
    number_at slot k ≡ Some (slot_place k + 1)
number_used slot k head is opened used =
    ap (λ b. if b && has_number slot k (number_of (slot k)) then Some (slot_place k + 1) else None) (ap (λ (h : Head). h.opened) (sym is) ∙ opened)
    ∙ ap (λ b. if b then Some (slot_place k + 1) else None) (ap (λ (h : Head). has_number slot k h.number) (sym is) ∙ used)

pub number_new : (slot : ℕ → RecipeSlot) (k : ℕ) (head : Head) → head ≡ (slot k).head → has_number slot k head.number ≡ false → number_at slot k ≡ None
number_new slot k head is unused =
    ap (λ b. if is_open (slot k) && b then Some (slot_place k + 1) else None) (ap (λ (h : Head). has_number slot k h.number) (sym is) ∙ unused)
    ∙ by (is_open (slot k))
  where
    by : (b : Bool) → (if b && false then Some (slot_place k + 1) else None) ≡ None
    by true = refl
    by false = refl

pub number_shut : (slot : ℕ → RecipeSlot) (k : ℕ) (head : Head) → head ≡ (slot k).head → head.opened ≡ false → number_at slot k ≡ None
number_shut slot k head is shut =
    ap (λ b. if b && has_number slot k (number_of (slot k)) then Some (slot_place k + 1) else None) (ap (λ (h : Head). h.opened) (sym is) ∙ shut)

-- ---- names

pub new_shut : (slot : ℕ → RecipeSlot) (k : ℕ) (head : Head) → head ≡ (slot k).head → head.opened ≡ false → false ≡ is_new_name slot k
new_shut slot k head is shut =
    sym (ap (λ b. b && not (has_name slot k (name_of (slot k)))) (ap (λ (h : Head). h.opened) (sym is) ∙ shut))

pub new_open : (slot : ℕ → RecipeSlot) (k : ℕ) (head : Head) (known : Bool) → head ≡ (slot k).head → head.opened ≡ true → known ≡ has_name slot k (name_of (slot k)) →
    not known ≡ is_new_name slot k
new_open slot k head known is opened found =
    ap not found ∙ sym (ap (λ b. b && not (has_name slot k (name_of (slot k)))) (ap (λ (h : Head). h.opened) (sym is) ∙ opened))

either_way : (a : Bool) → a ≡ (a || false)
either_way true = refl
either_way false = refl

-- the names of the slots so far are those of their recipes
module _ (slot : ℕ → RecipeSlot) (m : ℕ) (q : List ℕ) where
  abbrev R : Recipes
  R = recipes_below slot m

  known_step : contains_key R q ≡ has_name slot m q → contains_key (with_slot (slot m) R) q ≡ (has_name slot m q || (is_open (slot m) && bytes_eq (name_of (slot m)) q))
  known_step before = by_gate (is_open (slot m)) refl
    where
      beside : (is_open (slot m) && bytes_eq (name_of (slot m)) q) ≡ false → get (with_slot (slot m) R) q ≡ get R q →
          contains_key (with_slot (slot m) R) q ≡ (has_name slot m q || (is_open (slot m) && bytes_eq (name_of (slot m)) q))
      beside test same =
          ap (λ (o : Option Recipe). is_some o) same ∙ before ∙ either_way (has_name slot m q)
          ∙ ap (λ b. has_name slot m q || b) (sym test)

      here : (is_open (slot m) && bytes_eq (name_of (slot m)) q) ≡ true → contains_key (with_slot (slot m) R) q ≡ true →
          contains_key (with_slot (slot m) R) q ≡ (has_name slot m q || (is_open (slot m) && bytes_eq (name_of (slot m)) q))
      here test there = there ∙ sym (or_right (has_name slot m q) (is_open (slot m) && bytes_eq (name_of (slot m)) q) test)

      there_already : (o : Option Recipe) → get R (name_of (slot m)) ≡ o → is_newer (number_of (slot m)) o ≡ false → contains_key R (name_of (slot m)) ≡ true
      there_already None at newer = absurd (grind (arith, newer))
      there_already (Some recipe) at newer = ap (λ (o : Option Recipe). is_some o) at

      by_age : is_open (slot m) ≡ true → name_of (slot m) ≡ q → (b : Bool) → is_newer (number_of (slot m)) (get R (name_of (slot m))) ≡ b → contains_key (with_slot (slot m) R) q ≡ true
      by_age opened named true newer =
          ap (λ (r : Recipes). contains_key r q) (newer_put (slot m) R opened newer)
          ∙ ap (λ (o : Option Recipe). is_some o) (there_put (slot m) R q ((bytes_eq-Decides q (name_of (slot m))).1 (sym named)))
      by_age opened named false newer =
          ap (λ (r : Recipes). contains_key r q) (older_same (slot m) R newer)
          ∙ ap (contains_key R) (sym named)
          ∙ there_already (get R (name_of (slot m))) refl newer

      by_name : is_open (slot m) ≡ true → (b : Bool) → bytes_eq (name_of (slot m)) q ≡ b →
          contains_key (with_slot (slot m) R) q ≡ (has_name slot m q || (is_open (slot m) && bytes_eq (name_of (slot m)) q))
      by_name opened true same =
          here (ap (λ b. b && bytes_eq (name_of (slot m)) q) opened ∙ same)
          (by_age opened (names_agree (name_of (slot m)) q same) (is_newer (number_of (slot m)) (get R (name_of (slot m)))) refl)
      by_name opened false other =
          beside (ap (λ b. b && bytes_eq (name_of (slot m)) q) opened ∙ other)
          (other_same (slot m) R q (apart (bytes_eq q (name_of (slot m))) refl))
        where
          apart : (b : Bool) → bytes_eq q (name_of (slot m)) ≡ b → bytes_eq q (name_of (slot m)) ≡ false
          apart true is = absurd (names_differ (name_of (slot m)) q other (sym (names_agree q (name_of (slot m)) is)))
          apart false is = is

      by_gate : (b : Bool) → is_open (slot m) ≡ b →
          contains_key (with_slot (slot m) R) q ≡ (has_name slot m q || (is_open (slot m) && bytes_eq (name_of (slot m)) q))
      by_gate true opened = by_name opened (bytes_eq (name_of (slot m)) q) refl
      by_gate false shut =
          beside (ap (λ b. b && bytes_eq (name_of (slot m)) q) shut) (ap (λ (r : Recipes). get r q) (closed_same (slot m) R shut))

pub known_below : (slot : ℕ → RecipeSlot) (m : ℕ) (q : List ℕ) → contains_key (recipes_below slot m) q ≡ has_name slot m q
known_below slot zero q = ap (λ (o : Option Recipe). is_some o) (get-empty by_bytes q)
known_below slot (suc m) q = known_step slot m q (known_below slot m q)

added_if : (b : Bool) (n : ℕ) → (if b then n + 1 else n) ≡ n + cond b 1 0
added_if true n = refl
added_if false n = omega arith

module _ (slot : ℕ → RecipeSlot) (m : ℕ) where
  abbrev one_if : Bool → ℕ
  one_if b = cond b 1 0

  names_by_age : (known b : Bool) → is_open (slot m) ≡ true → contains_key (recipes_below slot m) (name_of (slot m)) ≡ known →
      is_newer (number_of (slot m)) (get (recipes_below slot m) (name_of (slot m))) ≡ b →
      len (with_slot (slot m) (recipes_below slot m)) ≡ len (recipes_below slot m) + one_if (not known)
  names_by_age known true opened is newer =
      ap len (newer_put (slot m) (recipes_below slot m) opened newer)
      ∙ len-insert nat_list_cmp_total (recipes_below slot m) (name_of (slot m)) (recipe_of (slot m))
      ∙ ap (λ b. cond b (len (recipes_below slot m)) (len (recipes_below slot m) + 1)) is
      ∙ added known (len (recipes_below slot m))
    where
      added : (b : Bool) (n : ℕ) → cond b n (n + 1) ≡ n + cond (not b) 1 0
      added true n = omega arith
      added false n = refl
  names_by_age true false opened is newer = ap len (older_same (slot m) (recipes_below slot m) newer) ∙ omega arith
  names_by_age false false opened is newer = absurd (nowhere (get (recipes_below slot m) (name_of (slot m))) refl)
    where
      nowhere : (o : Option Recipe) → get (recipes_below slot m) (name_of (slot m)) ≡ o → ⊥
      nowhere None at = absurd (grind (arith, newer, ap (is_newer (number_of (slot m))) at))
      nowhere (Some recipe) at = absurd (grind (arith, is, ap (λ (o : Option Recipe). is_some o) at))

  names_by : (b : Bool) → is_open (slot m) ≡ b → len (with_slot (slot m) (recipes_below slot m)) ≡ len (recipes_below slot m) + one_if (is_new_name slot m)
  names_by true opened =
      names_by_age (has_name slot m (name_of (slot m))) (is_newer (number_of (slot m)) (get (recipes_below slot m) (name_of (slot m)))) opened (known_below slot m (name_of (slot m))) refl
      ∙ ap (λ b. len (recipes_below slot m) + one_if (b && not (has_name slot m (name_of (slot m))))) (sym opened)
  names_by false shut =
      ap len (closed_same (slot m) (recipes_below slot m) shut)
      ∙ omega arith
      ∙ ap (λ b. len (recipes_below slot m) + one_if (b && not (has_name slot m (name_of (slot m))))) (sym shut)

  pub names_next : (names : ℕ) (is_new : Bool) → names ≡ len (recipes_below slot m) → is_new ≡ is_new_name slot m → (if is_new then names + 1 else names) ≡ len (recipes_below slot (m + 1))
  names_next names is_new are is =
      added_if is_new names
      ∙ ap (λ (n : ℕ). n + cond is_new 1 0) are
      ∙ ap (λ (b : Bool). len (recipes_below slot m) + cond b 1 0) is
      ∙ sym (names_by (is_open (slot m)) refl)
      ∙ ap (λ n. len (recipes_below slot n)) (one_more m)

pub names_most : (is_new : Bool) (names k : ℕ) → names ≤ k → (if is_new then names + 1 else names) ≤ k + 1
names_most true names k most = omega (arith, most)
names_most false names k most = omega (arith, most)

-- ---- the tests of all slots

pub area_fields : (slot : ℕ → RecipeSlot) (n at : ℕ) → first_at (fields_at slot) n ≡ Some at → area_break slot n ≡ Some at
area_fields slot n at is = ap (λ o. or_else o (or_else (first_at (number_at slot) n) (names_break slot n))) is

pub area_numbers : (slot : ℕ → RecipeSlot) (n : ℕ) (place : Option ℕ) → first_at (fields_at slot) n ≡ None → or_else (first_at (number_at slot) n) (names_break slot n) ≡ place →
    area_break slot n ≡ place
area_numbers slot n place none rest = ap (λ o. or_else o (or_else (first_at (number_at slot) n) (names_break slot n))) none ∙ rest

pub names_few : (slot : ℕ → RecipeSlot) (n names : ℕ) → names ≡ len (recipes_below slot n) → names < n → names_break slot n ≡ None
names_few slot n names is few = grind (arith, nat_tests, is, few)

pub names_many : (slot : ℕ → RecipeSlot) (n names : ℕ) → 2 ≤ n → names ≡ len (recipes_below slot n) → n ≤ names → names_break slot n ≡ Some (slot_place (n - 1) + 10)
names_many slot n names some is many = grind (arith, nat_tests, is, many, some)

pub behind_numbers : (slot : ℕ → RecipeSlot) (n : ℕ) (place : Option ℕ) → first_at (number_at slot) n ≡ None → names_break slot n ≡ place →
    or_else (first_at (number_at slot) n) (names_break slot n) ≡ place
behind_numbers slot n place none rest = ap (λ o. or_else o (names_break slot n)) none ∙ rest

-- ---- the file

pub front_broken : (bytes : List ℕ) (at : ℕ) → front_break (front_in bytes) (length bytes) ≡ Some at → recipes_break bytes ≡ Some at
front_broken bytes at is = ap (λ o. or_else o (area_break (slot_in bytes) (slots_in bytes))) is

behind_front : (bytes : List ℕ) (slots : ℕ) (place : Option ℕ) → front_break (front_in bytes) (length bytes) ≡ None → slots ≡ slots_in bytes →
    area_break (slot_in bytes) slots ≡ place → recipes_break bytes ≡ place
behind_front bytes slots place front count area =
    ap (λ o. or_else o (area_break (slot_in bytes) (slots_in bytes))) front ∙ ap (area_break (slot_in bytes)) (sym count) ∙ area

pub file_broken : (bytes : List ℕ) (slots at : ℕ) → front_break (front_in bytes) (length bytes) ≡ None → slots ≡ slots_in bytes →
    area_break (slot_in bytes) slots ≡ Some at → recipes_break bytes ≡ Some at
file_broken bytes slots at = behind_front bytes slots (Some at)

pub file_whole : (bytes : List ℕ) (slots : ℕ) → front_break (front_in bytes) (length bytes) ≡ None → slots ≡ slots_in bytes →
    area_break (slot_in bytes) slots ≡ None → recipes_break bytes ≡ None
file_whole bytes slots = behind_front bytes slots None
