-- What hints tell of a search, and what becomes of them where a slot is written.
use Rattle.std.proofs.Common.{◌≡◌, refl, sym, ap, subst, ◌∙◌, ℕ, zero, suc, ◌+◌, ◌-◌, ◌^◌, ◌<◌, ◌≤◌, ◌==◌, ◌⊎◌, inl, inr, ◌&&◌, ◌||◌, Bool, true, false, bytes_eq, get_or, is_some, length, max, min, nat_lt, not, set, List, [], ◌∷◌, Option, None, Some, slice_index, if◌then◌else◌, arith}
use Rattle.std.proofs.lemmas.Bool.{cases_eq, cases_lt}
use Rattle.std.proofs.lemmas.Bool.Decides.{nat_tests}
use Rattle.std.proofs.lemmas.List.{get_or-set_other, get_or-set_same}
use Rattle.std.specs.Option.{option_map}
use Rattle.disk_base.specs.Settle.{Settles}
use Rattle.disk_base.specs.Story.{Story, with_part}
use Rattle.disk_base.specs.declared.disk.DiskAnswer.{DiskAnswer}
use Rattle.disk_base.specs.declared.disk.DiskAnswer.TheVariants.{Done, Failed}
use Rattle.gem_recipes.specs.Recipes.{most_body}
use Rattle.spool_file.specs.Area.{first_at, or_else}
use Rattle.spool_file.proofs.Firsts.{one_more}
use Rattle.recipe_disk.specs.Changes.{parts_of}
use Rattle.recipe_disk.specs.Hints.{AreHints, KnowsSlots, StillKnows, hint_in, is_there, may_be, print_of, shut, sought_print}
use Rattle.recipe_disk.specs.Map.{any_below}
use Rattle.recipe_disk.specs.Reading.{is_sought}
use Rattle.recipe_disk.specs.Slot.{RecipeSlot, head_break, head_in, is_open, name_in, name_of, number_of, slot_in, slot_place}
use Rattle.recipe_disk.specs.Survey.{HasFields, behind_if, behind_live, count_if, free_at, free_if, is_live, live_count}
use Rattle.recipe_disk.specs.declared.head.Head.{Head}
use Rattle.recipe_disk.specs.declared.hints.Hint.{Hint}
use Rattle.recipe_disk.specs.declared.sought.Sought.{Sought}
use Rattle.recipe_disk.specs.declared.sought.Sought.TheVariants.{Name, Newer, Number}
use Rattle.recipe_disk.specs.declared.survey.Survey.{Survey}
use Rattle.recipe_disk.proofs.Holders.{last_or, names_agree}
use Rattle.recipe_disk.proofs.Images.{IsBut, gate_changed, gated, side_of, slot_kept, written_but}
use Rattle.recipe_disk.proofs.Parts.{byte_there, length-parts, written_name, written_number}
use Rattle.recipe_disk.proofs.Putting.{fields_fit, open_fits}
use Rattle.recipe_disk.proofs.Stories.{same_story, settled_at}
use Rattle.recipe_disk.proofs.Tidy.{live_is}

-- ---- what is looked for

abbrev hint_by : Bool → Head → Hint
hint_by opened head = if opened then record { opened = true; print = print_of (name_in head); number = head.number } else shut

pub shut_hint_in : (head : Head) → head.opened ≡ false → shut ≡ hint_in head
shut_hint_in head closed = sym (ap (λ b. hint_by b head) closed)

-- names with other fingerprints are other names
other_print : (a b : List ℕ) → (print_of a == print_of b) ≡ false → bytes_eq a b ≡ false
other_print a b other = by (bytes_eq a b) refl
  where
    by : (test : Bool) → bytes_eq a b ≡ test → test ≡ false
    by true same =
        let equal : print_of a ≡ print_of b = ap print_of (names_agree a b same) in
        absurd (grind (arith, nat_tests, other, equal))
    by false apart = refl

both_false : (a b more : Bool) → (a ≡ false → b ≡ false) → (a && more) ≡ false → (b && more) ≡ false
both_false true true more so is = is
both_false true false more so is = refl
both_false false b more so is = ap (λ x. x && more) (so refl)

-- a slot that can't be what is looked for by its hint isn't
pub not_there : (sought : Sought) (head : Head) → ((hint_in head).opened && may_be sought (sought_print sought) (hint_in head)) ≡ false →
    (head.opened && is_sought sought head) ≡ false
not_there sought head nay = by head.opened refl nay
  where
    of : (sought : Sought) → may_be sought (sought_print sought) (hint_by true head) ≡ false → is_sought sought head ≡ false
    of (Number number) other = other
    of (Name name) other = other_print (name_in head) name.now other
    of (Newer name number) other =
        both_false (print_of (name_in head) == print_of name.now) (bytes_eq (name_in head) name.now) (nat_lt number head.number)
        (other_print (name_in head) name.now) other

    by : (b : Bool) → head.opened ≡ b → ((hint_by b head).opened && may_be sought (sought_print sought) (hint_by b head)) ≡ false →
        (b && is_sought sought head) ≡ false
    by true opened other = of sought other
    by false closed other = refl

pub there_by_hint : (sought : Sought) (bytes : List ℕ) (k print : ℕ) (hint : Hint) (found : Bool) → print ≡ sought_print sought → hint ≡ hint_in (head_in bytes k) →
    found ≡ (hint.opened && may_be sought print hint) → found ≡ false → false ≡ is_there sought bytes k
there_by_hint sought bytes k print hint found print_is is may nay =
    sym (not_there sought (head_in bytes k)
    (sym (ap (λ (h : Hint). h.opened && may_be sought (sought_print sought) h) is)
    ∙ sym (ap (λ (p : ℕ). hint.opened && may_be sought p hint) print_is)
    ∙ sym may ∙ nay))

-- ---- the first place that passes a test

abbrev pub place_if : (ℕ → Bool) → ℕ → Option ℕ
place_if test k = if test k then Some k else None

pub any_place : (test : ℕ → Bool) (n : ℕ) → is_some (first_at (place_if test) n) ≡ any_below test n
any_place test zero = refl
any_place test (suc m) = by (first_at (place_if test) m) (test m) ∙ ap (λ b. b || test m) (any_place test m)
  where
    by : (o : Option ℕ) (b : Bool) → is_some (or_else o (if b then Some m else None)) ≡ (is_some o || b)
    by None true = refl
    by None false = refl
    by (Some k) true = refl
    by (Some k) false = refl

-- ---- what hints tell of all slots

-- the first slot that isn't open, how many recipes there are, and the number behind their greatest
pub record HasCounts (slot : ℕ → RecipeSlot) (n : ℕ) (survey : Survey) : Type 0 where
  pub free : survey.free ≡ free_at slot n
  pub count : survey.count ≡ live_count slot n
  pub next : survey.next ≡ behind_live slot n

capped : (number : ℕ) → number < 2 ^ 63 → min (number + 1) (2 ^ 64 - 1) ≡ number + 1
capped number low = omega (arith, low)

module _ (slot : ℕ → RecipeSlot) (k : ℕ) (hint : Hint) (is : hint ≡ hint_in (slot k).head) (sound : head_break (slot k).head ≡ None) where
  abbrev H : Head
  H = (slot k).head

  opened_is : hint.opened ≡ H.opened
  opened_is = ap (λ (h : Hint). h.opened) is ∙ by H.opened
    where
      by : (b : Bool) → (hint_by b H).opened ≡ b
      by true = refl
      by false = refl

  behind_is : (behind : ℕ) → (if hint.opened then max behind (min (hint.number + 1) (2 ^ 64 - 1)) else behind) ≡ behind_if H behind
  behind_is behind =
      ap (λ (h : Hint). if h.opened then max behind (min (h.number + 1) (2 ^ 64 - 1)) else behind) is
      ∙ by H.opened refl
      ∙ sym (ap (λ b. if b then max behind (H.number + 1) else behind) (live_is H sound))
    where
      by : (b : Bool) → H.opened ≡ b →
          (if (hint_by b H).opened then max behind (min ((hint_by b H).number + 1) (2 ^ 64 - 1)) else behind) ≡ (if b then max behind (H.number + 1) else behind)
      by true opened = ap (λ (n : ℕ). max behind n) (capped H.number (open_fits H sound opened).number)
      by false closed = refl

  pub counts_next : (survey now : Survey) → HasCounts slot k survey → now.free ≡ or_else survey.free (if not hint.opened then Some k else None) →
      now.count ≡ (if hint.opened then survey.count + 1 else survey.count) →
      now.next ≡ (if hint.opened then max survey.next (min (hint.number + 1) (2 ^ 64 - 1)) else survey.next) → HasCounts slot (k + 1) now
  counts_next survey now has free count next = subst (λ n. HasCounts slot n now) (one_more k) (record {
    free = free ∙ ap (λ o. or_else o (if not hint.opened then Some k else None)) has.free
        ∙ ap (λ b. or_else (free_at slot k) (if not b then Some k else None)) opened_is;
    count = count
        ∙ ap (λ b. if b then survey.count + 1 else survey.count) (opened_is ∙ sym (live_is H sound))
        ∙ ap (count_if H) has.count;
    next = next ∙ behind_is survey.next ∙ ap (behind_if H) has.next;
  })

-- ---- one slot more, or another one

pub hints_next : (slot : ℕ → RecipeSlot) (m : ℕ) (hints : List Hint) (hint : Hint) → m < length hints → AreHints slot m hints → hint ≡ hint_in (slot m).head →
    AreHints slot (m + 1) (set hints m hint)
hints_next slot m hints hint inside are is k d below = by (last_or k m (subst (λ n. k < n) (sym (one_more m)) below))
  where
    by : (k ≡ m) ⊎ (k < m) → get_or (set hints m hint) k d ≡ hint_in (slot k).head
    by (inl same) =
        ap (λ i. get_or (set hints m hint) i d) same ∙ get_or-set_same hints m hint d inside ∙ is
        ∙ ap (λ i. hint_in (slot i).head) (sym same)
    by (inr less) =
        get_or-set_other hints m k hint d (λ same. absurd (omega (arith, less, same))) ∙ are k d less

hints_set : (slot now : ℕ → RecipeSlot) (n p : ℕ) (hints : List Hint) (hint : Hint) → p < length hints → AreHints slot n hints →
    ((k : ℕ) → k < n → (k ≡ p → ⊥) → now k ≡ slot k) → hint ≡ hint_in (now p).head → AreHints now n (set hints p hint)
hints_set slot now n p hints hint inside are others is k d below = by (cases_eq k p)
  where
    by : (k ≡ p) ⊎ (k ≡ p → ⊥) → get_or (set hints p hint) k d ≡ hint_in (now k).head
    by (inl same) =
        ap (λ i. get_or (set hints p hint) i d) same ∙ get_or-set_same hints p hint d inside ∙ is
        ∙ ap (λ i. hint_in (now i).head) (sym same)
    by (inr other) =
        get_or-set_other hints p k hint d other ∙ are k d below
        ∙ ap (λ (s : RecipeSlot). hint_in s.head) (sym (others k below other))

-- ---- writes

-- a slot beside one that was written
beside : (bytes image : List ℕ) (n p at q long : ℕ) → slot_place n ≤ length bytes → at ≡ slot_place p + q → q + long ≤ 65536 → IsBut bytes at long image →
    (k : ℕ) → k < n → (k ≡ p → ⊥) → slot_in image k ≡ slot_in bytes k
beside bytes image n p at q long inside at_is short is k below other =
    slot_kept bytes image at long is k (omega (arith, inside, below)) (side_of p k at q long at_is short (cases_lt k p) other)

module _ (bytes : List ℕ) (n p : ℕ) (hints : List Hint) (few : slot_place n ≤ length bytes) (within : slot_place (p + 1) ≤ length bytes) (long : p < length hints)
    (are : AreHints (slot_in bytes) n hints) where
  gate_inside : slot_place p + 1 ≤ length bytes
  gate_inside = omega (arith, within)

  -- its gate is closed
  abbrev closed : List ℕ
  closed = with_part bytes (slot_place p) (0 ∷ [])

  closed_hints : AreHints (slot_in closed) n (set hints p shut)
  closed_hints =
      hints_set (slot_in bytes) (slot_in closed) n p hints shut long are
      (beside bytes closed n p (slot_place p) 0 1 few (omega arith) (omega arith) (written_but bytes (0 ∷ []) (slot_place p) gate_inside))
      (shut_hint_in (head_in closed p) (ap (λ (g : ℕ). g == 90) (byte_there bytes (0 ∷ []) (slot_place p) gate_inside 0 0 refl)))

  -- a recipe is written into it, and its gate is opened
  module _ (number : ℕ) (name body : List ℕ) (wide : number < 2 ^ 64) (most : length name ≤ 80) (short : length body ≤ most_body) where
    abbrev parts : List ℕ
    parts = parts_of number name body

    abbrev filled : List ℕ
    filled = with_part bytes (slot_place p + 1) parts

    abbrev opened : List ℕ
    opened = with_part filled (slot_place p) (90 ∷ [])

    parts_long : length parts ≡ 93 + length body
    parts_long = length-parts number name body wide most short

    parts_inside : slot_place p + 1 + length parts ≤ length bytes
    parts_inside = omega (arith, within, parts_long, short)

    parts_but : IsBut bytes (slot_place p + 1) (length parts) filled
    parts_but = written_but bytes parts (slot_place p + 1) parts_inside

    filled_long : length filled ≡ length bytes
    filled_long = parts_but.long

    gate_there : slot_place p + 1 ≤ length filled
    gate_there = omega (arith, filled_long, within)

    gate_but : IsBut filled (slot_place p) 1 opened
    gate_but = written_but filled (90 ∷ []) (slot_place p) gate_there

    others : (k : ℕ) → k < n → (k ≡ p → ⊥) → slot_in opened k ≡ slot_in bytes k
    others k below other =
        beside filled opened n p (slot_place p) 0 1 (omega (arith, filled_long, few)) (omega arith) (omega arith) gate_but k below other
        ∙ beside bytes filled n p (slot_place p + 1) 1 (length parts) few refl (omega (arith, parts_long, short)) parts_but k below other

    opened_slot : slot_in opened p ≡ gated true (slot_in filled p)
    opened_slot =
        gate_changed filled opened p (omega (arith, filled_long, within)) gate_but
        ∙ ap (λ b. gated b (slot_in filled p))
        (ap (λ (g : ℕ). g == 90) (byte_there filled (90 ∷ []) (slot_place p) gate_there 90 0 refl))

    abbrev hint_with : ℕ → List ℕ → Hint
    hint_with number name = record { opened = true; print = print_of name; number = number }

    opened_hint : hint_with number name ≡ hint_in (head_in opened p)
    opened_hint =
        sym (ap (λ (s : RecipeSlot). hint_in s.head) opened_slot
        ∙ ap (λ (m : ℕ). hint_with m (name_of (slot_in filled p))) (written_number number name body wide most short bytes p parts_inside)
        ∙ ap (λ (m : List ℕ). hint_with number m) (written_name number name body wide most short bytes p parts_inside))

    opened_hints : AreHints (slot_in opened) n (set hints p (hint_with number name))
    opened_hints = hints_set (slot_in bytes) (slot_in opened) n p hints (hint_with number name) long are others opened_hint

-- ---- the same of what a disk tells

from_map : (f : Story → Story) (told : Option Story) (t : Story) → option_map f told ≡ Some t → (s : Story) × (told ≡ Some s) × (f s ≡ t)
from_map f None t is = absurd cc
from_map f (Some s) t is = (s, refl, same_story (f s) t is)

module _ (told : Option Story) (size n p : ℕ) (hints : List Hint) (sized : (s : Story) → told ≡ Some s → length s.now.bytes ≡ size)
    (few : slot_place n ≤ size) (within : slot_place (p + 1) ≤ size) (long : p < length hints) (known : KnowsSlots told n hints) where
  few_in : (s : Story) → told ≡ Some s → slot_place n ≤ length s.now.bytes
  few_in s is = subst (λ m. slot_place n ≤ m) (sym (sized s is)) few

  within_in : (s : Story) → told ≡ Some s → slot_place (p + 1) ≤ length s.now.bytes
  within_in s is = subst (λ m. slot_place (p + 1) ≤ m) (sym (sized s is)) within

  pub known_closed : (after : Option Story) → Settles told (slot_place p) (0 ∷ []) after Done → KnowsSlots after n (set hints p shut)
  known_closed after settles t is =
      let from = from_map (settled_at (slot_place p) (0 ∷ [])) told t (sym settles ∙ is) in
      subst (λ (u : Story). AreHints (slot_in u.now.bytes) n (set hints p shut)) from.2
      (closed_hints from.0.now.bytes n p hints (few_in from.0 from.1) (within_in from.0 from.1) long (known from.0 from.1))

  pub known_opened : (number : ℕ) (name body : List ℕ) → number < 2 ^ 64 → length name ≤ 80 → length body ≤ most_body → (mid after : Option Story) →
      Settles told (slot_place p + 1) (parts_of number name body) mid Done → Settles mid (slot_place p) (90 ∷ []) after Done →
      KnowsSlots after n (set hints p (record { opened = true; print = print_of name; number = number }))
  known_opened number name body wide most short mid after first second t is =
      let gate = from_map (settled_at (slot_place p) (90 ∷ [])) mid t (sym second ∙ is) in
      let from = from_map (settled_at (slot_place p + 1) (parts_of number name body)) told gate.0 (sym first ∙ gate.1) in
      subst (λ (u : Story). AreHints (slot_in u.now.bytes) n (set hints p (record { opened = true; print = print_of name; number = number })))
      (ap (settled_at (slot_place p) (90 ∷ [])) from.2 ∙ gate.2)
      (opened_hints from.0.now.bytes n p hints (few_in from.0 from.1) (within_in from.0 from.1) long (known from.0 from.1) number name body wide most short)

-- nothing was changed
pub known_looked : (told after : Option Story) (n : ℕ) (hints : List Hint) → after ≡ told → KnowsSlots told n hints → KnowsSlots after n hints
known_looked told after n hints same known s is = known s (sym same ∙ is)

-- nothing was changed before
pub still_looked : (told mid after : Option Story) (n : ℕ) (hints now : List Hint) (answer : DiskAnswer) → mid ≡ told → StillKnows mid after n hints now answer →
    StillKnows told after n hints now answer
still_looked told mid after n hints now answer same still = subst (λ (o : Option Story). StillKnows o after n hints now answer) same still

-- one behind the other
pub still_both : (told mid after : Option Story) (n : ℕ) (hints between now : List Hint) (answer : DiskAnswer) → StillKnows told mid n hints between Done →
    StillKnows mid after n between now answer → StillKnows told after n hints now answer
still_both told mid after n hints between now Done first second = λ known. second (first known)
still_both told mid after n hints between now Failed first second = tt
