-- A new file: its page, and slots that are all closed.
use Rattle.std.proofs.Common.{◌≡◌, refl, sym, ap, subst, ◌∙◌, ℕ, zero, suc, ◌+◌, ◌-◌, ◌<◌, ◌≤◌, ◌==◌, ◌⊎◌, inl, inr, ◌&&◌, Bool, true, false, bytes_eq, is_some, nat_lt, List, [], ◌∷◌, ◌++◌, length, length-append, replicate, take, Ok, Option, None, Some, Result, if◌then◌else◌, arith, true≢false}
use Rattle.std.proofs.lemmas.Bool.{and_from, cases_eq}
use Rattle.std.proofs.lemmas.Bool.Decides.{nat_tests}
use Rattle.std.proofs.lemmas.List.{length-replicate}
use Rattle.std.proofs.lemmas.Nat.{from_be_bytes-to_be_bytes_4}
use Rattle.std.proofs.lemmas.Slice.Eq.{bytes_eq-Decides}
use Rattle.std.specs.FinMap.{contains_key, empty, get-empty, len, len-empty}
use Rattle.std.specs.Int.{w32, to_be_bytes}
use Rattle.std.specs.Option.{option_map}
use Rattle.std.specs.Result.{OnOk}
use Rattle.disk_base.specs.Story.{Story, with_part, with_sync, with_write}
use Rattle.disk_base.specs.declared.disk.Disk as disk
use Rattle.disk_base.specs.declared.disk.DiskAnswer.TheVariants.{Done}
use Rattle.disk_base.proofs.Marks.{length-part}
use Rattle.gem_recipes.specs.Recipes.{Recipe, Recipes, by_bytes}
use Rattle.spool_file.specs.Added.{WritesOrSyncs}
use Rattle.spool_file.specs.Area.{or_else}
use Rattle.recipe_disk.specs.Changes.{Rests}
use Rattle.recipe_disk.specs.File.{front_break, front_in, magic, magic_break, recipes_in, slots_break, slots_in, slots_of}
use Rattle.recipe_disk.specs.Map.{IsTidy, recipes_below}
use Rattle.recipe_disk.specs.Opening.{ClosesTo, FormatsRecipes, IsClosedTo, StandsEmpty, first_page}
use Rattle.recipe_disk.specs.Reading.{HasMade}
use Rattle.recipe_disk.specs.Slot.{RecipeSlot, is_open, name_of, slot_in, slot_place}
use Rattle.recipe_disk.proofs.Areas.{IsArea, shut_none}
use Rattle.recipe_disk.proofs.Holders.{closed_same, not_both}
use Rattle.recipe_disk.proofs.Images.{IsBut, IsFile, bytes_kept, side_of, slot_kept, written_but}
use Rattle.recipe_disk.proofs.Parts.{byte_there, part_there}
use Rattle.recipe_disk.proofs.Putting.{recipes_are, rests_of}
use Rattle.recipe_disk.proofs.Scanning.{any_true, known_below}
use Rattle.recipe_disk.proofs.Stories.{story_or}

pub from_ok : {T E P : Type 0} (r : Result T E) (x : T) → r ≡ Ok x → OnOk r P → P
from_ok {T} {E} {P} r x is holds = subst (λ (s : Result T E). OnOk s P) is holds

-- ---- slots that are all closed

module _ (slot : ℕ → RecipeSlot) (n : ℕ) (closed : (k : ℕ) → k < n → is_open (slot k) ≡ false) where
  none_below : (m : ℕ) → m ≤ n → recipes_below slot m ≡ empty
  none_below zero within = refl
  none_below (suc m) within =
      closed_same (slot m) (recipes_below slot m) (closed m (omega (arith, within))) ∙ none_below m (omega (arith, within))

  pub none_there : recipes_below slot n ≡ empty
  none_there = none_below n (omega arith)

  pub closed_area : IsArea slot n
  closed_area =
      let none : 0 ≤ n - 1 = omega arith in
      record {
        fields = λ k below. shut_none (slot k).head (closed k below);
        differ = λ j k a b there here same. absurd (not_both (is_open (slot j)) there (closed j a));
        few = subst (λ m. m ≤ n - 1) (sym (ap len none_there ∙ len-empty by_bytes Recipe)) none;
      }

  pub closed_tidy : IsTidy slot n
  closed_tidy j k a b there here same = absurd (not_both (is_open (slot j)) there (closed j a))

-- ---- the first page

pub page_is : (slots : ℕ) → first_page slots ≡ magic ++ to_be_bytes w32 slots ++ replicate 4084 0
unfolding first_page
page_is slots = refl

pub page_long : (slots : ℕ) → length (first_page slots) ≡ 4096
page_long slots =
    let zeros : length (replicate {A = ℕ} 4084 0) ≡ 4084 = length-replicate {A = ℕ} 4084 0 in
    ap length (page_is slots) ∙ omega (arith, length-append (magic ++ to_be_bytes w32 slots) (replicate 4084 0), zeros)

abbrev front : ℕ → List ℕ
front slots = magic ++ to_be_bytes w32 slots

front_page : (slots : ℕ) → take 12 (first_page slots) ≡ front slots
front_page slots = ap (λ (xs : List ℕ). take 12 xs) (page_is slots)

magic_none : (slots : ℕ) → magic_break (front slots) ≡ None
unfolding magic_break
magic_none slots = refl

slots_none : (slots n size : ℕ) → n ≡ slots → 2 ≤ slots → slots ≤ 4096 → slot_place slots ≤ size →
    (if nat_lt size 12 then Some size else (if nat_lt n 2 then Some 8 else (if nat_lt 4096 n then Some 8 else (if nat_lt size (slot_place n) then Some size else None)))) ≡ None
slots_none slots n size is some most fits = grind (arith, nat_tests, is, some, most, fits)

slots_are : (slots : ℕ) → slots ≤ 4096 → slots_of (front slots) ≡ slots
slots_are slots most = from_be_bytes-to_be_bytes_4 slots (omega (arith, most))

front_none : (slots size : ℕ) → 2 ≤ slots → slots ≤ 4096 → slot_place slots ≤ size → front_break (front slots) size ≡ None
unfolding front_break
front_none slots size some most fits =
    ap (λ (o : Option ℕ). or_else o (slots_break (front slots) size)) (magic_none slots)
    ∙ slots_none slots (slots_of (front slots)) size (slots_are slots most) some most fits

-- ---- slots are closed, one behind the other

-- what was told before
pub back : (before after : Option Story) (f : Story → Story) (t : Story) → after ≡ option_map f before → after ≡ Some t →
    (s : Story) × (before ≡ Some s) × (t ≡ f s)
back None after f t is told = absurd (grind (arith, is, told))
back (Some s) after f t is told = (s, refl, ap (story_or t) (sym told ∙ is))

pub none_closed : (s : Story) → IsClosedTo s s 0
none_closed s = record { long = refl; front = refl; closed = λ k below. absurd (omega (arith, below)) }

module _ (s t : Story) (k slots : ℕ) (is : IsClosedTo s t k) (below : k < slots) (fits : slot_place slots ≤ length s.now.bytes) where
  abbrev now : List ℕ
  now = with_part t.now.bytes (slot_place k) (0 ∷ [])

  inside : (j : ℕ) → j < slots → slot_place j + 65536 ≤ length t.now.bytes
  inside j under = let long = is.long in omega (arith, under, fits, long)

  gate_inside : slot_place k + 1 ≤ length t.now.bytes
  gate_inside = let enough = inside k below in omega (arith, enough)

  but : IsBut t.now.bytes (slot_place k) 1 now
  but = written_but t.now.bytes (0 ∷ []) (slot_place k) gate_inside

  shut : (j : ℕ) → j < k + 1 → (j ≡ k) ⊎ (j ≡ k → ⊥) → is_open (slot_in now j) ≡ false
  shut j less (inl same) =
      ap (λ (n : ℕ). is_open (slot_in now n)) same ∙ ap (λ (g : ℕ). g == 90) (byte_there t.now.bytes (0 ∷ []) (slot_place k) gate_inside 0 0 refl)
  shut j less (inr other) =
      let earlier : j < k = grind (arith, less, other) in
      ap is_open (slot_kept t.now.bytes now (slot_place k) 1 but j (inside j (omega (arith, earlier, below)))
      (side_of k j (slot_place k) 0 1 (omega arith) (omega arith) (inl earlier) other))
      ∙ is.closed j earlier

  pub one_closed : IsClosedTo s (with_write (slot_place k) (0 ∷ []) t) (k + 1)
  one_closed = record {
    long = length-part t.now.bytes (0 ∷ []) (slot_place k) gate_inside ∙ is.long;
    front =
        bytes_kept t.now.bytes now (slot_place k) 1 but 0 12 (inl (omega arith)) (let enough = inside k below in omega (arith, enough))
        ∙ is.front;
    closed = λ j less. shut j less (cases_eq j k);
  }

pub closes_more : (o p q : Option Story) (k slots size : ℕ) → ((s : Story) → o ≡ Some s → length s.now.bytes ≡ size) → k < slots → slot_place slots ≤ size →
    ClosesTo o p k → q ≡ option_map (with_write (slot_place k) (0 ∷ [])) p → ClosesTo o q (k + 1)
closes_more o p q k slots size sized below fits so_far is t told =
    let before = back p q (with_write (slot_place k) (0 ∷ [])) t is told in
    let first = so_far before.0 before.1 in
    let long = sized first.0 first.1 in (
      first.0,
      first.1,
      subst (λ (u : Story). IsClosedTo first.0 u (k + 1)) (sym before.2)
          (one_closed first.0 before.0 k slots first.2 below (omega (arith, fits, long))),
    )

-- ---- the page, the closed slots and the sync

empty_rests : (slots : ℕ) (s : Story) → s.now.loose ≡ [] → 2 ≤ slots → slots ≤ 4096 → slot_place slots ≤ length s.now.bytes → front_in s.now.bytes ≡ front slots →
    ((k : ℕ) → k < slots → is_open (slot_in s.now.bytes k) ≡ false) → Rests slots s × (recipes_in s.now.bytes ≡ empty)
empty_rests slots s settled some most fits is closed =
    let count : slots ≡ slots_in s.now.bytes = sym (ap slots_of is ∙ slots_are slots most) in
    let file : IsFile slots s.now.bytes = record {
      front = ap (λ (f : List ℕ). front_break f (length s.now.bytes)) is ∙ front_none slots (length s.now.bytes) some most fits;
      slots_are = count;
      inside = fits;
      area = closed_area (slot_in s.now.bytes) slots closed;
    } in (
      rests_of slots s settled file (closed_tidy (slot_in s.now.bytes) slots closed),
      ap (recipes_below (slot_in s.now.bytes)) (sym count) ∙ none_there (slot_in s.now.bytes) slots closed,
    )

pub stands_empty : (o p q r : Option Story) (slots size : ℕ) → ((s : Story) → o ≡ Some s → length s.now.bytes ≡ size) → 2 ≤ slots → slots ≤ 4096 →
    slot_place slots ≤ size → p ≡ option_map (with_write 0 (first_page slots)) o → ClosesTo p q slots → r ≡ option_map with_sync q →
    (t : Story) → r ≡ Some t → Rests slots t × (recipes_in t.now.bytes ≡ empty)
stands_empty o p q r slots size sized some most fits page closes synced t told =
    let u = back q r with_sync t synced told in
    let v = closes u.0 u.1 in
    let s = back o p (with_write 0 (first_page slots)) v.0 page v.1 in
    let long = sized s.0 s.1 in
    let page_size = page_long slots in
    let inside : 0 + length (first_page slots) ≤ length s.0.now.bytes = omega (arith, long, fits, some, page_size) in
    let taken : front_in v.0.now.bytes ≡ take 12 (first_page slots) =
    ap (λ (w : Story). front_in w.now.bytes) s.2
    ∙ part_there s.0.now.bytes (first_page slots) 0 inside 0 12 (omega (arith, page_size)) in
    let long_v : length v.0.now.bytes ≡ size = ap (λ (w : Story). length w.now.bytes) s.2 ∙ length-part s.0.now.bytes (first_page slots) 0 inside ∙ long in
    let long_u = v.2.long in
    subst (λ (w : Story). Rests slots w × (recipes_in w.now.bytes ≡ empty)) (sym u.2)
    (empty_rests slots (with_sync u.0) refl some most (omega (arith, fits, long_v, long_u)) (v.2.front ∙ taken ∙ front_page slots) v.2.closed)

-- a store in hand
pub formats_done : {D : Type 0} (members : disk.Ghosts D) (a b : D) (slots : ℕ) → 2 ≤ slots → slots ≤ 4096 → slot_place slots ≤ members.size_is a →
    StandsEmpty (members.told b) slots Done → HasMade WritesOrSyncs members a b Done → FormatsRecipes members a slots (Ok (record { disk = b; slots = slots; failed = false }))
formats_done members a b slots some most fits stand made = (
  record {
    going = refl;
    kept = record {
      some = some;
      most = most;
      inside = subst (λ n. slot_place slots ≤ n) (sym made.size) fits;
      rests = λ t is. (stand t is).0;
    };
  },
  made,
  refl,
  λ t is. (stand t is).1,
)

-- ---- a file at rest without recipes

-- it has no slot that is open
pub none_open : (slots : ℕ) (s : Story) → Rests slots s → recipes_in s.now.bytes ≡ empty → (k : ℕ) → k < slots → is_open (slot_in s.now.bytes k) ≡ false
none_open slots s rests none k below = by (is_open (slot_in s.now.bytes k)) refl
  where
    by : (b : Bool) → is_open (slot_in s.now.bytes k) ≡ b → b ≡ false
    by true opened =
        let name = name_of (slot_in s.now.bytes k) in
        let here = any_true (λ j. is_open (slot_in s.now.bytes j) && bytes_eq (name_of (slot_in s.now.bytes j)) name) slots k below
        (and_from (is_open (slot_in s.now.bytes k)) (bytes_eq name name) opened ((bytes_eq-Decides name name).1 refl)) in
        let known = known_below (slot_in s.now.bytes) slots name in
        let nay : contains_key (recipes_below (slot_in s.now.bytes) slots) name ≡ false =
        ap (λ (r : Recipes). contains_key r name) (recipes_are slots s rests ∙ none)
        ∙ ap (λ (o : Option Recipe). is_some o) (get-empty by_bytes name) in
        absurd (true≢false (sym here ∙ sym known ∙ nay))
    by false shut = refl
