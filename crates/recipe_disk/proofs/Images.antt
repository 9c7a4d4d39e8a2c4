-- What bytes with others in one range are: the slot there, the slots beside it, and the file.
use Rattle.std.proofs.Common.{◌≡◌, refl, sym, ap, subst, ◌∙◌, ℕ, ◌+◌, ◌-◌, ◌<◌, ◌≤◌, ◌==◌, ◌⊎◌, inl, inr, Bool, true, false, List, [], ◌∷◌, length, take, slice_index, None, arith}
use Rattle.std.proofs.lemmas.Bool.{cases_eq, cases_lt}
use Rattle.std.proofs.lemmas.Bool.Decides.{nat_tests}
use Rattle.std.specs.FinMap.{contains_key, insert, len, remove}
use Rattle.disk_base.specs.Images.{IsImage, is_in, is_loose}
use Rattle.disk_base.specs.Story.{bytes_at, with_part}
use Rattle.disk_base.proofs.Marks.{beside, length-part, not_either, outside_part}
use Rattle.disk_base.proofs.Moments.{neither, out_of, part_stays}
use Rattle.gem_recipes.specs.Recipes.{Recipes, most_body}
use Rattle.spool_file.specs.Area.{or_else}
use Rattle.spool_file.proofs.Firsts.{both_none}
use Rattle.recipe_disk.specs.File.{StandsFor, area_break, front_break, front_in, magic_break, recipes_break, slots_break, slots_in, slots_of}
use Rattle.recipe_disk.specs.Map.{IsTidy, recipes_below}
use Rattle.recipe_disk.specs.Slot.{RecipeSlot, head_break, head_of, is_open, name_of, number_of, recipe_of, slot_in, slot_place}
use Rattle.recipe_disk.proofs.Areas.{IsArea, IsSameAt, all_same, area_none, area_of, area_same, gone, gone_fewer, opened_area, opens, shut_area, shut_tidy, stale_same, tidy_same}

-- the same bytes, but for some in one range
abbrev pub IsBut : List ℕ → ℕ → ℕ → List ℕ → Type 0
IsBut bytes at long image = IsImage (record { bytes = bytes; loose = (at, long) ∷ [] }) image

outside : (place at long : ℕ) → (place < at) ⊎ (at + long ≤ place) → is_loose ((at, long) ∷ []) place ≡ false
outside place at long side = neither (is_in place (at, long)) (is_loose [] place) (out_of place at long side) refl

-- bytes of which a part was written are such ones
pub written_but : (bytes part : List ℕ) (at : ℕ) → at + length part ≤ length bytes → IsBut bytes at (length part) (with_part bytes at part)
written_but bytes part at inside = record {
  long = length-part bytes part at inside;
  kept = λ place out.
      outside_part bytes part at place 0 inside
      (beside place (at, length part) (not_either (is_in place (at, length part)) (is_loose [] place) out).0);
}

abbrev made : ℕ → List ℕ → List ℕ → RecipeSlot
made gate fields area = record { head = head_of gate fields; body = take (head_of gate fields).body_len area }

made_same : (gate gate' : ℕ) (fields fields' area area' : List ℕ) → gate ≡ gate' → fields ≡ fields' → area ≡ area' →
    made gate fields area ≡ made gate' fields' area'
made_same gate gate' fields fields' area area' a b c =
    ap (λ (g : ℕ). made g fields area) a ∙ ap (λ (f : List ℕ). made gate' f area) b ∙ ap (λ (r : List ℕ). made gate' fields' r) c

-- a slot with its gate open, or closed
abbrev pub gated : Bool → RecipeSlot → RecipeSlot
gated opened slot = record { head = record slot.head { opened = opened }; body = slot.body }

module _ (bytes image : List ℕ) (at long : ℕ) (is : IsBut bytes at long image) where
  pub byte_kept : (place : ℕ) → (place < at) ⊎ (at + long ≤ place) → slice_index image place ≡ slice_index bytes place
  byte_kept place side = is.kept place (outside place at long side)

  pub bytes_kept : (from n : ℕ) → (from + n ≤ at) ⊎ (at + long ≤ from) → from + n ≤ length bytes → bytes_at image from n ≡ bytes_at bytes from n
  bytes_kept from n side within =
      part_stays (record { bytes = bytes; loose = (at, long) ∷ [] }) image from n (λ place low high. outside place at long (by side place low high)) within is
    where
      by : (from + n ≤ at) ⊎ (at + long ≤ from) → (place : ℕ) → from ≤ place → place < from + n → (place < at) ⊎ (at + long ≤ place)
      by (inl before) place low high = inl (omega (arith, before, high))
      by (inr behind) place low high = inr (omega (arith, behind, low))

  within : (k from n : ℕ) → slot_place k ≤ from → from + n ≤ slot_place k + 65536 → (slot_place k + 65536 ≤ at) ⊎ (at + long ≤ slot_place k) →
      (from + n ≤ at) ⊎ (at + long ≤ from)
  within k from n a b (inl before) = inl (omega (arith, b, before))
  within k from n a b (inr behind) = inr (omega (arith, a, behind))

  gate_place : (k : ℕ) → (slot_place k + 65536 ≤ at) ⊎ (at + long ≤ slot_place k) → (slot_place k < at) ⊎ (at + long ≤ slot_place k)
  gate_place k (inl before) = inl (omega (arith, before))
  gate_place k (inr behind) = inr behind

  -- a slot beside the range
  pub slot_kept : (k : ℕ) → slot_place k + 65536 ≤ length bytes → (slot_place k + 65536 ≤ at) ⊎ (at + long ≤ slot_place k) → slot_in image k ≡ slot_in bytes k
  slot_kept k inside side =
      made_same _ _ _ _ _ _ (byte_kept (slot_place k) (gate_place k side))
      (bytes_kept (slot_place k + 1) 93 (within k (slot_place k + 1) 93 (omega arith) (omega arith) side) (omega (arith, inside)))
      (bytes_kept (slot_place k + 94) most_body (within k (slot_place k + 94) most_body (omega arith) (omega arith) side) (omega (arith, inside)))

-- a range in slot p lies beside slot k
pub side_of : (p k at q long : ℕ) → at ≡ slot_place p + q → q + long ≤ 65536 → (k < p) ⊎ (p ≤ k) → (k ≡ p → ⊥) →
    (slot_place k + 65536 ≤ at) ⊎ (at + long ≤ slot_place k)
side_of p k at q long is short (inl before) other = inl (omega (arith, is, before))
side_of p k at q long is short (inr behind) other =
    let less : p < k = grind (arith, behind, other) in inr (omega (arith, is, less, short))

-- only the gate may be another
pub gate_changed : (bytes image : List ℕ) (p : ℕ) → slot_place p + 65536 ≤ length bytes → IsBut bytes (slot_place p) 1 image →
    slot_in image p ≡ gated (slice_index image (slot_place p) == 90) (slot_in bytes p)
gate_changed bytes image p inside is =
    made_same (slice_index image (slot_place p)) (slice_index image (slot_place p)) _ _ _ _ refl
    (bytes_kept bytes image (slot_place p) 1 is (slot_place p + 1) 93 (inr (omega arith)) (omega (arith, inside)))
    (bytes_kept bytes image (slot_place p) 1 is (slot_place p + 94) most_body (inr (omega arith)) (omega (arith, inside)))

-- ---- the file

pub record IsFile (slots : ℕ) (bytes : List ℕ) : Type 0 where
  pub front : front_break (front_in bytes) (length bytes) ≡ None
  pub slots_are : slots ≡ slots_in bytes
  pub inside : slot_place slots ≤ length bytes
  pub area : IsArea (slot_in bytes) slots

size_enough : (front : List ℕ) (size : ℕ) → slots_break front size ≡ None → slot_place (slots_of front) ≤ size
size_enough front size none = grind (arith, nat_tests, none)

pub front_inside : (front : List ℕ) (size : ℕ) → front_break front size ≡ None → slot_place (slots_of front) ≤ size
unfolding front_break
front_inside front size none = size_enough front size (both_none (magic_break front) (slots_break front size) none).1

pub file_of : (slots : ℕ) (bytes : List ℕ) → recipes_break bytes ≡ None → slots ≡ slots_in bytes → IsFile slots bytes
file_of slots bytes none is =
    let both = both_none (front_break (front_in bytes) (length bytes)) (area_break (slot_in bytes) (slots_in bytes)) none in
    record {
      front = both.0;
      slots_are = is;
      inside = subst (λ n. slot_place n ≤ length bytes) (sym is) (front_inside (front_in bytes) (length bytes) both.0);
      area = subst (IsArea (slot_in bytes)) (sym is) (area_of (slot_in bytes) (slots_in bytes) both.1);
    }

pub file_none : (slots : ℕ) (bytes : List ℕ) → IsFile slots bytes → recipes_break bytes ≡ None
file_none slots bytes is =
    ap (λ o. or_else o (area_break (slot_in bytes) (slots_in bytes))) is.front
    ∙ area_none (slot_in bytes) (slots_in bytes) (subst (IsArea (slot_in bytes)) is.slots_are is.area)

-- the bytes are a file with these recipes
abbrev pub Holds : ℕ → Recipes → List ℕ → Type 0
Holds slots recipes bytes = IsFile slots bytes × (recipes_below (slot_in bytes) slots ≡ recipes)

pub stands : (slots : ℕ) (recipes : Recipes) (bytes : List ℕ) → Holds slots recipes bytes → StandsFor slots recipes bytes
stands slots recipes bytes is = record {
  sound = file_none slots bytes is.0;
  slots_are = is.0.slots_are;
  is = ap (recipes_below (slot_in bytes)) (sym is.0.slots_are) ∙ is.1;
}

pub holds : (slots : ℕ) (recipes : Recipes) (bytes : List ℕ) → StandsFor slots recipes bytes → Holds slots recipes bytes
holds slots recipes bytes is =
    (file_of slots bytes is.sound is.slots_are, ap (recipes_below (slot_in bytes)) is.slots_are ∙ is.is)

-- ---- a write in one slot

module _ (slots p : ℕ) (bytes : List ℕ) (file : IsFile slots bytes) (below : p < slots) where
  abbrev R : Recipes
  R = recipes_below (slot_in bytes) slots

  slot_inside : (k : ℕ) → k < slots → slot_place k + 65536 ≤ length bytes
  slot_inside k under = let inside = file.inside in omega (arith, under, inside)

  module _ (at q long : ℕ) (at_is : at ≡ slot_place p + q) (short : q + long ≤ 65536) (image : List ℕ) (is : IsBut bytes at long image) where
    pub others : (k : ℕ) → k < slots → (k ≡ p → ⊥) → slot_in image k ≡ slot_in bytes k
    others k under other = slot_kept bytes image at long is k (slot_inside k under) (side_of p k at q long at_is short (cases_lt k p) other)

    front_same : front_in image ≡ front_in bytes
    front_same =
        let inside = file.inside in
        bytes_kept bytes image at long is 0 12 (inl (omega (arith, at_is))) (omega (arith, inside))

    pub same_file : IsArea (slot_in image) slots → IsFile slots image
    same_file area = record {
      front = ap (λ (f : List ℕ). front_break f (length image)) front_same ∙ ap (front_break (front_in bytes)) is.long ∙ file.front;
      slots_are = file.slots_are ∙ ap slots_of (sym front_same);
      inside = let inside = file.inside in let long_is = is.long in omega (arith, inside, long_is);
      area = area;
    }

  -- ---- behind a gate that isn't open

  module _ (shut : is_open (slot_in bytes p) ≡ false) where
    module _ (long : ℕ) (short : long ≤ 65535) (image : List ℕ) (is : IsBut bytes (slot_place p + 1) long image) where
      parts_short : 1 + long ≤ 65536
      parts_short = omega (arith, short)

      pub gate_kept : is_open (slot_in image p) ≡ false
      gate_kept =
          ap (λ (g : ℕ). g == 90) (byte_kept bytes image (slot_place p + 1) long is (slot_place p) (inl (omega arith))) ∙ shut

      same_at : (k : ℕ) → k < slots → (k ≡ p) ⊎ (k ≡ p → ⊥) → IsSameAt (slot_in bytes) (slot_in image) k
      same_at k under (inl here) = record {
        gate = ap (λ i. is_open (slot_in image i)) here ∙ gate_kept ∙ sym shut ∙ ap (λ i. is_open (slot_in bytes i)) (sym here);
        same = λ opened. absurd (grind (arith, opened, shut, ap (λ i. is_open (slot_in bytes i)) here));
      }
      same_at k under (inr other) =
          let it = others (slot_place p + 1) 1 long refl parts_short image is k under other in
          record { gate = ap is_open it; same = λ opened. it }

      pub parts_file : Holds slots R image
      parts_file = (
        same_file (slot_place p + 1) 1 long refl parts_short image is
            (area_same (slot_in bytes) (slot_in image) slots (λ k under. same_at k under (cases_eq k p)) file.area),
        all_same (slot_in bytes) (slot_in image) slots (λ k under. same_at k under (cases_eq k p)),
      )

      pub parts_tidy : IsTidy (slot_in bytes) slots → IsTidy (slot_in image) slots
      parts_tidy = tidy_same (slot_in bytes) (slot_in image) slots (λ k under. same_at k under (cases_eq k p))

    -- a gate there stays closed
    module _ (image : List ℕ) (is : IsBut bytes (slot_place p) 1 image) (test : (slice_index image (slot_place p) == 90) ≡ false) where
      still_shut : (k : ℕ) → k < slots → (k ≡ p) ⊎ (k ≡ p → ⊥) → IsSameAt (slot_in bytes) (slot_in image) k
      still_shut k under (inl here) = record {
        gate = ap (λ i. is_open (slot_in image i)) here ∙ test ∙ sym shut ∙ ap (λ i. is_open (slot_in bytes i)) (sym here);
        same = λ opened. absurd (grind (arith, opened, shut, ap (λ i. is_open (slot_in bytes i)) here));
      }
      still_shut k under (inr other) =
          let it = others (slot_place p) 0 1 (omega arith) (omega arith) image is k under other in
          record { gate = ap is_open it; same = λ opened. it }

      pub shut_file : Holds slots R image
      shut_file = (
        same_file (slot_place p) 0 1 (omega arith) (omega arith) image is
            (area_same (slot_in bytes) (slot_in image) slots (λ k under. still_shut k under (cases_eq k p)) file.area),
        all_same (slot_in bytes) (slot_in image) slots (λ k under. still_shut k under (cases_eq k p)),
      )

    -- or comes to be open, over a recipe with a number above all
    module _ (sound : head_break (gated true (slot_in bytes p)).head ≡ None)
        (above : (k : ℕ) → k < slots → is_open (slot_in bytes k) ≡ true → number_of (slot_in bytes k) < number_of (slot_in bytes p))
        (space : contains_key R (name_of (slot_in bytes p)) ≡ false → len R < slots - 1)
        (image : List ℕ) (is : IsBut bytes (slot_place p) 1 image) (test : (slice_index image (slot_place p) == 90) ≡ true) where
      now_is : slot_in image p ≡ gated true (slot_in bytes p)
      now_is =
          gate_changed bytes image p (slot_inside p below) is ∙ ap (λ b. gated b (slot_in bytes p)) test

      rest : (k : ℕ) → k < slots → (k ≡ p → ⊥) → slot_in image k ≡ slot_in bytes k
      rest = others (slot_place p) 0 1 (omega arith) (omega arith) image is

      sound_now : head_break (slot_in image p).head ≡ None
      sound_now = ap (λ (s : RecipeSlot). head_break s.head) now_is ∙ sound

      above_now : (k : ℕ) → k < slots → is_open (slot_in bytes k) ≡ true → number_of (slot_in bytes k) < number_of (slot_in image p)
      above_now k under there = subst (λ (s : RecipeSlot). number_of (slot_in bytes k) < number_of s) (sym now_is) (above k under there)

      space_now : contains_key R (name_of (slot_in image p)) ≡ false → len R < slots - 1
      space_now none = space (ap (λ (s : RecipeSlot). contains_key R (name_of s)) (sym now_is) ∙ none)

      pub open_file : Holds slots (insert R (name_of (slot_in bytes p)) (recipe_of (slot_in bytes p))) image
      open_file = (
        same_file (slot_place p) 0 1 (omega arith) (omega arith) image is
            (opened_area (slot_in bytes) (slot_in image) slots p below rest file.area shut test sound_now above_now space_now),
        opens (slot_in bytes) (slot_in image) slots p below rest file.area shut test sound_now above_now
            ∙ ap (λ (s : RecipeSlot). insert R (name_of s) (recipe_of s)) now_is,
      )

  -- ---- a gate that is open

  module _ (opened : is_open (slot_in bytes p) ≡ true) (image : List ℕ) (is : IsBut bytes (slot_place p) 1 image) where
    -- stays open
    module _ (test : (slice_index image (slot_place p) == 90) ≡ true) where
      gate_there : slot_in image p ≡ slot_in bytes p
      gate_there =
          gate_changed bytes image p (slot_inside p below) is ∙ ap (λ b. gated b (slot_in bytes p)) (test ∙ sym opened)

      still_open : (k : ℕ) → k < slots → (k ≡ p) ⊎ (k ≡ p → ⊥) → IsSameAt (slot_in bytes) (slot_in image) k
      still_open k under (inl here) =
          let it : slot_in image k ≡ slot_in bytes k = ap (slot_in image) here ∙ gate_there ∙ ap (slot_in bytes) (sym here) in
          record { gate = ap is_open it; same = λ there. it }
      still_open k under (inr other) =
          let it = others (slot_place p) 0 1 (omega arith) (omega arith) image is k under other in
          record { gate = ap is_open it; same = λ there. it }

      pub open_kept : Holds slots R image
      open_kept = (
        same_file (slot_place p) 0 1 (omega arith) (omega arith) image is
            (area_same (slot_in bytes) (slot_in image) slots (λ k under. still_open k under (cases_eq k p)) file.area),
        all_same (slot_in bytes) (slot_in image) slots (λ k under. still_open k under (cases_eq k p)),
      )

    -- or is closed
    module _ (test : (slice_index image (slot_place p) == 90) ≡ false) where
      left : (k : ℕ) → k < slots → (k ≡ p → ⊥) → slot_in image k ≡ slot_in bytes k
      left = others (slot_place p) 0 1 (omega arith) (omega arith) image is

      pub closed_tidy : IsTidy (slot_in bytes) slots → IsTidy (slot_in image) slots
      closed_tidy = shut_tidy (slot_in bytes) (slot_in image) slots p below left file.area test

      -- beside a newer one of its name
      pub stale_file : (i : ℕ) → i < slots → (i ≡ p → ⊥) → is_open (slot_in bytes i) ≡ true → name_of (slot_in bytes i) ≡ name_of (slot_in bytes p) →
          number_of (slot_in bytes p) < number_of (slot_in bytes i) → Holds slots R image
      stale_file i under apart there named newer =
          let same = stale_same (slot_in bytes) (slot_in image) slots p below left file.area test i under apart there named newer in (
            same_file (slot_place p) 0 1 (omega arith) (omega arith) image is
                (shut_area (slot_in bytes) (slot_in image) slots p below left file.area test (let same_len = ap len same in omega (arith, same_len))),
            same,
          )

      -- or as the only one of its name
      pub gone_file : IsTidy (slot_in bytes) slots → Holds slots (remove R (name_of (slot_in bytes p))) image
      gone_file tidy = (
        same_file (slot_place p) 0 1 (omega arith) (omega arith) image is
            (shut_area (slot_in bytes) (slot_in image) slots p below left file.area test
            (gone_fewer (slot_in bytes) (slot_in image) slots p below left file.area test tidy opened)),
        gone (slot_in bytes) (slot_in image) slots p below left file.area test tidy opened,
      )
