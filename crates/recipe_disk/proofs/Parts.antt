-- The parts of a recipe, written into a slot.
use Rattle.std.proofs.Common.{◌≡◌, refl, sym, ap, ◌∙◌, ℕ, ◌+◌, ◌-◌, ◌^◌, ◌<◌, ◌≤◌, false, List, [], ◌∷◌, ◌++◌, drop, get_or, length, length-append, length-drop, min, replicate, take, arith}
use Rattle.std.proofs.lemmas.List.{get_or-drop, get_or-take, length-replicate, length-take, places, same_lists, take-take, take_all}
use Rattle.std.proofs.lemmas.Nat.{from_be_bytes-to_be_bytes_4, from_be_bytes-to_be_bytes_8}
use Rattle.std.specs.Int.{w32, w64, from_be_bytes, to_be_bytes}
use Rattle.disk_base.specs.Story.{bytes_at, with_part}
use Rattle.disk_base.proofs.Marks.{length-part}
use Rattle.gem_recipes.specs.Recipes.{Recipe, most_body}
use Rattle.recipe_disk.specs.Changes.{parts_of}
use Rattle.recipe_disk.specs.Slot.{head_in, head_of, name_of, number_of, recipe_of, slot_in, slot_place}
use Rattle.recipe_disk.specs.declared.head.Head.{Head}

-- ---- the bytes of a part, where it was written

module _ (bytes part : List ℕ) (at : ℕ) (inside : at + length part ≤ length bytes) where
  abbrev now : List ℕ
  now = with_part bytes at part

  part_at : (place d : ℕ) → place < length part → get_or now (at + place) d ≡ get_or part place d
  part_at place d below = grind (arith, places, inside, below)

  pub part_there : (from n : ℕ) → from + n ≤ length part → bytes_at now (at + from) n ≡ bytes_at part from n
  part_there from n within =
      same_lists (bytes_at now (at + from) n) (bytes_at part from n)
      (length-take n (drop (at + from) now)
      ∙ ap (λ (k : ℕ). min n k) (length-drop (at + from) now)
      ∙ omega (arith, length-part bytes part at inside, inside, within, length-drop from part)
      ∙ sym (length-take n (drop from part)))
      (λ k d below. let less : k < n = omega (arith, below, length-take n (drop (at + from) now)) in
      get_or-take n (drop (at + from) now) k d less
      ∙ get_or-drop (at + from) now k d
      ∙ ap (λ (p : ℕ). get_or now p d) (omega arith)
      ∙ part_at (from + k) d (omega (arith, within, less))
      ∙ sym (get_or-take n (drop from part) k d less ∙ get_or-drop from part k d))

  -- a byte alone
  pub byte_there : (byte : ℕ) (d : ℕ) → part ≡ byte ∷ [] → get_or now at d ≡ byte
  byte_there byte d is =
      let one : length part ≡ 1 = ap (length {A = ℕ}) is in
      ap (λ (p : ℕ). get_or now p d) (omega arith) ∙ part_at 0 d (omega (arith, one)) ∙ ap (λ (p : List ℕ). get_or p 0 d) is

-- ---- the fields of the parts

-- what stands in front
front_taken : (n : ℕ) (xs ys : List ℕ) → n ≡ length xs → take n (xs ++ ys) ≡ xs
front_taken n xs ys is = same_lists (take n (xs ++ ys)) xs
    (omega (arith, is, length-take n (xs ++ ys), length-append xs ys))
    (λ k d below. let less : k < length xs = omega (arith, below, is, length-take n (xs ++ ys)) in grind (arith, places, less, is))

front_dropped : (n : ℕ) (xs ys : List ℕ) → n ≡ length xs → drop n (xs ++ ys) ≡ ys
front_dropped n [] ys is = ap (λ (m : ℕ). drop m ys) is
front_dropped n (x ∷ xs) ys is = ap (λ (m : ℕ). drop m (x ∷ xs ++ ys)) is ∙ front_dropped (length xs) xs ys refl

module _ (number : ℕ) (name body : List ℕ) (low : number < 2 ^ 64) (short : length name ≤ 80) (fits : length body ≤ most_body) where
  abbrev pad : List ℕ
  pad = replicate (80 - length name) 0

  -- up to the name's area, and all but the body
  abbrev upto_pad : List ℕ
  upto_pad = to_be_bytes w64 number ++ (length name ∷ []) ++ name ++ pad

  abbrev fields : List ℕ
  fields = upto_pad ++ to_be_bytes w32 (length body)

  area_long : length (name ++ pad) ≡ 80
  area_long = omega (arith, short, length-append name pad, length-replicate {A = ℕ} (80 - length name) 0)

  pad_long : length upto_pad ≡ 89
  pad_long =
      omega (
        arith,
        short,
        length-append (to_be_bytes w64 number ++ (length name ∷ []) ++ name) pad,
        length-append (to_be_bytes w64 number ++ (length name ∷ [])) name,
        length-replicate {A = ℕ} (80 - length name) 0,
      )

  fields_long : length fields ≡ 93
  fields_long = omega (arith, pad_long, length-append upto_pad (to_be_bytes w32 (length body)))

  pub length-parts : length (parts_of number name body) ≡ 93 + length body
  length-parts = omega (arith, fields_long, length-append fields body)

  abbrev head_with : ℕ → List ℕ → ℕ → Head
  head_with n area long = record { opened = false; number = n; name_len = length name; name = area; body_len = long }

  area_is : bytes_at fields 9 80 ≡ name ++ pad
  area_is = front_taken 80 (name ++ pad) (to_be_bytes w32 (length body)) (sym area_long)

  long_is : bytes_at fields 89 4 ≡ to_be_bytes w32 (length body)
  long_is = ap (λ (xs : List ℕ). take 4 xs) (front_dropped 89 upto_pad (to_be_bytes w32 (length body)) (sym pad_long))

  head_there : head_of 0 fields ≡ head_with number (name ++ pad) (length body)
  head_there =
      let wide : length body < 2 ^ 32 = omega (arith, fits) in
      ap (λ (n : ℕ). head_with n (bytes_at fields 9 80) (from_be_bytes w32 (bytes_at fields 89 4))) (from_be_bytes-to_be_bytes_8 number low)
      ∙ ap (λ (area : List ℕ). head_with number area (from_be_bytes w32 (bytes_at fields 89 4))) area_is
      ∙ ap (λ (xs : List ℕ). head_with number (name ++ pad) (from_be_bytes w32 xs)) long_is
      ∙ ap (λ (n : ℕ). head_with number (name ++ pad) n) (from_be_bytes-to_be_bytes_4 (length body) wide)

  module _ (bytes : List ℕ) (p : ℕ) (inside : slot_place p + 1 + length (parts_of number name body) ≤ length bytes) where
    abbrev written : List ℕ
    written = with_part bytes (slot_place p + 1) (parts_of number name body)

    fields_there : bytes_at written (slot_place p + 1) 93 ≡ fields
    fields_there =
        let at : slot_place p + 1 ≡ slot_place p + 1 + 0 = omega arith in
        ap (λ (n : ℕ). bytes_at written n 93) at
        ∙ part_there bytes (parts_of number name body) (slot_place p + 1) inside 0 93 (omega (arith, length-parts))
        ∙ front_taken 93 fields body (sym fields_long)

    -- the head, but for its gate
    pub written_head : head_of 0 (bytes_at written (slot_place p + 1) 93) ≡ head_with number (name ++ pad) (length body)
    written_head = ap (head_of 0) fields_there ∙ head_there

    pub written_name : name_of (slot_in written p) ≡ name
    written_name =
        ap (λ (h : Head). take h.name_len h.name) written_head ∙ front_taken (length name) name pad refl

    pub written_number : number_of (slot_in written p) ≡ number
    written_number = ap (λ (h : Head). h.number) written_head

    pub written_len : (head_in written p).body_len ≡ length body
    written_len = ap (λ (h : Head). h.body_len) written_head

    pub written_name_len : (head_in written p).name_len ≡ length name
    written_name_len = ap (λ (h : Head). h.name_len) written_head

    pub written_body : (slot_in written p).body ≡ body
    written_body =
        let at : slot_place p + 94 ≡ slot_place p + 1 + 93 = omega arith in
        ap (λ (n : ℕ). take n (bytes_at written (slot_place p + 94) most_body)) written_len
        ∙ take-take (length body) most_body (drop (slot_place p + 94) written) fits
        ∙ ap (λ (n : ℕ). bytes_at written n (length body)) at
        ∙ part_there bytes (parts_of number name body) (slot_place p + 1) inside 93 (length body) (omega (arith, length-parts))
        ∙ ap (λ (xs : List ℕ). take (length body) xs) (front_dropped 93 fields body (sym fields_long))
        ∙ take_all (length body) body (omega arith)

    pub written_recipe : recipe_of (slot_in written p) ≡ record { number = number; body = body }
    written_recipe =
        ap (λ (n : ℕ). recipe_with n (slot_in written p).body) written_number ∙ ap (λ (b : List ℕ). recipe_with number b) written_body
      where
        recipe_with : ℕ → List ℕ → Recipe
        recipe_with n b = record { number = n; body = b }
