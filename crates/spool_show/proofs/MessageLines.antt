-- The line of a message, by the slots that it takes.
use Rattle.std.proofs.Common.{◌≡◌, refl, sym, ◌∙◌, ap, ℕ, zero, suc, ◌+◌, ◌-◌, ◌*◌, ◌%◌, ◌<◌, ◌≤◌, ◌⊎◌, true, List, [], ◌∷◌}
use Rattle.std.proofs.Common.{◌++◌, length, take, drop, codes, decimal, append_assoc, append-nil, None, arith, inl, inr}
use Rattle.std.proofs.lemmas.Bool.{cases_lt}
use Rattle.std.proofs.lemmas.Grind.{flat_map-append}
use Rattle.std.proofs.lemmas.List.{drop-drop, drop-take, length-take}
use Rattle.std.proofs.lemmas.Nat.{mod_below}
use Rattle.std.specs.List.{flat_map}
use Rattle.hex.specs.Hex.{encode_upper}
use Rattle.short_text.proofs.Hex.{each_in_hex}
use Rattle.short_text.specs.Name.{name_of}
use Rattle.short_text.specs.Shown.{hex_byte}
use Rattle.trace_log.specs.Text.{body_text}
use Rattle.disk_base.specs.Story.{Story, bytes_at}
use Rattle.spool_show.specs.Showing.{AreRead, line_of, message_of, piece_of, pieces_of}
use Rattle.spool_show.specs.Text.{message_line, piece_in, start_text}
use Rattle.spool_file.specs.File.{slots_in, spool_break}
use Rattle.spool_file.specs.Sizes.{slots_for}
use Rattle.spool_file.specs.Slot.{Slot, areas_from, slot_in, slot_place, width}
use Rattle.spool_file.specs.declared.slot.SlotHead.{SlotHead}
use Rattle.spool_file.proofs.Sound.{IsFull, length-areas, width_is}
use Rattle.spool_file.proofs.Wholes.{full_in, sound_slots}
use Rattle.spool_slots.specs.Changes.{IsListed}

-- ---- lists

-- what is taken of two lists
take_both : (n : ℕ) (xs ys : List ℕ) → take n (xs ++ ys) ≡ take n xs ++ take (n - length xs) ys
take_both zero [] ys = refl
take_both (suc n) [] ys = let same : suc n ≡ suc n - 0 = omega arith in ap (λ (m : ℕ). take m ys) same
take_both zero (x ∷ xs) ys =
    let none : 0 ≡ 0 - length (x ∷ xs) = omega arith in ap (λ (m : ℕ). take m ys) none
take_both (suc n) (x ∷ xs) ys =
    let less : n - length xs ≡ suc n - length (x ∷ xs) = omega arith in
    ap (λ (l : List ℕ). x ∷ l) (take_both n xs ys) ∙ ap (λ (m : ℕ). x ∷ (take n xs ++ take m ys)) less

hex_both : (xs ys : List ℕ) → encode_upper (xs ++ ys) ≡ encode_upper xs ++ encode_upper ys
hex_both xs ys =
    sym (each_in_hex (xs ++ ys)) ∙ flat_map-append hex_byte xs ys
    ∙ ap (λ (t : List ℕ). t ++ flat_map hex_byte ys) (each_in_hex xs) ∙ ap (λ (t : List ℕ). encode_upper xs ++ t) (each_in_hex ys)

pub hex_none : encode_upper [] ≡ []
hex_none = sym (each_in_hex [])

-- a body in two pieces, of which the first one has some of it
body_both : (xs ys : List ℕ) → (xs ≡ [] → ys ≡ []) → body_text (xs ++ ys) ≡ body_text xs ++ encode_upper ys
body_both [] ys none =
    ap body_text (none refl) ∙ sym (append-nil (codes "-")) ∙ ap (λ (t : List ℕ). codes "-" ++ t) (sym hex_none)
    ∙ ap (λ (b : List ℕ). codes "-" ++ encode_upper b) (sym (none refl))
body_both (x ∷ xs) ys none = hex_both (x ∷ xs) ys

-- ---- the pieces of a body

module _ (slot : ℕ → Slot) (n : ℕ) where
  -- one area more
  areas_on : (number more : ℕ) →
      areas_from n slot number (suc more) ≡ areas_from n slot number more ++ (slot ((number + more) % n)).area
  areas_on number zero =
      let at : number ≡ number + 0 = omega arith in
      append-nil (slot (number % n)).area ∙ ap (λ (x : ℕ). (slot (x % n)).area) at
  areas_on number (suc more) =
      let at : number + 1 + more ≡ number + suc more = omega arith in
      let first = (slot (number % n)).area in
      let rest = areas_from n slot (number + 1) more in
      ap (λ (t : List ℕ). first ++ t) (areas_on (number + 1) more)
      ∙ sym (append_assoc first rest (slot ((number + 1 + more) % n)).area)
      ∙ ap (λ (x : ℕ). (first ++ rest) ++ (slot (x % n)).area) at

-- the line of a message by its head, the area of its first slot, and the areas of the further ones
line_parts : (head : SlotHead) (slot area further : List ℕ) → length area ≡ 4081 → drop 15 slot ≡ area →
    (start_text head slot ++ encode_upper (take (head.len - 4081) further)) ++ codes "\n"
    ≡ message_line (record {
      number = head.number;
      stream = head.stream;
      function = head.function;
      body = take head.len (area ++ further);
    })
line_parts head slot area further long is =
    let front = decimal head.number ++ codes " " ++ name_of head.stream head.function true ++ codes " " in
    let first = take head.len (drop 15 slot) in
    let rest = take (head.len - 4081) further in
    let none : first ≡ [] → rest ≡ [] =
    λ empty. let zeroed : head.len - 4081 ≡ 0 =
    omega (arith, ap (length {A = ℕ}) empty, length-take head.len (drop 15 slot), ap (length {A = ℕ}) is, long) in
    ap (λ (m : ℕ). take m further) zeroed in
    let body : first ++ rest ≡ take head.len (area ++ further) =
    ap (λ (xs : List ℕ). take head.len xs ++ rest) is
    ∙ ap (λ (m : ℕ). take head.len area ++ take (head.len - m) further) (sym long)
    ∙ sym (take_both head.len area further) in
    ap (λ (t : List ℕ). t ++ codes "\n") (append_assoc front (body_text first) (encode_upper rest)
    ∙ ap (λ (t : List ℕ). front ++ t) (sym (body_both first rest none))
    ∙ ap (λ (b : List ℕ). front ++ body_text b) body)

module _ (s : Story) (sound : spool_break s.now.bytes ≡ None) where
  abbrev bytes : List ℕ
  bytes = s.now.bytes

  abbrev n : ℕ
  n = slots_in bytes

  some : 0 < n
  some = let slots = sound_slots bytes sound in omega (arith, slots.some)

  full : IsFull (slot_in bytes) n
  full = full_in bytes n (sound_slots bytes sound).fits

  -- one piece more
  pub one_piece : (left number more : ℕ) →
      pieces_of left number more bytes ++ piece_of (left - 4081 * more) (number + more) bytes
      ≡ pieces_of left number (more + 1) bytes
  one_piece left number more =
      let areas = areas_from n (slot_in bytes) number more in
      let area = (slot_in bytes ((number + more) % n)).area in
      let long : length areas ≡ 4081 * more = length-areas (slot_in bytes) n full some number more in
      let next : suc more ≡ more + 1 = omega arith in
      ap (λ (m : ℕ). encode_upper (take left areas) ++ encode_upper (take (left - m) area)) (sym long)
      ∙ sym (hex_both (take left areas) (take (left - length areas) area))
      ∙ ap encode_upper (sym (take_both left areas area))
      ∙ ap (λ (all : List ℕ). encode_upper (take left all)) (sym (areas_on (slot_in bytes) n number more))
      ∙ ap (λ (m : ℕ). encode_upper (take left (areas_from n (slot_in bytes) number m))) next

  -- some first ones are in front of all
  pub pieces_front : (left number few all : ℕ) → few ≤ all →
      (rest : List ℕ) × (pieces_of left number all bytes ≡ pieces_of left number few bytes ++ rest)
  pieces_front left number few zero within =
      let none : 0 ≡ few = omega (arith, within) in (
        [],
        ap (λ (m : ℕ). pieces_of left number m bytes) none ∙ sym (append-nil (pieces_of left number few bytes)),
      )
  pieces_front left number few (suc all) within =
      by_place (cases_lt all few) (λ less. pieces_front left number few all less) where
        by_place : (all < few) ⊎ (few ≤ all) → (few ≤ all → (rest : List ℕ)
            × (pieces_of left number all bytes ≡ pieces_of left number few bytes ++ rest)) →
            (rest : List ℕ) × (pieces_of left number (suc all) bytes ≡ pieces_of left number few bytes ++ rest)
        by_place (inl over) before =
            let same : suc all ≡ few = omega (arith, over, within) in (
              [],
              ap (λ (m : ℕ). pieces_of left number m bytes) same ∙ sym (append-nil (pieces_of left number few bytes)),
            )
        by_place (inr less) before =
            let r = before less in
            let next : suc all ≡ all + 1 = omega arith in (
              r.0 ++ piece_of (left - 4081 * all) (number + all) bytes,
              ap (λ (m : ℕ). pieces_of left number m bytes) next ∙ sym (one_piece left number all)
                  ∙ ap (λ (t : List ℕ). t ++ piece_of (left - 4081 * all) (number + all) bytes) r.1
                  ∙ append_assoc (pieces_of left number few bytes) r.0
                  (piece_of (left - 4081 * all) (number + all) bytes),
            )

  -- the area of a slot that was read
  area_read : (number : ℕ) (slot : List ℕ) → slot ≡ bytes_at bytes (slot_place (number % n)) 4096 →
      drop 15 slot ≡ (slot_in bytes (number % n)).area
  area_read number slot is =
      let p = slot_place (number % n) in
      ap (λ (xs : List ℕ). drop 15 xs) is ∙ drop-take 15 4081 (drop p bytes)
      ∙ ap (λ (xs : List ℕ). take 4081 xs) (drop-drop 15 p bytes)

  -- a further one has its piece
  pub piece_read : (number left : ℕ) (slot : List ℕ) → slot ≡ bytes_at bytes (slot_place (number % n)) 4096 →
      encode_upper (piece_in left slot) ≡ piece_of left number bytes
  piece_read number left slot is =
      ap (λ (area : List ℕ). encode_upper (take left area)) (area_read number slot is)

  -- and the first one the start of the line, which goes on with the pieces
  pub line_whole : (head : SlotHead) (slot : List ℕ) → AreRead head slot s →
      (start_text head slot ++ pieces_of (head.len - 4081) (head.number + 1) (slots_for head.len - 1) bytes)
      ++ codes "\n" ≡ line_of head.number bytes
  line_whole head slot read =
      let k = head.number % n in
      let area = (slot_in bytes k).area in
      line_parts head slot area (areas_from n (slot_in bytes) (head.number + 1) (slots_for head.len - 1))
      (full k (mod_below head.number n some)) (area_read head.number slot read.1)
      ∙ ap (λ (h : SlotHead). message_line (record {
        number = h.number;
        stream = h.stream;
        function = h.function;
        body = take h.len (area ++ areas_from n (slot_in bytes) (h.number + 1) (slots_for h.len - 1));
      })) read.0.head_is

  -- how many slots it takes
  pub size_read : (head : SlotHead) → IsListed s head → slots_for head.len ≡ width (message_of head.number bytes)
  size_read head listed =
      let k = head.number % n in
      ap (λ (h : SlotHead). slots_for h.len) listed.head_is
      ∙ sym (width_is (slot_in bytes) n full some k (mod_below head.number n some))

pub no_piece : (left number : ℕ) (bytes : List ℕ) → pieces_of left number 0 bytes ≡ []
no_piece zero number bytes = hex_none
no_piece (suc left) number bytes = hex_none
