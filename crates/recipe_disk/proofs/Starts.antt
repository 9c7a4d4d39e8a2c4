-- The head of a slot, as it was read.
use Rattle.std.proofs.Common.{◌≡◌, sym, ap, ◌∙◌, ℕ, ◌+◌, ◌≤◌, List, Some, drop, get_or, length, length-drop, slice_index, take, arith}
use Rattle.std.proofs.lemmas.List.{drop-drop, drop-take, get_or-drop, get_or-take, length-take}
use Rattle.std.proofs.lemmas.Option.{slice_get-get_or}
use Rattle.std.specs.List.{slice_get}
use Rattle.disk_base.specs.Story.{bytes_at}
use Rattle.recipe_disk.specs.Slot.{head_in, head_of, slot_place}

module _ (bytes start : List ℕ) (at : ℕ) (is : start ≡ bytes_at bytes at 94) where
  first_is : slice_index start 0 ≡ slice_index bytes at
  first_is =
      ap (λ (xs : List ℕ). get_or xs 0 0) is
      ∙ get_or-take 94 (drop at bytes) 0 0 (omega arith)
      ∙ get_or-drop at bytes 0 0
      ∙ ap (λ (n : ℕ). get_or bytes n 0) (omega arith)

  rest_is : drop 1 start ≡ bytes_at bytes (at + 1) 93
  rest_is =
      ap (λ (xs : List ℕ). drop 1 xs) is
      ∙ drop-take 1 93 (drop at bytes)
      ∙ ap (λ (xs : List ℕ). take 93 xs) (drop-drop 1 at bytes)

pub head_is : (bytes start : List ℕ) (k : ℕ) → start ≡ bytes_at bytes (slot_place k) 94 → head_of (slice_index start 0) (drop 1 start) ≡ head_in bytes k
head_is bytes start k is =
    ap (λ (g : ℕ). head_of g (drop 1 start)) (first_is bytes start (slot_place k) is)
    ∙ ap (λ (f : List ℕ). head_of (slice_index bytes (slot_place k)) f) (rest_is bytes start (slot_place k) is)

-- one byte, as it was read
pub byte_is : (bytes into : List ℕ) (at : ℕ) → length into ≡ 1 → into ≡ bytes_at bytes at (length into) → Some (slice_index into 0) ≡ slice_get bytes at
byte_is bytes into at long is =
    let one : into ≡ bytes_at bytes at 1 = is ∙ ap (bytes_at bytes at) long in
    let within : at + 1 ≤ length bytes = omega (arith, long, ap (length {A = ℕ}) one, length-take 1 (drop at bytes), length-drop at bytes) in
    ap (λ (xs : List ℕ). Some (get_or xs 0 0)) one
    ∙ ap (λ (n : ℕ). Some n) (get_or-take 1 (drop at bytes) 0 0 (omega arith) ∙ get_or-drop at bytes 0 0 ∙ ap (λ (n : ℕ). get_or bytes n 0) (omega arith))
    ∙ sym (slice_get-get_or bytes at 0 (omega (arith, within)))
