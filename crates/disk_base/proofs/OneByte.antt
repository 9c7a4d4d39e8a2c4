-- What a crash leaves of one written byte.
use Rattle.std.proofs.Common.{◌≡◌, ℕ, zero, suc, ◌+◌, ◌<◌, Bool, true, false, List, [], ◌∷◌, ◌++◌, length, take, drop, replicate, slice_index, refl, sym, ap, ◌∙◌, arith}
use Rattle.std.proofs.lemmas.List.{length-replicate}
use Rattle.disk_base.specs.Cut.{bytes_left, chosen_byte, image_of, marks_of, next_choice, settled_before, settled_if}
use Rattle.disk_base.specs.Story.{Story, with_part, with_write}
use Rattle.disk_base.specs.declared.cut.CutChoice.{CutChoice}
use Rattle.disk_base.proofs.Marks.{length-part}

-- a list with another element at a place
abbrev one_at : {A : Type 0} → ℕ → A → List A → List A
one_at n x [] = []
one_at zero x (y ∷ ys) = x ∷ ys
one_at (suc n) x (y ∷ ys) = y ∷ one_at n x ys

part_is : {A : Type 0} (all : List A) (at : ℕ) (x : A) → at < length all → with_part all at (x ∷ []) ≡ one_at at x all
part_is [] at x below = absurd (omega (arith, below))
part_is (y ∷ ys) zero x below = refl
part_is (y ∷ ys) (suc at) x below =
    let one : suc at + 1 ≡ suc (at + 1) = omega arith in
    ap (λ (n : ℕ). y ∷ ((take at ys ++ x ∷ []) ++ drop n (y ∷ ys))) one
    ∙ ap (λ (rest : List _). y ∷ rest) (part_is ys at x (omega (arith, below)))

none_left : (choice : CutChoice) (bytes : List ℕ) → bytes_left choice (replicate (length bytes) false) bytes bytes ≡ bytes
none_left choice [] = refl
none_left choice (b ∷ bytes) = ap (λ (rest : List ℕ). b ∷ rest) (none_left choice bytes)

one_left : (choice : CutChoice) (at byte : ℕ) (bytes : List ℕ) → at < length bytes →
    bytes_left choice (one_at at true (replicate (length bytes) false)) bytes (one_at at byte bytes)
    ≡ one_at at (chosen_byte choice (slice_index bytes at) byte) bytes
one_left choice at byte [] below = absurd (omega (arith, below))
one_left choice zero byte (b ∷ bytes) below = ap (λ (rest : List ℕ). chosen_byte choice b byte ∷ rest) (none_left (next_choice choice) bytes)
one_left choice (suc at) byte (b ∷ bytes) below = ap (λ (rest : List ℕ). b ∷ rest) (one_left choice at byte bytes (omega (arith, below)))

pub one_byte_left : (choice : CutChoice) (s : Story) (at byte : ℕ) → s.now.loose ≡ [] → at < length s.now.bytes →
    image_of choice (with_write at (byte ∷ []) s) ≡ with_part s.now.bytes at (chosen_byte choice (slice_index s.now.bytes at) byte ∷ [])
one_byte_left choice s at byte settled below =
    let bytes = s.now.bytes in
    let now = with_part bytes at (byte ∷ []) in
    ap (λ (loose : List (ℕ × ℕ)). bytes_left choice (marks_of (length now) ((at, 1) ∷ loose)) (settled_if loose bytes (settled_before s.past)) now) settled
    ∙ ap (λ (n : ℕ). bytes_left choice (marks_of n ((at, 1) ∷ [])) bytes now) (length-part bytes (byte ∷ []) at (omega (arith, below)))
    ∙ ap (λ (marks : List Bool). bytes_left choice marks bytes now)
    (part_is (replicate (length bytes) false) at true (omega (arith, below, length-replicate (length bytes) false)))
    ∙ ap (λ (here : List ℕ). bytes_left choice (one_at at true (replicate (length bytes) false)) bytes here) (part_is bytes at byte below)
    ∙ one_left choice at byte bytes below
    ∙ sym (part_is bytes at (chosen_byte choice (slice_index bytes at) byte) below)
