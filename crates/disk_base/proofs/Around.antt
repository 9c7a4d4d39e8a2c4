-- The marks of the places from one on, among those of all places.
use Rattle.std.proofs.Common.{◌≡◌, ℕ, zero, suc, ◌+◌, ◌-◌, ◌≤◌, Bool, false, List, [], ◌∷◌, ◌++◌}
use Rattle.std.proofs.Common.{length, take, drop, replicate, refl, sym, ap, ◌∙◌, arith, append_assoc}
use Rattle.std.proofs.lemmas.List.{drop-append-le, drop-drop, length-append, length-drop, length-replicate, replicate-append-replicate}
use Rattle.std.proofs.lemmas.List.{take-append-le}
use Rattle.std.proofs.Math.Seq.{drop-append-add, take-append-add}
use Rattle.disk_base.specs.Cut.{byte_left, bytes_left, choice_left, marks_at}
use Rattle.disk_base.specs.Story.{with_part}
use Rattle.disk_base.specs.declared.cut.CutChoice.{CutChoice}
use Rattle.disk_base.proofs.Marks.{length-part}

module _ {A : Type 0} where
  -- a part of the front, and of the rest
  part_in_front :
      (front rest part : List A) (at : ℕ) → at + length part ≤ length front
      → with_part (front ++ rest) at part ≡ with_part front at part ++ rest
  part_in_front front rest part at within =
      let end = at + length part in
      ap (λ (xs : List A). xs ++ part ++ drop end (front ++ rest)) (take-append-le at front rest (omega (arith, within)))
      ∙ ap (λ (xs : List A). take at front ++ part ++ xs) (drop-append-le end front rest within)
      ∙ sym (append_assoc (take at front ++ part) (drop end front) rest)

  part_behind :
      (front rest part : List A) (at : ℕ)
      → with_part (front ++ rest) (length front + at) part ≡ front ++ with_part rest at part
  part_behind front rest part at =
      let behind = drop (at + length part) rest in
      let end : length front + at + length part ≡ length front + (at + length part) = omega arith in
      ap (λ (xs : List A). xs ++ part ++ drop (length front + at + length part) (front ++ rest))
      (take-append-add front rest at)
      ∙ ap (λ (n : ℕ). front ++ take at rest ++ part ++ drop n (front ++ rest)) end
      ∙ ap (λ (xs : List A). front ++ take at rest ++ part ++ xs) (drop-append-add front rest (at + length part))
      ∙ ap (λ (xs : List A). xs ++ behind) (append_assoc front (take at rest) part)
      ∙ append_assoc front (take at rest ++ part) behind

-- a part of the marks from a place on is one of all marks
pub part_of_marks :
    (size from : ℕ) (marks part : List Bool) (at : ℕ) → at + length part ≤ length marks
    → marks_at size from (with_part marks at part) ≡ with_part (marks_at size from marks) (from + at) part
part_of_marks size from marks part at within =
    let front = replicate from false in
    let rest = λ (n : ℕ). replicate (size - (from + n)) false in
    let long = length-replicate from false in
    let there : from + at + length part ≤ length (front ++ marks) =
    omega (arith, within, long, length-append front marks) in
    sym (
    part_in_front (front ++ marks) (rest (length marks)) part (from + at) there
    ∙ ap (λ (n : ℕ). with_part (front ++ marks) (n + at) part ++ rest (length marks)) (sym long)
    ∙ ap (λ (ms : List Bool). ms ++ rest (length marks)) (part_behind front marks part at)
    ∙ ap (λ (n : ℕ). front ++ with_part marks at part ++ rest n) (sym (length-part marks part at within))
    )

-- where none of these is marked, none is
pub none_at : (size from n : ℕ) → from + n ≤ size → marks_at size from (replicate n false) ≡ replicate size false
none_at size from n within =
    let front = replicate from false in
    let rest = size - (from + n) in
    let all : from + n + rest ≡ size = omega (arith, within) in
    ap (λ (k : ℕ). front ++ replicate n false ++ replicate (size - (from + k)) false) (length-replicate n false)
    ∙ ap (λ (ms : List Bool). ms ++ replicate rest false) (replicate-append-replicate from n false)
    ∙ replicate-append-replicate (from + n) rest false
    ∙ ap (λ (k : ℕ). replicate k false) all

-- places without marks keep their bytes
none_left :
    (n : ℕ) (choice : CutChoice) (settled now : List ℕ) → n ≡ length now → length settled ≡ length now
    → bytes_left choice (replicate n false) settled now ≡ now
none_left zero choice settled [] are long = refl
none_left zero choice settled (new ∷ now) are long = absurd (omega (arith, are))
none_left (suc n) choice settled [] are long = absurd (omega (arith, are))
none_left (suc n) choice [] (new ∷ now) are long = absurd (omega (arith, long))
none_left (suc n) choice (old ∷ settled) (new ∷ now) are long =
    ap (λ (rest : List ℕ). new ∷ rest) (none_left n choice settled now (omega (arith, are)) (omega (arith, long)))

left_in_front :
    (rest : ℕ) (choice : CutChoice) (marks : List Bool) (settled now : List ℕ) → length marks + rest ≡ length now
    → length settled ≡ length now
    → bytes_left choice (marks ++ replicate rest false) settled now
    ≡ bytes_left choice marks (take (length marks) settled) (take (length marks) now) ++ drop (length marks) now
left_in_front rest choice [] settled now are long = none_left rest choice settled now (omega (arith, are)) long
left_in_front rest choice (mark ∷ marks) settled [] are long = absurd (omega (arith, are))
left_in_front rest choice (mark ∷ marks) [] (new ∷ now) are long = absurd (omega (arith, long))
left_in_front rest choice (mark ∷ marks) (old ∷ settled) (new ∷ now) are long =
    ap (λ (bytes : List ℕ). byte_left mark choice old new ∷ bytes)
    (left_in_front rest (choice_left mark choice) marks settled now (omega (arith, are)) (omega (arith, long)))

left_behind :
    (from : ℕ) (choice : CutChoice) (marks : List Bool) (settled now : List ℕ) → from ≤ length now
    → length settled ≡ length now
    → bytes_left choice (replicate from false ++ marks) settled now
    ≡ take from now ++ bytes_left choice marks (drop from settled) (drop from now)
left_behind zero choice marks settled now within long = refl
left_behind (suc from) choice marks settled [] within long = absurd (omega (arith, within))
left_behind (suc from) choice marks [] (new ∷ now) within long = absurd (omega (arith, long))
left_behind (suc from) choice marks (old ∷ settled) (new ∷ now) within long =
    ap (λ (bytes : List ℕ). new ∷ bytes)
    (left_behind from choice marks settled now (omega (arith, within)) (omega (arith, long)))

-- what a crash leaves where only the places from one on have marks
pub left_at :
    (from : ℕ) (choice : CutChoice) (marks : List Bool) (settled now : List ℕ) → from + length marks ≤ length now
    → length settled ≡ length now
    → bytes_left choice (marks_at (length now) from marks) settled now
    ≡ take from now
    ++ bytes_left choice marks (take (length marks) (drop from settled)) (take (length marks) (drop from now))
    ++ drop (from + length marks) now
left_at from choice marks settled now within long =
    let n = length marks in
    let rest = length now - (from + n) in
    let left = bytes_left choice marks (take n (drop from settled)) (take n (drop from now)) in
    ap (λ (ms : List Bool). bytes_left choice ms settled now)
    (append_assoc (replicate from false) marks (replicate rest false))
    ∙ left_behind from choice (marks ++ replicate rest false) settled now (omega (arith, within)) long
    ∙ ap (λ (bytes : List ℕ). take from now ++ bytes)
    (left_in_front rest choice marks (drop from settled) (drop from now) (omega (arith, within, length-drop from now))
    (omega (arith, long, length-drop from settled, length-drop from now)))
    ∙ sym (append_assoc (take from now) left (drop n (drop from now)))
    ∙ ap (λ (bytes : List ℕ). take from now ++ left ++ bytes) (drop-drop n from now)
