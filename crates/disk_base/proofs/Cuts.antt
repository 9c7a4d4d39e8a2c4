-- What a crash leaves, place by place.
use Rattle.std.proofs.Common.{◌≡◌, ℕ, zero, suc, ◌+◌, ◌<◌, Bool, true, false, List, [], ◌∷◌, ◌++◌, length, get_or, drop, slice_index, refl, sym, ap, ◌∙◌, arith, append_assoc}
use Rattle.std.proofs.lemmas.List.{drop_more}
use Rattle.disk_base.specs.Cut.{byte_left, bytes_left, choice_left}
use Rattle.disk_base.specs.declared.cut.CutChoice.{CutChoice}

pub length-bytes_left : (choice : CutChoice) (marks : List Bool) (settled now : List ℕ) → length marks ≡ length now → length settled ≡ length now →
    length (bytes_left choice marks settled now) ≡ length now
length-bytes_left choice [] settled now marked long = marked
length-bytes_left choice (mark ∷ marks) [] now marked long = long
length-bytes_left choice (mark ∷ marks) (old ∷ settled) [] marked long = refl
length-bytes_left choice (mark ∷ marks) (old ∷ settled) (new ∷ now) marked long =
    ap suc (length-bytes_left (choice_left mark choice) marks settled now (omega (arith, marked)) (omega (arith, long)))

byte_unmarked : (mark : Bool) (choice : CutChoice) (settled now : ℕ) → mark ≡ false → byte_left mark choice settled now ≡ now
byte_unmarked true choice settled now is = absurd (grind (arith, is))
byte_unmarked false choice settled now is = refl

-- a place that isn't marked keeps its byte
pub unmarked_stays : (place : ℕ) (choice : CutChoice) (marks : List Bool) (settled now : List ℕ) → length marks ≡ length now →
    length settled ≡ length now → get_or marks place false ≡ false →
    slice_index (bytes_left choice marks settled now) place ≡ slice_index now place
unmarked_stays place choice [] settled [] marked long is = refl
unmarked_stays place choice [] settled (new ∷ now) marked long is = absurd (omega (arith, marked))
unmarked_stays place choice (mark ∷ marks) settled [] marked long is = absurd (omega (arith, marked))
unmarked_stays place choice (mark ∷ marks) [] (new ∷ now) marked long is = absurd (omega (arith, long))
unmarked_stays zero choice (mark ∷ marks) (old ∷ settled) (new ∷ now) marked long is = byte_unmarked mark choice old new is
unmarked_stays (suc place) choice (mark ∷ marks) (old ∷ settled) (new ∷ now) marked long is =
    unmarked_stays place (choice_left mark choice) marks settled now (omega (arith, marked)) (omega (arith, long)) is

-- one place more
pub one_place : (place : ℕ) (choice : CutChoice) (marks : List Bool) (settled now image whole : List ℕ) (mark : Bool) (old new : ℕ) →
    place < length marks → place < length settled → place < length now →
    mark ≡ get_or marks place mark → old ≡ get_or settled place old → new ≡ get_or now place new →
    image ++ bytes_left choice (drop place marks) (drop place settled) (drop place now) ≡ whole →
    (image ++ byte_left mark choice old new ∷ []) ++ bytes_left (choice_left mark choice) (drop (place + 1) marks) (drop (place + 1) settled) (drop (place + 1) now) ≡ whole
one_place place choice marks settled now image whole mark old new below within there is was are so_far =
    let first : drop place marks ≡ mark ∷ drop (place + 1) marks =
    drop_more marks place mark below ∙ ap (λ (m : Bool). m ∷ drop (place + 1) marks) (sym is) in
    let second : drop place settled ≡ old ∷ drop (place + 1) settled =
    drop_more settled place old within ∙ ap (λ (b : ℕ). b ∷ drop (place + 1) settled) (sym was) in
    let third : drop place now ≡ new ∷ drop (place + 1) now =
    drop_more now place new there ∙ ap (λ (b : ℕ). b ∷ drop (place + 1) now) (sym are) in
    append_assoc image (byte_left mark choice old new ∷ []) _
    ∙ ap (λ (rest : List ℕ). image ++ rest) (sym (
    ap (λ (ms : List Bool). bytes_left choice ms (drop place settled) (drop place now)) first
    ∙ ap (λ (ss : List ℕ). bytes_left choice (mark ∷ drop (place + 1) marks) ss (drop place now)) second
    ∙ ap (λ (bs : List ℕ). bytes_left choice (mark ∷ drop (place + 1) marks) (old ∷ drop (place + 1) settled) bs) third
    ))
    ∙ so_far
