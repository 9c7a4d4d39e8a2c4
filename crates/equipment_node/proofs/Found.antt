-- That the messages for which a file of the spool stands can go to the host.
use Rattle.std.proofs.Common.{◌≡◌, ap, ◌∙◌, arith, zero, suc, ◌<◌, ◌≤◌, ◌%◌, ℕ, List, [], ◌∷◌, length, take, Some}
use Rattle.std.proofs.lemmas.List.{take_all}
use Rattle.std.specs.List.{slice_get}
use Rattle.block_codec.specs.Protocol.{longest_text}
use Rattle.trace_log.specs.Names.{Spooled}
use Rattle.spool_file.specs.File.{SpoolFile, StandsFor, file_in}
use Rattle.spool_file.specs.Slot.{Message}
use Rattle.spool_file.proofs.Contents.{IsHeld, first_held}

take-short : (n : ℕ) (xs : List ℕ) → length (take n xs) ≤ n
take-short zero xs = omega arith
take-short (suc n) [] = omega arith
take-short (suc n) (x ∷ xs) = let less = take-short n xs in omega (arith, less)

-- ---- what was read, as a report

pub short-enough : (body : List ℕ) → length (take 1048576 body) ≤ longest_text
short-enough body = let less = take-short 1048576 body in omega (arith, less)

abbrev made : ℕ → ℕ → List ℕ → Spooled
made stream function body = record { stream = stream; function = function; body = body }

pub is-kept :
    (stream function primary : ℕ) (body kept : List ℕ) → stream < 128 → primary ≡ function → length body ≤ 1048576
    → kept ≡ take 1048576 body → made (stream % 128) primary kept ≡ made stream function body
is-kept stream function primary body kept less same short is =
    let low : stream % 128 ≡ stream = omega (arith, less) in
    ap (λ (n : ℕ). made n primary kept) low
    ∙ ap (λ (n : ℕ). made stream n kept) same
    ∙ ap (λ (bytes : List ℕ). made stream function bytes) (is ∙ take_all 1048576 body short)

-- the first one of a file
pub oldest-good :
    (bytes : List ℕ) (file : SpoolFile) (m : Message) → StandsFor bytes file → slice_get (file_in bytes).list 0 ≡ Some m
    → IsHeld m
oldest-good bytes file m stands is = first_held bytes m stands.sound is
