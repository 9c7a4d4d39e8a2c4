-- A capture is pieces and an ending, in one way only.
use Rattle.std.proofs.Common.{◌≡◌, get_or, ℕ, ◌+◌, ◌≤◌, true, false, List, [], ◌∷◌, length, Some, None, refl, sym, ap, subst, ◌∙◌, arith}
use Rattle.std.proofs.lemmas.Bool.Decides.{nat_tests}
use Rattle.std.proofs.lemmas.Grind.{common_steps}
use Rattle.std.proofs.lemmas.List.{get_or-take, length-take}
use Rattle.block_codec.specs.declared.frame.BlockFault.{BlockFault}
use Rattle.block_codec.specs.declared.frame.BlockFault.TheVariants.{Long}
use Rattle.block_codec.specs.Block.{BlockView}
use Rattle.block_codec.specs.Fault.{fault_of}
use Rattle.block_codec.proofs.Frames.{fault_of-frame_bytes, frame_bytes-same, take-frame_bytes}
use Rattle.line_show.specs.Capture.{EndsAs, IsFront, Piece, ReadsFrom, break_of, front_frame, is_character, piece_bytes}
use Rattle.line_show.specs.declared.capture.Break.{Break}
use Rattle.line_show.specs.declared.capture.Ending.{Ending}
use Rattle.line_show.specs.declared.capture.Ending.TheVariants.{Whole, Broken}
use Rattle.line_show.specs.Capture.Piece.{Character, Framed}

-- a frame in front has no fault
no_fault : (bytes : List ℕ) (block : BlockView) (more : List ℕ) → IsFront bytes (Framed block) more
    → fault_of (front_frame bytes) ≡ None
no_fault bytes block more front =
    ap (λ (all : List ℕ). fault_of (front_frame all)) front.whole ∙ ap fault_of (take-frame_bytes block more)
    ∙ fault_of-frame_bytes block front.stands

faultless : (bytes : List ℕ) (fault : BlockFault) (block : BlockView) (more : List ℕ)
    → IsFront bytes (Framed block) more
    → fault_of (front_frame bytes) ≡ Some fault → ⊥
faultless bytes fault block more front broken = let none = no_fault bytes block more front in cc

-- and it is something
not_nothing : (bytes : List ℕ) (piece : Piece) (more : List ℕ) → IsFront bytes piece more → bytes ≡ [] → ⊥
not_nothing bytes (Character byte) more front nothing = let whole = front.whole in cc
not_nothing bytes (Framed block) more front nothing = let whole = front.whole in cc

-- a frame in front is not too long, since no more bytes are taken than its length byte says
long_frame : (front : List ℕ) (came : ℕ) → length front ≤ get_or front 0 0 + 3 → fault_of front ≡ Some (Long came) → ⊥
long_frame [] came within long = cc
long_frame (n ∷ rest) came within long = grind (arith, nat_tests, common_steps)

pub not_long : (bytes : List ℕ) (came : ℕ) → fault_of (front_frame bytes) ≡ Some (Long came) → ⊥
not_long bytes came long = long_frame (front_frame bytes) came (within bytes) long
  where
    within : (all : List ℕ) → length (front_frame all) ≤ get_or (front_frame all) 0 0 + 3
    within all = omega (
      arith,
      length-take (get_or all 0 0 + 3) all,
      get_or-take (get_or all 0 0 + 3) all 0 0
          (omega arith),
    )

-- one piece alone is in front
pub one_piece : (bytes : List ℕ) (a b : Piece) (more_a more_b : List ℕ) → IsFront bytes a more_a
    → IsFront bytes b more_b
    → (a ≡ b) × (more_a ≡ more_b)
one_piece bytes (Character byte) (Character byte') more_a more_b in_a in_b =
    let both : byte ∷ more_a ≡ byte' ∷ more_b = sym in_a.whole ∙ in_b.whole in
    let same : byte ≡ byte' = cc in
    let rest : more_a ≡ more_b = cc in
    (ap (λ b. Character b) same, rest)
one_piece bytes (Character byte) (Framed block) more_a more_b in_a in_b =
    absurd (faultless bytes in_a.stands.1.0 block more_b in_b in_a.stands.1.1)
one_piece bytes (Framed block) (Character byte) more_a more_b in_a in_b =
    absurd (faultless bytes in_b.stands.1.0 block more_a in_a in_b.stands.1.1)
one_piece bytes (Framed block) (Framed block') more_a more_b in_a in_b =
    let same = frame_bytes-same block block' more_a more_b in_a.stands in_b.stands (sym in_a.whole ∙ in_b.whole) in
    (ap (λ b. Framed b) same.0, same.1)

-- a piece in front can't end the reading
pub not_ended : (place : ℕ) (bytes : List ℕ) (piece : Piece) (more : List ℕ) (ending : Ending)
    → IsFront bytes piece more → EndsAs place bytes ending
    → ⊥
not_ended place bytes piece more Whole front ends = not_nothing bytes piece more front ends
not_ended place bytes (Framed block) more (Broken named) front ends =
    faultless bytes ends.0 block more front ends.1.broken
not_ended place bytes (Character byte) more (Broken named) front ends =
    let first : get_or bytes 0 0 ≡ byte = ap (λ (all : List ℕ). get_or all 0 0) front.whole in
    let is = front.stands.0 in
    let isnt = ends.1.no_character in
    let both : true ≡ false = sym is ∙ ap is_character (sym first) ∙ isnt in
    cc

-- what ends a reading is one thing
pub one_end : (place : ℕ) (bytes : List ℕ) (a b : Ending) → EndsAs place bytes a → EndsAs place bytes b → a ≡ b
one_end place bytes Whole Whole in_a in_b = refl
one_end place bytes Whole (Broken named) in_a in_b = absurd (in_b.1.something in_a)
one_end place bytes (Broken named) Whole in_a in_b = absurd (in_a.1.something in_b)
one_end place bytes (Broken named) (Broken named') in_a in_b =
    let broken = in_a.1.broken in
    let broken' = in_b.1.broken in
    let same : in_a.0 ≡ in_b.0 = cc in
    let both : Some named ≡ Some named' = sym in_a.2
    ∙ ap (λ (f : BlockFault). break_of place (place + length bytes) f) same ∙ in_b.2 in
    let one : named ≡ named' = cc in
    ap (λ (n : Break). Broken n) one

-- what is read behind a piece stands behind the same piece, however it was named
pub behind_same : (place : ℕ) (a b : Piece) (more_a more_b : List ℕ) (pieces : List Piece) (ending : Ending) → a ≡ b
    → more_a ≡ more_b →
    ReadsFrom (place + length (piece_bytes a)) more_a pieces ending
    → ReadsFrom (place + length (piece_bytes b)) more_b pieces ending
behind_same place a b more_a more_b pieces ending same rest reads =
    subst (λ (more : List ℕ). ReadsFrom (place + length (piece_bytes b)) more pieces ending) rest
    (subst (λ (x : Piece). ReadsFrom (place + length (piece_bytes x)) more_a pieces ending) same reads)

-- a capture reads in one way only, from any place on
pub one_reading : (place : ℕ) (bytes : List ℕ) (a b : List Piece) (ending_a ending_b : Ending) →
    ReadsFrom place bytes a ending_a → ReadsFrom place bytes b ending_b → (a ≡ b) × (ending_a ≡ ending_b)
one_reading place bytes [] [] ending_a ending_b in_a in_b = (refl, one_end place bytes ending_a ending_b in_a in_b)
one_reading place bytes [] (piece ∷ b) ending_a ending_b in_a in_b =
    absurd (not_ended place bytes piece in_b.0 ending_a in_b.1 in_a)
one_reading place bytes (piece ∷ a) [] ending_a ending_b in_a in_b =
    absurd (not_ended place bytes piece in_a.0 ending_b in_a.1 in_b)
one_reading place bytes (piece ∷ a) (other ∷ b) ending_a ending_b in_a in_b =
    let same = one_piece bytes other piece in_b.0 in_a.0 in_b.1 in_a.1 in
    let here = behind_same place other piece in_b.0 in_a.0 b ending_b same.0 same.1 in_b.2 in
    let rest = one_reading (place + length (piece_bytes piece)) in_a.0 a b ending_a ending_b in_a.2 here in
    (ap (λ (x : Piece). x ∷ a) (sym same.0) ∙ ap (λ (xs : List Piece). other ∷ xs) rest.0, rest.1)
