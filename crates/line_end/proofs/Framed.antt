-- The block that stands in the characters of a frame.
use Rattle.std.proofs.Common.{◌≡◌, ◌≢◌, ℕ, Bool, true, false, ◌≤◌, List, [], ◌∷◌, length, Some, None, refl, sym, ap, ◌∙◌, arith, length-drop}
use Rattle.std.specs.Int.{w16, from_be_bytes, to_be_bytes}
use Rattle.std.specs.Str.{bytes_eq}
use Rattle.std.specs.Cmp.Lexicographic.{same_text}
use Rattle.std.proofs.lemmas.Bool.Decides.{nat_tests}
use Rattle.std.proofs.lemmas.List.{take_at}
use Rattle.block_codec.specs.Block.{BlockView, IsBlock}
use Rattle.block_codec.specs.Fault.{fault_of, sum_fault}
use Rattle.block_codec.specs.Frame.{checksum, counted_block, counted_bytes, frame_bytes}
use Rattle.block_codec.specs.declared.frame.BlockFault.{BlockFault}
use Rattle.block_codec.specs.declared.frame.BlockFault.TheVariants as fault
use Rattle.block_codec.proofs.Frames.{counted_block-counted_bytes, fault_of-short_frame, fault_of-split, length-counted_bytes}
use Rattle.block_codec.proofs.Parts.{IsWhole, whole-split}
use Rattle.line_end.specs.declared.event.LineCause.TheVariants as cause
use Rattle.line_end.specs.Frames.{block_in, counted_in, is_frame, sent_in, sum_cause}

-- what the length byte of a frame counts is header and body
pub counted_in-frame_bytes : (block : BlockView) → counted_in (frame_bytes block) ≡ counted_bytes block
counted_in-frame_bytes block =
    take_at (counted_bytes block) (to_be_bytes w16 (checksum (counted_bytes block))) _ (length-counted_bytes block)

-- the block in a block's frame is that block
pub block_in-frame_bytes : (block : BlockView) → IsBlock block → block_in (frame_bytes block) ≡ block
unfolding block_in
block_in-frame_bytes block in_block =
    ap counted_block (counted_in-frame_bytes block) ∙ counted_block-counted_bytes block in_block

-- equal lists are equal by test
pub bytes_eq-same : (xs ys : List ℕ) → xs ≡ ys → bytes_eq xs ys ≡ true
bytes_eq-same [] [] same = refl
bytes_eq-same [] (y ∷ ys) same = cc
bytes_eq-same (x ∷ xs) [] same = cc
bytes_eq-same (x ∷ xs) (y ∷ ys) same =
    let first : x ≡ y = cc in
    let rest : bytes_eq xs ys ≡ true = bytes_eq-same xs ys cc in
    grind (arith, nat_tests)

-- the frame of a block is a frame
pub is_frame-frame_bytes : (block : BlockView) → IsBlock block → is_frame (frame_bytes block) ≡ true
unfolding is_frame
is_frame-frame_bytes block in_block =
    bytes_eq-same _ _ (ap frame_bytes (sym (block_in-frame_bytes block in_block)))

-- characters that are a frame are that of the block in them
pub frame_bytes-block_in :
    (characters : List ℕ) → is_frame characters ≡ true → characters ≡ frame_bytes (block_in characters)
unfolding is_frame
frame_bytes-block_in characters framed = same_text _ _ (sym framed)

-- a sum's fault names both sums
pub sum_fault-sums :
    (counted sent : List ℕ) (got want : ℕ) → sum_fault counted sent ≡ Some (fault.Sum got want)
    → (got ≡ from_be_bytes w16 sent) × (want ≡ checksum counted)
sum_fault-sums counted sent got want wrong = grind (arith, nat_tests)

-- characters with a fault are no frame
pub fault_of-other :
    (frame : List ℕ) (why : BlockFault) → IsWhole frame → fault_of frame ≡ Some why → is_frame frame ≡ true → ⊥
unfolding block_in
fault_of-other frame why whole wrong framed =
    let counted : length (counted_in frame) ≤ 254 = omega (arith, (whole-split frame whole).at_most_254) in
    let most : length (block_in frame).body ≤ 244 = simp length-drop (omega arith) in
    let none : fault_of frame ≡ None =
    ap fault_of (frame_bytes-block_in frame framed) ∙ fault_of-short_frame (block_in frame) most
    in
    cc

-- what isn't true is false
pub is_false : (b : Bool) → b ≢ true → b ≡ false
is_false true other = absurd (other refl)
is_false false other = refl

-- a wrong sum is no frame, and the cause names both sums
pub wrong_sum :
    (frame : List ℕ) (got want : ℕ) → IsWhole frame → fault_of frame ≡ Some (fault.Sum got want)
    → (is_frame frame ≡ false) × (cause.Sum got want ≡ sum_cause frame)
unfolding sum_cause
wrong_sum frame got want whole wrong =
    let split = whole-split frame whole in
    let sums =
    sum_fault-sums (counted_in frame) (sent_in frame) got want (sym (fault_of-split frame _ _ split) ∙ wrong)
    in
    (is_false (is_frame frame) (fault_of-other frame _ whole wrong), ap (λ (g : ℕ). cause.Sum g want) sums.0 ∙ ap (λ (w : ℕ). cause.Sum (from_be_bytes w16 (sent_in frame)) w) sums.1)
