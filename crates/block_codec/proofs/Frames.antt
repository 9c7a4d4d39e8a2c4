-- Frames, their parts and their faults.
use Rattle.std.proofs.Common.{◌≡◌, ◌≢◌, ℕ, ◌+◌, ◌<◌, ◌≤◌, ◌^◌, List, [], ◌++◌, length, take, drop, get_or, Some, None, refl, sym, ap, ◌∙◌, arith, length-append}
use Rattle.std.specs.Int.{w16, from_be_bytes, to_be_bytes}
use Rattle.std.proofs.lemmas.Bool.Decides.{nat_tests}
use Rattle.std.proofs.lemmas.Grind.{common_steps}
use Rattle.std.proofs.lemmas.List.{drop_at, take_at}
use Rattle.std.proofs.lemmas.Nat.{from_be_bytes-to_be_bytes_2}
use Rattle.std.proofs.Math.Seq.{take-append_seam, drop-append_seam}
use Rattle.block_codec.specs.declared.frame.BlockFault.{BlockFault}
use Rattle.block_codec.specs.declared.header.Header.{Header}
use Rattle.block_codec.specs.declared.frame.BlockFault.TheVariants.{Sum}
use Rattle.block_codec.specs.Block.{BlockView, IsBlock}
use Rattle.block_codec.specs.Fault.{fault_of, sum_fault}
use Rattle.block_codec.specs.Frame.{IsSplit, checksum, counted_block, counted_bytes, frame_bytes}
use Rattle.block_codec.specs.Header.{header_bytes, header_in}
use Rattle.block_codec.proofs.Headers.{header_in-header_bytes}

-- two lists with the same front length are equal part by part
pub append-same :
    (xs ys : List ℕ) (after_xs after_ys : List ℕ) → length xs ≡ length ys
    → xs ++ after_xs ≡ ys ++ after_ys → (xs ≡ ys) × (after_xs ≡ after_ys)
append-same xs ys after_xs after_ys long same = (
  sym (take-append_seam xs after_xs) ∙ ap (take (length xs)) same ∙ rw long (take-append_seam ys after_ys),
  sym (drop-append_seam xs after_xs) ∙ ap (drop (length xs)) same ∙ rw long (drop-append_seam ys after_ys),
)

-- header and body are what the length byte counts
pub length-counted_bytes : (block : BlockView) → length (counted_bytes block) ≡ 10 + length block.body
length-counted_bytes block = omega arith

-- a block is its header and its body
pub block-same : (a b : BlockView) → a.header ≡ b.header → a.body ≡ b.body → a ≡ b
block-same a b header body =
    let made : Header → List ℕ → BlockView = λ h s. record { header = h; body = s } in
    ap (λ (h : Header). made h a.body) header ∙ ap (λ (s : List ℕ). made b.header s) body

-- the block in a block's counted bytes is that block
pub counted_block-counted_bytes :
    (block : BlockView) → IsBlock block → counted_block (counted_bytes block) ≡ block
counted_block-counted_bytes block in_block =
    let front : take 10 (counted_bytes block) ≡ header_bytes block.header =
    take_at (header_bytes block.header) block.body 10 refl
    in
    block-same (counted_block (counted_bytes block)) block
    (ap header_in front ∙ header_in-header_bytes block.header in_block.header)
    (drop_at (header_bytes block.header) block.body 10 refl)

-- a frame is 13 bytes longer than its body
pub length-frame_bytes : (block : BlockView) → length (frame_bytes block) ≡ 13 + length block.body
length-frame_bytes block = simp length-append (omega arith)

-- where a frame is in front, it has 3 bytes more than its first byte says
pub take-frame_bytes :
    (block : BlockView) (after : List ℕ)
    → take (get_or (frame_bytes block ++ after) 0 0 + 3) (frame_bytes block ++ after) ≡ frame_bytes block
take-frame_bytes block after =
    let end : length (frame_bytes block) ≡ 10 + length block.body + 3 = length-frame_bytes block ∙ omega arith in
    take_at (frame_bytes block) after _ end

-- and what stands after those bytes is the rest
pub drop-frame_bytes :
    (block : BlockView) (after : List ℕ)
    → drop (get_or (frame_bytes block ++ after) 0 0 + 3) (frame_bytes block ++ after) ≡ after
drop-frame_bytes block after =
    let end : length (frame_bytes block) ≡ 10 + length block.body + 3 = length-frame_bytes block ∙ omega arith in
    drop_at (frame_bytes block) after _ end

-- no frame is the front of another one, and a frame is of one block
pub frame_bytes-same :
    (a b : BlockView) (after_a after_b : List ℕ) → IsBlock a → IsBlock b
    → frame_bytes a ++ after_a ≡ frame_bytes b ++ after_b → (a ≡ b) × (after_a ≡ after_b)
frame_bytes-same a b after_a after_b in_a in_b same =
    let first : 10 + length a.body ≡ 10 + length b.body = ap (λ (bytes : List ℕ). get_or bytes 0 0) same in
    let long : length a.body ≡ length b.body = omega arith in
    let framed_long : length (frame_bytes a) ≡ length (frame_bytes b) = simp length-append (omega arith) in
    let framed = append-same (frame_bytes a) (frame_bytes b) after_a after_b framed_long same in
    let counted_long : length (counted_bytes a) ≡ length (counted_bytes b) = omega arith in
    let counted = append-same (counted_bytes a) (counted_bytes b)
    (to_be_bytes w16 (checksum (counted_bytes a))) (to_be_bytes w16 (checksum (counted_bytes b)))
    counted_long (ap (λ (bytes : List ℕ). drop 1 bytes) framed.0)
    in
    let one = ap counted_block counted.0 in
    (sym (counted_block-counted_bytes a in_a) ∙ one ∙ counted_block-counted_bytes b in_b, framed.1)

-- of bytes that have the length of a frame only the sum can be wrong
pub fault_of-split :
    (bytes counted sent : List ℕ) → IsSplit bytes counted sent → fault_of bytes ≡ sum_fault counted sent
fault_of-split bytes counted sent split =
    rw split.whole (grind (arith, nat_tests, common_steps, take-append_seam, drop-append_seam))

-- a frame is a length byte, what it counts, and a sum
pub frame_bytes-split :
    (block : BlockView) → length block.body ≤ 244
    → IsSplit (frame_bytes block) (counted_bytes block) (to_be_bytes w16 (checksum (counted_bytes block)))
frame_bytes-split block most =
    let long = length-counted_bytes block in
    record { whole = rw long refl; at_least_10 = omega arith; at_most_254 = omega arith; two = refl }

-- the right sum is no fault
pub sum_fault-right :
    (counted sent : List ℕ) → from_be_bytes w16 sent ≡ checksum counted → sum_fault counted sent ≡ None
sum_fault-right counted sent right = grind (arith, nat_tests)

-- a wrong sum is the fault
pub fault_of-wrong_sum :
    (bytes counted sent : List ℕ) → IsSplit bytes counted sent → from_be_bytes w16 sent ≢ checksum counted
    → fault_of bytes ≡ Some (Sum (from_be_bytes w16 sent) (checksum counted))
fault_of-wrong_sum bytes counted sent split wrong =
    let fault : sum_fault counted sent ≡ Some (Sum (from_be_bytes w16 sent) (checksum counted)) =
    grind (arith, nat_tests)
    in
    fault_of-split bytes counted sent split ∙ fault

-- a frame of at most 244 bytes of body has no fault
pub fault_of-short_frame : (block : BlockView) → length block.body ≤ 244 → fault_of (frame_bytes block) ≡ None
fault_of-short_frame block most =
    let sum = checksum (counted_bytes block) in
    let below : sum < 2 ^ 16 = omega arith in
    fault_of-split _ _ _ (frame_bytes-split block most)
    ∙ sum_fault-right (counted_bytes block) (to_be_bytes w16 sum) (from_be_bytes-to_be_bytes_2 sum below)

-- a frame has no fault
pub fault_of-frame_bytes : (block : BlockView) → IsBlock block → fault_of (frame_bytes block) ≡ None
fault_of-frame_bytes block in_block = fault_of-short_frame block in_block.at_most_244

-- bytes whose sum is right are the frame of the block that they hold
pub frame_bytes-from_split :
    (block : BlockView) (bytes counted sent : List ℕ) → IsSplit bytes counted sent → counted_bytes block ≡ counted
    → to_be_bytes w16 (checksum counted) ≡ sent → bytes ≡ frame_bytes block
frame_bytes-from_split block bytes counted sent split holds right =
    let long : length counted ≡ 10 + length block.body = ap length (sym holds) ∙ length-counted_bytes block in
    split.whole ∙ rw (long, ← right, ← holds) refl

-- bytes are the frame of one block
pub frame_bytes-one :
    (bytes : List ℕ) (a b : BlockView) → IsBlock a → IsBlock b → bytes ≡ frame_bytes a → bytes ≡ frame_bytes b → a ≡ b
frame_bytes-one bytes a b in_a in_b of_a of_b =
    (frame_bytes-same a b [] [] in_a in_b (ap (λ (front : List ℕ). front ++ []) (sym of_a ∙ of_b))).0

-- bytes with a fault are no frame
pub fault_of-no_frame :
    (bytes : List ℕ) (fault : BlockFault) (block : BlockView) → fault_of bytes ≡ Some fault → IsBlock block
    → bytes ≡ frame_bytes block → ⊥
fault_of-no_frame bytes fault block has_fault in_block of_block =
    let none : fault_of bytes ≡ None = ap fault_of of_block ∙ fault_of-frame_bytes block in_block in
    cc
