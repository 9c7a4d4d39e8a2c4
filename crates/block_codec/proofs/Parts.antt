-- The block that bytes with no fault hold.
use Rattle.std.proofs.Common.{◌≡◌, ℕ, ◌+◌, ◌*◌, ◌/◌, ◌%◌, ◌<◌, ◌≤◌, ◌^◌, List, [], ◌∷◌, ◌++◌, length, take, drop, get_or, None, inl, inr, refl, sym, ap, ◌∙◌, arith}
use Rattle.std.specs.Prelude.{All, nat_le}
use Rattle.std.specs.Int.{w16, w32, from_be_bytes, to_be_bytes}
use Rattle.std.proofs.lemmas.Bool.{cases_lt}
use Rattle.std.proofs.lemmas.Bool.Decides.{nat_tests}
use Rattle.std.proofs.lemmas.Grind.{common_steps}
use Rattle.std.proofs.lemmas.List.{get_or_past, length-take, length-take-le, take-append-drop, length-drop}
use Rattle.std.proofs.lemmas.List.Elements.{All-drop, All-tail, All-take}
use Rattle.std.proofs.lemmas.Nat.{be_bytes_2, be_bytes_4}
use Rattle.block_codec.specs.Block.{BlockView, IsBlock}
use Rattle.block_codec.specs.Fault.{fault_of, sum_fault}
use Rattle.block_codec.specs.Frame.{IsSplit, checksum, counted_block, counted_bytes, frame_bytes}
use Rattle.block_codec.specs.Header.{IsHeader, flag_byte, header_bytes, header_in}
use Rattle.block_codec.proofs.Frames.{fault_of-split, frame_bytes-from_split}

-- an element of a list of bytes is a byte, and so is the 0 past its end
pub byte-at : (bytes : List ℕ) → All (λ (byte : ℕ). byte < 256) bytes → (i : ℕ) → get_or bytes i 0 < 256
byte-at bytes small i =
    elim (cases_lt i (length bytes)) [
      | inl within ↦ small i 0 within
      | inr past ↦ rw (get_or_past bytes i 0 past) (omega arith)
    ]

-- a byte is a flag and a number
pub flag_byte-byte : (b : ℕ) → b < 256 → flag_byte (nat_le 128 b) (b % 128) ≡ b
flag_byte-byte b below = grind (arith, nat_tests)

-- the high byte of a flag and 15 bits
pub flag_byte-high :
    (b low : ℕ) → b < 256 → low < 256 → flag_byte (nat_le 128 b) (((b % 128) * 256 + low) / 256) ≡ b
flag_byte-high b low below low_below =
    let high : ((b % 128) * 256 + low) / 256 ≡ b % 128 = omega arith in
    rw high (flag_byte-byte b below)

-- the low byte
pub low-byte : (high low : ℕ) → low < 256 → (high * 256 + low) % 256 ≡ low
low-byte high low below = omega arith

-- four bytes are a number of 32 bits
pub from_be_bytes-below :
    (bytes : List ℕ) → All (λ (byte : ℕ). byte < 256) bytes → from_be_bytes w32 bytes < 2 ^ 32
from_be_bytes-below bytes small =
    let b0 = byte-at bytes small 0 in
    let b1 = byte-at bytes small 1 in
    let b2 = byte-at bytes small 2 in
    let b3 = byte-at bytes small 3 in
    omega arith

-- the header that bytes hold fits
pub header_in-fits : (bytes : List ℕ) → All (λ (byte : ℕ). byte < 256) bytes → IsHeader (header_in bytes)
header_in-fits bytes small =
    let b1 = byte-at bytes small 1 in
    let b5 = byte-at bytes small 5 in
    record {
      fits = record { device = omega arith; stream = omega arith; number = omega arith };
      function = byte-at bytes small 3;
      system = from_be_bytes-below (drop 6 bytes) (All-drop (λ (byte : ℕ). byte < 256) 6 bytes small);
    }

-- ten bytes are six and four
pub six_before :
    (bytes : List ℕ) → length bytes ≡ 10
    → get_or bytes 0 0 ∷ get_or bytes 1 0 ∷ get_or bytes 2 0 ∷ get_or bytes 3 0 ∷ get_or bytes 4 0 ∷ get_or bytes 5 0
    ∷ drop 6 bytes
    ≡ bytes
six_before bytes long = grind (arith, common_steps)

-- ten bytes are those of the header that they hold
pub header_bytes-header_in :
    (bytes : List ℕ) → length bytes ≡ 10 → All (λ (byte : ℕ). byte < 256) bytes
    → header_bytes (header_in bytes) ≡ bytes
header_bytes-header_in bytes long small =
    let at = byte-at bytes small in
    let four = All-drop (λ (byte : ℕ). byte < 256) 6 bytes small in
    let four_long : length (drop 6 bytes) ≡ 4 = simp length-drop (omega arith) in
    let first = flag_byte-high (get_or bytes 0 0) (get_or bytes 1 0) (at 0) (at 1) in
    let second = low-byte (get_or bytes 0 0 % 128) (get_or bytes 1 0) (at 1) in
    let third = flag_byte-byte (get_or bytes 2 0) (at 2) in
    let fifth = flag_byte-high (get_or bytes 4 0) (get_or bytes 5 0) (at 4) (at 5) in
    let sixth = low-byte (get_or bytes 4 0 % 128) (get_or bytes 5 0) (at 5) in
    let number = from_be_bytes w32 (drop 6 bytes) in
    let rest = be_bytes_4 (drop 6 bytes) number four_long (byte-at (drop 6 bytes) four) refl in
    let whole = six_before bytes long in
    cc

-- two bytes are those of the number that they hold
pub two_bytes :
    (sent : List ℕ) → length sent ≡ 2 → All (λ (byte : ℕ). byte < 256) sent
    → to_be_bytes w16 (from_be_bytes w16 sent) ≡ sent
two_bytes sent long small = be_bytes_2 sent _ long (byte-at sent small) refl

-- the block that 10 to 254 bytes hold
pub counted_block-block :
    (counted : List ℕ) → 10 ≤ length counted → length counted ≤ 254 → All (λ (byte : ℕ). byte < 256) counted
    → IsBlock (counted_block counted)
counted_block-block counted least most small = record {
  header = header_in-fits (take 10 counted) (All-take (λ (byte : ℕ). byte < 256) 10 counted small);
  at_most_244 = simp length-drop (omega arith);
  bytes = All-drop (λ (byte : ℕ). byte < 256) 10 counted small;
}

-- the bytes of that block
pub counted_bytes-counted_block :
    (counted : List ℕ) → 10 ≤ length counted → All (λ (byte : ℕ). byte < 256) counted
    → counted_bytes (counted_block counted) ≡ counted
counted_bytes-counted_block counted least small =
    let header = header_bytes-header_in (take 10 counted) (length-take-le 10 counted least)
    (All-take (λ (byte : ℕ). byte < 256) 10 counted small)
    in
    ap (λ (front : List ℕ). front ++ drop 10 counted) header ∙ take-append-drop 10 counted

-- all characters that a length byte announces are there
pub record IsWhole (frame : List ℕ) : Type 0 where
  pub at_least_10 : 10 ≤ get_or frame 0 0
  pub at_most_254 : get_or frame 0 0 ≤ 254
  pub long : length frame ≡ get_or frame 0 0 + 3

-- then they are a length byte, what that counts, and two more
pub whole-split :
    (frame : List ℕ) → IsWhole frame
    → IsSplit frame (take (get_or frame 0 0) (drop 1 frame)) (drop (get_or frame 0 0) (drop 1 frame))
whole-split [] whole = absurd (omega (arith, whole.at_least_10))
whole-split (n ∷ rest) whole =
    let long : length (take n rest) ≡ n = simp length-take (omega arith) in
    record {
      whole = rw (long, take-append-drop) refl;
      at_least_10 = omega arith;
      at_most_254 = omega arith;
      two = simp length-drop (omega arith);
    }

-- bytes with no fault are whole
pub faultless-whole : (n : ℕ) (rest : List ℕ) → fault_of (n ∷ rest) ≡ None → IsWhole (n ∷ rest)
faultless-whole n rest none = record {
  at_least_10 = grind (arith, nat_tests);
  at_most_254 = grind (arith, nat_tests);
  long = grind (arith, nat_tests);
}

-- where a sum has no fault it is right
pub sum_fault-none :
    (counted sent : List ℕ) → sum_fault counted sent ≡ None → from_be_bytes w16 sent ≡ checksum counted
sum_fault-none counted sent none = grind (arith, nat_tests)

-- bytes with no fault are the frame of a block
pub faultless-frame :
    (bytes : List ℕ) → All (λ (byte : ℕ). byte < 256) bytes → fault_of bytes ≡ None
    → (block : BlockView) × IsBlock block × (bytes ≡ frame_bytes block)
faultless-frame [] small none = cc
faultless-frame (n ∷ rest) small none =
    let split = whole-split (n ∷ rest) (faultless-whole n rest none) in
    let small_rest = All-tail (λ (byte : ℕ). byte < 256) n rest small in
    let small_counted = All-take (λ (byte : ℕ). byte < 256) n rest small_rest in
    let counted = take n rest in
    let sent = drop n rest in
    let small_sent = All-drop (λ (byte : ℕ). byte < 256) n rest small_rest in
    let sums = sum_fault-none counted sent (sym (fault_of-split (n ∷ rest) counted sent split) ∙ none) in
    let right : to_be_bytes w16 (checksum counted) ≡ sent =
    ap (to_be_bytes w16) (sym sums) ∙ two_bytes sent split.two small_sent
    in
    let holds = counted_bytes-counted_block counted split.at_least_10 small_counted in (
      counted_block counted,
      counted_block-block counted split.at_least_10 split.at_most_254 small_counted,
      frame_bytes-from_split (counted_block counted) (n ∷ rest) counted sent split holds right,
    )
