-- The ten bytes of a header.
use Rattle.std.proofs.Common.{◌≡◌, ℕ, Bool, true, false, ◌+◌, ◌*◌, ◌/◌, ◌%◌, ◌<◌, nat_le, refl, arith}
use Rattle.std.proofs.lemmas.Bool.Decides.{nat_tests}
use Rattle.std.proofs.lemmas.Grind.{common_steps}
use Rattle.std.proofs.lemmas.Nat.{from_be_bytes-to_be_bytes_4}
use Rattle.block_codec.specs.declared.header.Header.{Header}
use Rattle.block_codec.specs.Header.{IsHeader, flag_byte, header_bytes, header_in}

-- headers with the same bytes are one header
pub header_bytes-same : (a b : Header) → IsHeader a → IsHeader b → header_bytes a ≡ header_bytes b → a ≡ b
header_bytes-same a b in_a in_b same = grind (arith, common_steps)

-- the flag and the number of a byte
pub flag-flag_byte : (flag : Bool) (low : ℕ) → low < 128 → nat_le 128 (flag_byte flag low) ≡ flag
flag-flag_byte true low below = grind (arith, nat_tests)
flag-flag_byte false low below = grind (arith, nat_tests)

pub low-flag_byte : (flag : Bool) (low : ℕ) → low < 128 → flag_byte flag low % 128 ≡ low
low-flag_byte true low below = omega arith
low-flag_byte false low below = omega arith

-- a number of 15 bits is that of its two bytes
pub two_bytes-flag_byte : (flag : Bool) (n : ℕ) → n < 32768 → flag_byte flag (n / 256) % 128 * 256 + n % 256 ≡ n
two_bytes-flag_byte true n below = omega arith
two_bytes-flag_byte false n below = omega arith

-- headers with equal parts are equal
pub header-same :
    (a b : Header) → a.from_equipment ≡ b.from_equipment → a.device ≡ b.device → a.wait ≡ b.wait
    → a.stream ≡ b.stream → a.function ≡ b.function → a.last ≡ b.last → a.number ≡ b.number → a.system ≡ b.system
    → a ≡ b
header-same a b from_equipment device wait stream function last number system = grind (arith, common_steps)

-- the header in a header's bytes is that header
pub header_in-header_bytes : (header : Header) → IsHeader header → header_in (header_bytes header) ≡ header
header_in-header_bytes header in_header =
    let fits = in_header.fits in
    let device_high : header.device / 256 < 128 = omega (arith, fits.device) in
    let number_high : header.number / 256 < 128 = omega (arith, fits.number) in
    header-same (header_in (header_bytes header)) header
    (flag-flag_byte header.from_equipment (header.device / 256) device_high)
    (two_bytes-flag_byte header.from_equipment header.device fits.device)
    (flag-flag_byte header.wait header.stream fits.stream)
    (low-flag_byte header.wait header.stream fits.stream)
    refl
    (flag-flag_byte header.last (header.number / 256) number_high)
    (two_bytes-flag_byte header.last header.number fits.number)
    (from_be_bytes-to_be_bytes_4 header.system in_header.system)
