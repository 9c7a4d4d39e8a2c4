-- The header of a block and the ten bytes that stand for it on the line.
use Rattle.std.specs.Prelude.{ℕ, Bool, ◌+◌, ◌*◌, ◌/◌, ◌%◌, ◌^◌, ◌<◌, nat_le, List, ◌∷◌, drop, slice_index, if◌then◌else◌}
use Rattle.std.specs.Int.{w32, from_be_bytes, to_be_bytes}
use Rattle.block_codec.specs.declared.header.Header.{Header}

-- a byte whose highest bit is a flag and whose other seven are a number (SEMI E4, header)
abbrev pub flag_byte : Bool → ℕ → ℕ
flag_byte flag low = (if flag then 128 else 0) + low

-- R bit and device, W bit and stream, function, E bit and block number, four system bytes (SEMI E4, header)
abbrev pub header_bytes : Header → List ℕ
header_bytes header =
    flag_byte header.from_equipment (header.device / 256) ∷ header.device % 256
    ∷ flag_byte header.wait header.stream ∷ header.function
    ∷ flag_byte header.last (header.number / 256) ∷ header.number % 256
    ∷ to_be_bytes w32 header.system

-- the header whose parts stand at their places in ten bytes (SEMI E4, header)
abbrev pub header_in : List ℕ → Header
header_in bytes = record {
  from_equipment = nat_le 128 (slice_index bytes 0);
  device = slice_index bytes 0 % 128 * 256 + slice_index bytes 1;
  wait = nat_le 128 (slice_index bytes 2);
  stream = slice_index bytes 2 % 128;
  function = slice_index bytes 3;
  last = nat_le 128 (slice_index bytes 4);
  number = slice_index bytes 4 % 128 * 256 + slice_index bytes 5;
  system = from_be_bytes w32 (drop 6 bytes);
}

-- device and block number have 15 bits, the stream has 7 (SEMI E4, header)
pub record Fits (header : Header) : Type 0 where
  pub device : header.device < 32768
  pub stream : header.stream < 128
  pub number : header.number < 32768

-- it fits, the function is a byte and the system bytes are four (SEMI E4, header)
pub record IsHeader (header : Header) : Type 0 where
  pub fits : Fits header
  pub function : header.function < 256
  pub system : header.system < 2 ^ 32
