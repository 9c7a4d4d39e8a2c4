-- Who receives blocks.
use Rattle.std.specs.Prelude.{ℕ, Bool, false, ◌+◌, ◌<◌, ◌≤◌, ◌==◌, ◌||◌, not, Option, Some, None, IfSome, if◌then◌else◌}
use Rattle.std.specs.Bool.{beq}
use Rattle.block_codec.specs.Protocol.{longest_body, longest_text}
use Rattle.block_codec.specs.declared.header.Header.{Header}
use Rattle.gl_base.specs.declared.side.Side.{Side}
use Rattle.gl_base.specs.Side.{r_bit_of}

-- the receiver's side and device, T4 in milliseconds, and the most bytes of a message's text that it takes. Without a
-- device it takes the blocks of each (SEMI E4, T4; the rest is this profile's)
pub record Receiver : Type 0 where
  pub side : Side
  pub device : Option ℕ
  pub t4 : ℕ
  pub max_body : ℕ

-- the device has 15 bits, T4 is from 1 to 120 seconds (SEMI E4, parameters), and the text of a message that is taken
-- has from 244 to 7,995,148 bytes at most (this profile)
pub record IsReceiver (receiver : Receiver) : Type 0 where
  pub device : IfSome receiver.device (λ device. device < 32768)
  pub t4_at_least : 1000 ≤ receiver.t4
  pub t4_at_most : receiver.t4 ≤ 120000
  pub max_body_at_least : longest_body ≤ receiver.max_body
  pub max_body_at_most : receiver.max_body ≤ longest_text

abbrev pub is_other_device : Option ℕ → ℕ → Bool
is_other_device None device = false
is_other_device (Some own) device = not (own == device)

-- the block goes out from the receiver's own side, or is of another device (SEMI E4, reverse bit and device)
abbrev pub is_foreign : Receiver → Header → Bool
is_foreign receiver header =
    beq header.from_equipment (r_bit_of receiver.side) || is_other_device receiver.device header.device

-- the first two bytes of a header, as one number: R bit and device (SEMI E4, header)
abbrev pub address_of : Header → ℕ
address_of header = (if header.from_equipment then 32768 else 0) + header.device
