-- The digits so far, with those of the bytes that are left, are all.

use Rattle.std.proofs.Common.{◌≡◌, ◌+◌, ◌*◌, ◌++◌, drop}
use Rattle.arrayvec.specs.ArrayVec.{array_vec_len}
use Rattle.hex.specs.Hex.{encode_upper}
use Rattle.short_text.proofs.put_hex.Given as goal

abbrev pub invariant-loop-byte : goal.invariant-loop-byte
invariant-loop-byte g l =
    (array_vec_len l.line ≡ array_vec_len l.fn.line + 2 * l.byte-index)
    × (l.line.items ++ encode_upper (drop l.byte-index l.bytes) ≡ l.fn.line.items ++ encode_upper l.bytes)
