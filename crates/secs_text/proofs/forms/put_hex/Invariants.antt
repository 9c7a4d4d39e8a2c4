-- The bytes so far are put.

use Rattle.std.proofs.Common.{◌≡◌, ◌++◌, take}
use Rattle.secs_text.specs.Text.{hex_bytes}
use Rattle.secs_text.proofs.forms.put_hex.Given as goal

abbrev pub invariant-loop-byte : goal.invariant-loop-byte
invariant-loop-byte l = l.into ≡ l.initial.into ++ hex_bytes (take l.byte-index l.bytes)
