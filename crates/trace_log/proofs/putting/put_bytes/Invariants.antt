-- The bytes so far are put.

use Rattle.std.proofs.Common.{◌≡◌, ◌++◌, take}
use Rattle.std.specs.List.{flat_map}
use Rattle.short_text.specs.Shown.{hex_byte}
use Rattle.trace_log.proofs.putting.put_bytes.Given as goal

abbrev pub invariant-loop-byte : goal.invariant-loop-byte
invariant-loop-byte l = l.into ≡ l.initial.into ++ flat_map hex_byte (take l.byte-index l.bytes)
