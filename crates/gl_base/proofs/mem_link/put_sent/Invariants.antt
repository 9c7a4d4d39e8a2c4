-- The bytes so far are listed as sent, within the room.

use Rattle.std.proofs.Common.{◌≡◌, ◌≤◌, ◌+◌, ◌++◌, take, vec_capacity, vec_len}
use Rattle.gl_base.specs.Link.{entries_of}
use Rattle.gl_base.proofs.mem_link.put_sent.Given as goal

abbrev pub invariant-loop-byte : goal.invariant-loop-byte
invariant-loop-byte l =
    (l.entries.items ≡ l.fn.entries.items ++ entries_of (take l.byte-index l.bytes))
    × (vec_len l.entries ≡ vec_len l.fn.entries + l.byte-index)
    × (vec_capacity l.fn.entries ≤ vec_capacity l.entries)
