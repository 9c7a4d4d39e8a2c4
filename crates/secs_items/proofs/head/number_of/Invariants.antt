-- The number of the bytes so far, which is small.

use Rattle.std.proofs.Common.{◌≡◌, ◌<◌, ◌≤◌, take}
use Rattle.secs_items.specs.Reading.{number_from}
use Rattle.secs_items.proofs.head.number_of.Given as goal

abbrev pub invariant-loop-byte : goal.invariant-loop-byte
invariant-loop-byte l = record {
  so_far : l.number ≡ number_from (take l.byte-index l.bytes);
  none : l.byte-index ≤ 0 → l.number < 1;
  one : l.byte-index ≤ 1 → l.number < 256;
  two : l.byte-index ≤ 2 → l.number < 65536;
  three : l.number < 16777216;
}
