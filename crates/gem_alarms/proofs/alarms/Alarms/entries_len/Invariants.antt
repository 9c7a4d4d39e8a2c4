-- The length so far and that of what is left.

use Rattle.std.proofs.Common.{◌≡◌, ◌+◌, ◌<◌, ◌^◌, map}
use Rattle.secs_items.specs.Measures.{capped}
use Rattle.secs_items.proofs.SpelledLengths.{together}
use Rattle.gem_alarms.specs.Alarms.{entry_item}
use Rattle.gem_alarms.proofs.alarms.Alarms.entries_len.Given as goal

abbrev pub invariant-loop-alarm : goal.invariant-loop-alarm
invariant-loop-alarm l = record {
  fits : l.len < 2 ^ 64;
  len : capped (l.len + together (map entry_item l.alarm-iterator)) ≡ capped (together (map entry_item l.self));
}
