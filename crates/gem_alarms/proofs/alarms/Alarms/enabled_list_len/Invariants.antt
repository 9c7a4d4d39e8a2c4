-- The number and the length so far, and those of what is left.

use Rattle.std.proofs.Common.{◌≡◌, ◌+◌, ◌<◌, ◌^◌, length}
use Rattle.secs_items.specs.Measures.{capped}
use Rattle.secs_items.proofs.SpelledLengths.{together}
use Rattle.gem_alarms.specs.Alarms.{enabled_items}
use Rattle.gem_alarms.proofs.alarms.Alarms.enabled_list_len.Given as goal

abbrev pub invariant-loop-alarm : goal.invariant-loop-alarm
invariant-loop-alarm l = record {
  count : l.count + length (enabled_items l.alarm-iterator) ≡ length (enabled_items l.self);
  fits : l.len < 2 ^ 64;
  len : capped (l.len + together (enabled_items l.alarm-iterator)) ≡ capped (together (enabled_items l.self));
}
