-- The copies so far.

use Rattle.std.proofs.Common.{◌≡◌, take}
use Rattle.equipment_tables.proofs.copies.copy_alarms.Given as goal

abbrev pub invariant-loop-alarm : goal.invariant-loop-alarm
invariant-loop-alarm l = l.copy ≡ take l.alarm-index l.alarms
