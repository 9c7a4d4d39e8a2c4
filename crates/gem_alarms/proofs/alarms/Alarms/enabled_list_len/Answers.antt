-- The count stays within its range; with none left count and length are those of the list.

use Rattle.std.proofs.Common.{◌≡◌, refl, sym, ap, ◌+◌, length, arith, ◌<◌, ◌^◌}
use Rattle.std.proofs.lemmas.Map.Iter.{rest_all, rest_more}
use Rattle.std.specs.Map.Iter.{deref_pair}
use Rattle.secs_items.proofs.SpelledLengths.{together}
use Rattle.gem_alarms.specs.Alarms.{AlarmTable, enabled_items}
use Rattle.gem_alarms.proofs.Spelled.{counted_more, measured}
use Rattle.gem_alarms.proofs.alarms.Alarms.enabled_list_len.Goals as goal

pub overflow_add-count : goal.overflow_add-count
overflow_add-count c =
    let at = rest_more deref_pair c.loop-alarm.alarm-iterator _ c.next.result _ c.in-Some.is c.next.ensures.steps in
    let short : length c.args.self.now < 2 ^ 63 =
    rw (← c.self.view_is) c.iter-alarm-items.ensures.fits in
    let fits : c.loop-alarm.count + 1 < 2 ^ 64 =
    counted_more c.loop-alarm.count c.args.self.now c.loop-alarm.alarm-iterator _ _ short c.loop-alarm.invariant.count at
    c.if-alarm.true in
    omega arith

pub returns : goal.returns
returns c =
    let none = rest_all deref_pair c.loop-alarm.alarm-iterator _ c.next.result c.in-None.is c.next.ensures.steps in
    let items = enabled_items c.args.self.now in
    let len =
    measured c.loop-alarm.len c.loop-alarm.alarm-iterator enabled_items (together items) refl
    c.loop-alarm.invariant.fits none c.loop-alarm.invariant.len in
    let left : length (enabled_items c.loop-alarm.alarm-iterator) ≡ 0 =
    ap (λ (t : AlarmTable). length (enabled_items t)) none in
    let count : c.loop-alarm.count ≡ length items = omega (arith, c.loop-alarm.invariant.count, left) in
    c.list_len.ensures items (sym count) len
