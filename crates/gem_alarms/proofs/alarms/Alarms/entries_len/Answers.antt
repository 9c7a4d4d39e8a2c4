-- With none left the length is that of all.

use Rattle.std.proofs.Common.{refl, map}
use Rattle.std.proofs.lemmas.Map.Iter.{rest_all}
use Rattle.std.specs.Map.Iter.{deref_pair}
use Rattle.secs_items.proofs.SpelledLengths.{together}
use Rattle.gem_alarms.specs.Alarms.{entry_item}
use Rattle.gem_alarms.proofs.Spelled.{measured}
use Rattle.gem_alarms.proofs.alarms.Alarms.entries_len.Goals as goal

pub returns : goal.returns
returns c =
    let none = rest_all deref_pair c.loop-alarm.alarm-iterator _ c.next.result c.in-None.is c.next.ensures.steps in
    measured c.loop-alarm.len c.loop-alarm.alarm-iterator (map entry_item) (together (map entry_item c.args.self.now))
    refl
    c.loop-alarm.invariant.fits none c.loop-alarm.invariant.len
