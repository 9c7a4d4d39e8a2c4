-- The lengths of the parts make that of the item.

use Rattle.std.proofs.Common.{sym, [], ◌∷◌, refl, arith}
use Rattle.secs_items.proofs.SpelledLengths.{length-byte}
use Rattle.gem_alarms.specs.Alarms.{alcd_of}
use Rattle.gem_alarms.proofs.Spelled.{parts, parts_together}
use Rattle.gem_alarms.proofs.alarm.Alarm.item_len.Goals as goal

pub returns : goal.returns
returns c = λ alid.
    let alarm = c.args.self.now in
    let alcd = alcd_of alarm in
    let text = c.text_len.ensures alarm.text (sym c.len.ensures) in
    c.list_len.ensures (parts (alcd ∷ []) alid alarm.text) refl
    (omega (arith, parts_together (alcd ∷ []) alid alarm.text, length-byte alcd, text, c.saturating_add.ensures))
