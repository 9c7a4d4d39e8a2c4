-- An alarm that isn't there has the length of its empty item.

use Rattle.std.proofs.Common.{◌≡◌, sym, ◌∙◌, ap, length, None}
use Rattle.std.specs.Option.{option_copied}
use Rattle.secs_items.specs.Measures.{capped}
use Rattle.secs_items.specs.Spelling.{shortest_spelling}
use Rattle.gem_alarms.specs.Alarms.{alarm_in, alarm_item}
use Rattle.gem_alarms.proofs.Spelled.{unknown_long}
use Rattle.gem_alarms.proofs.alarms.Alarms.body_len.Goals as goal

pub returns-in-None : goal.returns-in-None
returns-in-None c =
    let none : alarm_in c.args.self.now c.args.alid ≡ None =
    ap (λ t. alarm_in t c.args.alid) (sym c.self.view_is) ∙ sym c.get.ensures.value ∙ ap option_copied c.in-None.is in
    ap capped (sym (unknown_long c.args.alid))
    ∙ ap (λ o. capped (length (shortest_spelling (alarm_item c.args.alid o)))) (sym none)
