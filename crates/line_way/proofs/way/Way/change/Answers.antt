-- The character at a place is another one, or none is there and nothing changes.

use Rattle.std.proofs.Common.{List, ap, sym, rules}
use Rattle.line_way.specs.declared.character.Character.{Character}
use Rattle.line_way.specs.Ways.{Way}
use Rattle.line_way.proofs.Changes.{none_is, set_is}
use Rattle.line_way.proofs.way.Way.change.Goals.{in-Some, in_default}
use Rattle.line_way.proofs.way.Way.change.Goals as goal

pub returns : goal.returns
returns c =
    let way : List Character → Way = λ characters. record { under_way = characters; gathered = c.self.inside.gathered } in
    elim c.match-get_mut.branch [
      | in-Some w ↦ rw (← c.self.view_is, w.self-inside-is) (ap way (set_is c.args.place c.args.byte c.self.inside.under_way.items w.in-Some.character.now (search rules) (search rules)))
      | in_default w ↦ rw (← c.self.view_is, w.self-inside-is) (sym (ap way (none_is c.args.place c.args.byte c.self.inside.under_way.items (search rules))))
    ]
