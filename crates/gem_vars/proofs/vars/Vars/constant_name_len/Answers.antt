-- A constant that isn't there has the length of its empty row.

use Rattle.std.proofs.Common.{◌≡◌, sym, ◌∙◌, ap, length, None}
use Rattle.std.specs.Option.{option_copied}
use Rattle.secs_items.specs.Measures.{capped}
use Rattle.secs_items.specs.Spelling.{shortest_spelling}
use Rattle.gem_vars.specs.Listing.{limits_row}
use Rattle.gem_vars.specs.Tables.{constant_row_in}
use Rattle.gem_vars.proofs.Sizes.{unknown_limits_long}
use Rattle.gem_vars.proofs.vars.Vars.constant_name_len.Goals as goal

pub returns-in-None : goal.returns-in-None
returns-in-None c =
    let none : constant_row_in c.args.self.now c.args.ecid ≡ None =
    ap (λ t. constant_row_in t c.args.ecid) (sym c.self.view_is) ∙ sym c.get.ensures.value
    ∙ ap option_copied c.in-None.is in
    ap capped (sym (unknown_limits_long c.args.ecid))
    ∙ ap (λ o. capped (length (shortest_spelling (limits_row c.args.ecid o)))) (sym none)
