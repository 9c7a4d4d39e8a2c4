-- A spool that was recovered is shown, and one that wasn't gives its end.

use Rattle.std.proofs.Common.{refl, rules, sym}
use Rattle.spool_show.proofs.SpoolFiles.{not_recovered, shows_recovered, shows_same}
use Rattle.spool_show.proofs.listing.show_attached.Goals as goal

pub returns-in-Ok-clause-shown : goal.returns-in-Ok-clause-shown
returns-in-Ok-clause-shown g c =
    shows_same _ (search rules) (search rules) (search rules) (search rules) (search rules) refl
    (shows_recovered _ _ _ _ c.in-Ok.ensures c.show_list-end.ensures.read c.show_list-end.ensures.shown)

pub returns-in-Err-clause-shown : goal.returns-in-Err-clause-shown
returns-in-Err-clause-shown g c =
    shows_same _ (search rules) (search rules) (search rules) (search rules) (search rules) (sym c.end_of-end.ensures)
    (not_recovered _ _ _ c.in-Err.ensures)
