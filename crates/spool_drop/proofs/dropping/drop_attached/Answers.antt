-- The first messages of a file that was recovered are dropped, and one that wasn't gives its end.

use Rattle.std.proofs.Common.{refl, rules, sym}
use Rattle.spool_drop.proofs.Dropped.{dropped, drops-of, not-recovered, stopped}
use Rattle.spool_drop.proofs.dropping.drop_attached.Goals as goal

pub returns-in-Ok-drop_listed-clause-dropped : goal.returns-in-Ok-drop_listed-clause-dropped
returns-in-Ok-drop_listed-clause-dropped g c =
    drops-of _ c.args.count _ _ (search rules) (search rules) (search rules) (search rules) refl
    (dropped _ _ c.in-Ok.spool c.args.count c.in-Ok.ensures c.in-Ok-drop_listed.spool c.in-Ok-drop_listed.few _
    c.write_dropped.result c.in-Ok-drop_listed.ensures c.write_dropped.ensures)

pub returns-in-Err-drop_listed-clause-dropped : goal.returns-in-Err-drop_listed-clause-dropped
returns-in-Err-drop_listed-clause-dropped g c =
    drops-of _ c.args.count _ _ (search rules) (search rules) (search rules) (search rules) refl
    (stopped _ _ c.in-Ok.spool c.args.count c.in-Ok.ensures c.in-Err-drop_listed.spent c.in-Err-drop_listed.ensures)

pub returns-in-Err-clause-dropped : goal.returns-in-Err-clause-dropped
returns-in-Err-clause-dropped g c =
    drops-of _ c.args.count _ _ (search rules) (search rules) (search rules) (search rules) (sym c.end_of-end.ensures)
    (not-recovered _ _ c.args.count _ c.in-Err.ensures)
