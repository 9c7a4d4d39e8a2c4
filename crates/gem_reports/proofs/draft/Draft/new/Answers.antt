-- Nothing is changed yet.

use Rattle.gem_reports.proofs.Entering.{drafted}
use Rattle.gem_reports.proofs.draft.Draft.new.Goals as goal

pub returns : goal.returns
returns c = λ past has.
    drafted c.args.standing.now _ _ _ past has c.new.ensures.empty c.len.ensures c.new-2.ensures.empty
