-- The draft gives the answer.

use Rattle.std.proofs.Common.{sym, subst}
use Rattle.gem_reports.specs.Tables.{StandsFor}
use Rattle.gem_reports.proofs.reports.Reports.judge_define.Goals as goal

pub returns : goal.returns
returns c = λ events past stands.
    let inside = subst (λ v. StandsFor v events past) (sym c.self.view_is) stands in
    c.enter_each.ensures.answer past past (c.new.ensures past inside.standing)
