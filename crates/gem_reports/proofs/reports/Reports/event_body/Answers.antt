-- The body that is kept is that of the history.

use Rattle.std.proofs.Common.{◌≡◌, subst, IfOk}
use Rattle.secs_items.specs.declared.item.Item.{Item}
use Rattle.gem_vars.specs.Tables.{value_in}
use Rattle.gem_reports.proofs.Kept.{kept_event}
use Rattle.gem_reports.proofs.reports.Reports.event_body.Goals as goal

pub returns : goal.returns
returns c = λ events past stands.
    subst (λ (item : Item). IfOk c.kept_event_body.result (λ body. body ≡ item))
    (kept_event (value_in c.args.vars.now) c.args.self.now events past c.args.ceid c.args.dataid stands)
    c.kept_event_body.ensures
