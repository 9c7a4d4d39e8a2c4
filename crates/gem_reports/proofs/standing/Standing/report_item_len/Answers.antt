-- The lengths of the parts make that of the report.

use Rattle.std.proofs.Common.{[], ◌∷◌, nat_eq, refl, arith}
use Rattle.std.specs.Map.{lookup}
use Rattle.secs_items.specs.Items.{number_item}
use Rattle.gem_vars.specs.Tables.{value_in}
use Rattle.gem_reports.specs.Bodies.{report_body_of}
use Rattle.gem_reports.proofs.Spelled.{report_together}
use Rattle.gem_reports.proofs.standing.Standing.report_item_len.Goals as goal

pub returns : goal.returns
returns c =
    let body = report_body_of (value_in c.args.vars.now) (lookup (nat_eq c.args.rptid) c.args.self.now) in
    c.list_len.ensures (number_item c.args.rptid ∷ body ∷ []) refl
    (omega (arith, report_together c.args.rptid body, c.body_len.ensures, c.saturating_add.ensures))
