-- One report more is measured.

use Rattle.std.proofs.Common.{nat_eq, arith}
use Rattle.std.specs.Map.{lookup}
use Rattle.secs_items.proofs.SpelledLengths.{one_item_more}
use Rattle.gem_vars.specs.Tables.{value_in}
use Rattle.gem_reports.specs.Bodies.{report_item}
use Rattle.gem_reports.proofs.standing.Standing.report_items_len.Goals as goal

pub loop-rptid-preserved : goal.loop-rptid-preserved
loop-rptid-preserved c =
    one_item_more (report_item (value_in c.args.vars.now) (λ other. lookup (nat_eq other) c.args.self.now))
    c.args.rptids.now c.loop-rptid.rptid-index 0 c.loop-rptid.len c.report_item_len.result _ (omega arith) c.saturating_add-len.ensures
    c.loop-rptid.invariant c.report_item_len.ensures
