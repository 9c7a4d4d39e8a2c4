-- The reports so far.

use Rattle.std.proofs.Common.{◌≡◌, map, nat_eq, take}
use Rattle.std.specs.Map.{lookup}
use Rattle.gem_vars.specs.Tables.{value_in}
use Rattle.gem_reports.specs.Bodies.{report_item}
use Rattle.gem_reports.proofs.standing.Standing.report_items.Given as goal

abbrev pub invariant-loop-rptid : goal.invariant-loop-rptid
invariant-loop-rptid l =
    l.items ≡ map (report_item (value_in l.vars) (λ other. lookup (nat_eq other) l.self)) (take l.rptid-index l.rptids)
