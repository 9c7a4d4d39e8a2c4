-- The copies so far and those of the events that are left.

use Rattle.std.proofs.Common.{◌≡◌, ◌++◌}
use Rattle.gem_tables.specs.Rows.{with_each}
use Rattle.gem_reports.specs.Events.{without}
use Rattle.gem_reports.proofs.events.Events.without.Given as goal

abbrev pub invariant-loop-ceid : goal.invariant-loop-ceid
invariant-loop-ceid l =
    l.rows.entries ++ with_each (without l.rptids.keys) l.ceid-iterator ≡ with_each (without l.rptids.keys) l.self
