-- Those that were named so far are enabled, or disabled.

use Rattle.std.proofs.Common.{◌≡◌, take}
use Rattle.gem_tables.specs.Rows.{with_each}
use Rattle.gem_reports.proofs.Rows.{enabled_so_far}
use Rattle.gem_reports.proofs.events.Events.enable_each.Given as goal

abbrev pub invariant-loop-ceid : goal.invariant-loop-ceid
invariant-loop-ceid l =
    l.self ≡ with_each (enabled_so_far l.on (take l.ceid-index l.ceids)) l.fn.self
