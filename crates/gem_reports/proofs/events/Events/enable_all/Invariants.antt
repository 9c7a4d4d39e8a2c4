-- The events so far are enabled, or disabled.

use Rattle.std.proofs.Common.{◌≡◌}
use Rattle.gem_tables.proofs.First.{changed_first}
use Rattle.gem_reports.specs.Events.{with_enabled}
use Rattle.gem_reports.proofs.events.Events.enable_all.Given as goal

abbrev pub invariant-loop-i : goal.invariant-loop-i
invariant-loop-i l = l.self-inside.rows.entries ≡ changed_first (with_enabled l.on) l.i l.fn.self
