-- The events so far have no links.

use Rattle.std.proofs.Common.{◌≡◌, []}
use Rattle.gem_tables.proofs.First.{changed_first}
use Rattle.gem_reports.specs.Events.{with_links}
use Rattle.gem_reports.proofs.events.Events.unlink_all.Given as goal

abbrev pub invariant-loop-i : goal.invariant-loop-i
invariant-loop-i l = l.self-inside.rows.entries ≡ changed_first (with_links []) l.i l.fn.self
