-- The events so far.

use Rattle.std.proofs.Common.{◌≡◌, take, []}
use Rattle.gem_reports.specs.Events.{events_at}
use Rattle.gem_reports.proofs.events.Events.new.Given as goal

abbrev pub invariant-loop-ceid : goal.invariant-loop-ceid
invariant-loop-ceid l = l.rows.entries ≡ events_at (take l.ceid-index l.ceids) []
