-- The links so far and those of the events that are left.

use Rattle.std.proofs.Common.{◌≡◌, ◌+◌, ◌<◌, ◌^◌}
use Rattle.secs_items.specs.Measures.{capped}
use Rattle.gem_reports.specs.Events.{links_in}
use Rattle.gem_reports.proofs.events.Events.link_count.Given as goal

abbrev pub invariant-loop-event : goal.invariant-loop-event
invariant-loop-event l = record {
  fits : l.count < 2 ^ 64;
  count : capped (l.count + links_in l.event-iterator) ≡ capped (links_in l.self);
}
