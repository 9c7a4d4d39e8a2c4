-- The law, by the lemmas of `Reporting`.

use Rattle.gem_reports.proofs.Reporting.{defined_same, drack_same, enabled_same, entry_more, erack_same, event_same, known_same, linked_same, lrack_same, stands_at}
use Rattle.gem_reports.proofs.laws.reports_go_by_what_stands.Goals as goal

pub returns : goal.returns
returns c = record {
  next = entry_more;
  at = stands_at;
  drack = drack_same;
  defined = defined_same;
  lrack = lrack_same;
  linked = linked_same;
  erack = erack_same;
  known = known_same;
  enabled = enabled_same;
  event = event_same;
}
