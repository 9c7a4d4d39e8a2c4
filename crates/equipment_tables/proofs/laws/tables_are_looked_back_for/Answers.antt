-- The law, entry by entry, from those of variables, reports, alarms and the spool's rule.

use Rattle.std.proofs.Common.{refl, []}
use Rattle.equipment_tables.specs.Past.{entries_at, spooled_by}
use Rattle.equipment_tables.proofs.Past.{entry_same}
use Rattle.equipment_tables.proofs.laws.tables_are_looked_back_for.Goals as goal

pub returns : goal.returns
returns c = record {
  first = λ plan. refl;
  next = λ plan past entry fits.
      entry_same c.vars_are_looked_back_for.ensures c.reports_go_by_what_stands.ensures
      c.alarms_are_looked_back_for.ensures plan fits past entry;
  covers_as_named = λ plan past stream function.
      c.the_rule_is_looked_back_for.ensures.covers_as_named (spooled_by plan (entries_at plan past)) [] stream function;
}
