-- The runs, computed: what arrives, what is under way, and where a slip is.

use Rattle.std.proofs.Common.{refl, rules}
use Rattle.line_end.specs.Frames.{block_in, is_frame, sum_cause}
use Rattle.line_order.specs.Worked.{changed_back, one_added, one_changed, one_lost, replaced, restarted, retried, start}
use Rattle.line_order.proofs.Slips.{no_slip}
use Rattle.line_order.proofs.laws.worked_runs.Goals as goal

pub returns-clause-twice : goal.returns-clause-twice
unfolding block_in is_frame sum_cause
returns-clause-twice c = record {
  fits = search rules;
  run = search rules;
  slips_are = no_slip start retried refl;
  given = refl;
  arrived = refl;
  under_way = refl;
  held = refl;
}

pub returns-clause-power : goal.returns-clause-power
unfolding block_in is_frame sum_cause
returns-clause-power c = record {
  run = search rules;
  slips_are = no_slip start restarted refl;
  at_host_are = refl;
  at_equipment_are = refl;
  written = refl;
}

pub returns-clause-slips : goal.returns-clause-slips
unfolding block_in is_frame sum_cause
returns-clause-slips c = record {
  changed = record { run = search rules; before = no_slip start one_changed refl; arrives = refl; slip = refl };
  lost = record { run = search rules; before = no_slip start one_lost refl; arrives = refl; slip = refl };
  added = record { run = search rules; before = no_slip start one_added refl; arrives = refl; slip = refl };
  replaced_is = record { run = search rules; before = no_slip start replaced refl; arrives = refl; slip = refl };
  back = search rules;
  no_slip = no_slip start changed_back refl;
  arrived = refl;
}
