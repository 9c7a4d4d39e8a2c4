-- The runs, computed down to the sum of the frame.

use Rattle.std.proofs.Common.{refl, rules}
use Rattle.line_end.specs.Frames.{block_in, is_frame, sum_cause}
use Rattle.line_end.proofs.laws.worked_runs.Goals as goal

pub returns-clause-carries : goal.returns-clause-carries
unfolding block_in is_frame sum_cause
returns-clause-carries c = record {
  frame = refl;
  block = search rules;
  sender = search rules;
  can_send = search rules;
  receiver = search rules;
  carried = refl;
}

pub returns-clause-yields : goal.returns-clause-yields
unfolding block_in is_frame sum_cause
returns-clause-yields c = record {
  granted = refl;
  ignored = refl;
  arrived = refl;
  acknowledged = refl;
  idle = refl;
  held = refl;
  asks_again = refl;
  sends = refl;
  run = search rules;
  sent = refl;
  early = refl;
  due = refl;
}

pub returns-clause-comes : goal.returns-clause-comes
unfolding block_in is_frame sum_cause
returns-clause-comes c = record { arrived = refl; characters_are = refl }
