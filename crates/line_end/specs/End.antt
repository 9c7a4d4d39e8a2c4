-- What contracts see of an end.
use Rattle.line_end.specs.declared.end.LineEnd.TheInside.{Inside}
use Rattle.line_end.specs.State.{LineState}

-- the state that the fields are
abbrev pub state_of : Inside → LineState
state_of end = record {
  side = end.side;
  times = end.times;
  phase = end.phase;
  held = end.held;
  try_number = end.try_number;
  gathered = end.gathered.items;
  cause = end.cause;
  deadline = end.deadline;
}
