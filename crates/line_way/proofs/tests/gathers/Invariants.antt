use Rattle.std.proofs.Common.{◌≤◌, ◌+◌}
use Rattle.line_way.proofs.tests.gathers.Given as goal

abbrev pub invariant-characters : goal.invariant-characters
invariant-characters l = l.ways.written ≤ l.fn.ways.written + l.counter
