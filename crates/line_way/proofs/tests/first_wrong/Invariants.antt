use Rattle.std.proofs.Common.{◌≤◌, ◌+◌, ◌*◌}
use Rattle.line_way.proofs.tests.first_wrong.Given as goal

abbrev pub invariant-calls : goal.invariant-calls
invariant-calls l = l.ways.written ≤ l.fn.ways.written + 255 * l.call-index
