-- The secondaries so far, with those of the functions that are left, are all.

use Rattle.std.proofs.Common.{◌≡◌, ◌++◌, drop, filter}
use Rattle.spool_rule.specs.Rule.{is_secondary}
use Rattle.spool_rule.proofs.rule.secondaries.Given as goal

abbrev pub invariant-loop-function : goal.invariant-loop-function
invariant-loop-function l =
    l.secondaries ++ filter is_secondary (drop l.function-index l.functions) ≡ filter is_secondary l.functions
