-- The functions outside so far, with those of the functions that are left, are all.

use Rattle.std.proofs.Common.{◌≡◌, ◌++◌, drop, filter}
use Rattle.spool_rule.specs.Rule.{is_outside}
use Rattle.spool_rule.proofs.rule.outside.Given as goal

abbrev pub invariant-loop-function : goal.invariant-loop-function
invariant-loop-function l =
    l.outside ++ filter (is_outside l.stream) (drop l.function-index l.functions)
    ≡ filter (is_outside l.stream) l.functions
