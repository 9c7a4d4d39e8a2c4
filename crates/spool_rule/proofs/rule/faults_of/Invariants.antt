-- The refusals so far, with those of the entries that are left, are all.

use Rattle.std.proofs.Common.{◌≡◌, ◌++◌, drop}
use Rattle.std.specs.List.{filter_map}
use Rattle.spool_rule.specs.Rule.{fault_of, faults_of}
use Rattle.spool_rule.proofs.rule.faults_of.Given as goal

abbrev pub invariant-loop-entry : goal.invariant-loop-entry
invariant-loop-entry l = l.faults ++ filter_map fault_of (drop l.entry-index l.entries) ≡ faults_of l.entries
