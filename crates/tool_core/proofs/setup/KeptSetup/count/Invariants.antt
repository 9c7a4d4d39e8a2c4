-- So many entries were counted, and the rest is left.
use Rattle.std.proofs.Common.{length}
use Rattle.tool_core.proofs.KeptLists.{IsCounted}
use Rattle.tool_core.proofs.setup.KeptSetup.count.Given as goal

abbrev pub invariant-entries : goal.invariant-entries
invariant-entries l = IsCounted l.self l.count l.rest

abbrev pub decreases-entries : goal.decreases-entries
decreases-entries l = length l.rest
