-- The copies so far.

use Rattle.std.proofs.Common.{◌≡◌, take}
use Rattle.gem_remote.proofs.plan.RemotePlan.copy.Given as goal

abbrev pub invariant-loop-command : goal.invariant-loop-command
invariant-loop-command l = l.commands ≡ take l.command-index l.command-items
