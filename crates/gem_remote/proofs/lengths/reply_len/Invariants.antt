-- The refusals so far have been measured.

use Rattle.std.proofs.Common.{◌≡◌, ◌≤◌, List}
use Rattle.gem_remote.specs.Commands.{Param, params_item}
use Rattle.gem_remote.proofs.Measured.{AreMeasured}
use Rattle.gem_remote.proofs.lengths.reply_len.Given as goal

abbrev pub invariant-loop-param : goal.invariant-loop-param
invariant-loop-param l = record {
  few : l.count ≤ l.param-index;
  sizes :
      (all : List Param) → l.fn.params ≡ params_item all
      → AreMeasured l.command.params all l.param-index l.count l.len;
}
