-- The refusals so far, with those of the parameters that are left, are all.

use Rattle.std.proofs.Common.{◌≡◌, ℕ, List, drop}
use Rattle.gem_remote.specs.Commands.{AreRefusals, Param, params_item}
use Rattle.gem_remote.proofs.Refusing.{Completes}
use Rattle.gem_remote.proofs.remote.refusals_of.Given as goal

abbrev pub invariant-loop-param : goal.invariant-loop-param
invariant-loop-param l =
    (all : List Param) → l.fn.params ≡ params_item all → (rest : List (List ℕ × ℕ))
    → AreRefusals l.command.params (drop l.param-index all) rest → Completes l.command.params all l.refusals rest
