-- The entries that are left decide.

use Rattle.std.proofs.Common.{◌≡◌, drop}
use Rattle.gem_vars.specs.Settings.{eac_of}
use Rattle.gem_vars.proofs.vars.Vars.judge_constants.Given as goal

abbrev pub invariant-loop-ecid : goal.invariant-loop-ecid
invariant-loop-ecid l = eac_of l.self (drop l.ecid-index l.list) ≡ eac_of l.self l.list
