-- With those that are left the tables are as they are to be.

use Rattle.std.proofs.Common.{◌≡◌, drop}
use Rattle.gem_vars.specs.Tables.{with_constants}
use Rattle.gem_vars.proofs.vars.Vars.put_values.Given as goal

abbrev pub invariant-loop-ecid : goal.invariant-loop-ecid
invariant-loop-ecid l =
    with_constants (drop l.ecid-index l.list)
    (record { variables = l.self-inside.variables.entries; constants = l.self-inside.constants.entries })
    ≡ with_constants l.list l.fn.self
