-- The number and the length of the values so far.

use Rattle.gem_vars.specs.Tables.{value_in}
use Rattle.gem_reports.proofs.Spelled.{IsMeasured}
use Rattle.gem_reports.proofs.lengths.values_len.Given as goal

abbrev pub invariant-loop-vid : goal.invariant-loop-vid
invariant-loop-vid l = IsMeasured (value_in l.vars) l.vids l.vid-index l.count l.len
