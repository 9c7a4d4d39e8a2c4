-- The worked keeps, computed.
use Rattle.std.specs.Prelude.{refl}
use Rattle.gate_cell.specs.Cell.{copy_bytes}
use Rattle.spool_works.specs.WorkedKeeps.{CallsOfKeeps, KeptBehindKeeps, LossesOfKeeps}

pub calls-of-keeps : CallsOfKeeps
unfolding copy_bytes
calls-of-keeps = record { keeps = refl; empties = refl; eight = refl; six = refl }

pub kept-behind-keeps : KeptBehindKeeps
kept-behind-keeps = record { one = refl; two = refl; none = refl; purged = refl }

pub losses-of-keeps : LossesOfKeeps
losses-of-keeps = record {
  old = refl;
  new = refl;
  odd = refl;
  even = refl;
  first_odd = refl;
  first_even = refl;
  emptied = refl;
}
