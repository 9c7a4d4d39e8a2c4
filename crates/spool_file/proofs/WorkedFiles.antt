-- Files worked by computing.
use Rattle.std.proofs.Common.{List, ℕ, refl}
use Rattle.gate_cell.specs.Cell.{copy_of}
use Rattle.spool_file.specs.Format.{first_page}
use Rattle.spool_file.specs.Front.{front_break, magic_break}
use Rattle.spool_file.specs.Sizes.{slots_for}
use Rattle.spool_file.specs.Worked.{BodiesAreAsWorked, FilesAreAsWorked, FrontsAreAsWorked, SizesAreAsWorked}
use Rattle.spool_file.specs.Worked.{SlotsAreAsWorked}

fronts : FrontsAreAsWorked
unfolding front_break magic_break copy_of first_page
fronts = record {
  one = refl;
  two = refl;
  upgrading = refl;
  odd = refl;
  even = refl;
  letter = refl;
  name = refl;
  short = refl;
  none = refl;
  small = refl;
  made = refl;
}

sizes : SizesAreAsWorked
unfolding slots_for
sizes = record {
  empty = refl;
  one = refl;
  more = refl;
  three = refl;
  most = refl;
  first = refl;
  narrow = refl;
  wide = refl;
  whole = refl;
  over = refl;
}

slots : SlotsAreAsWorked
unfolding slots_for
slots = record {
  gap_one = refl;
  gap_two = refl;
  pair = refl;
  long = refl;
  chains = refl;
  sum = refl;
  end = refl;
  behind = refl;
  wraps = refl;
  numbers = refl;
  used = refl;
}

bodies : (a b c : List ℕ) → BodiesAreAsWorked a b c
unfolding slots_for
bodies a b c = record { wraps = refl }

pub as_worked : FilesAreAsWorked
as_worked = record { fronts = fronts; sizes = sizes; slots = slots; bodies = bodies }
