-- The worked examples, computed.
use Rattle.std.proofs.Common.{◌≡◌, refl}
use Rattle.gate_cell.specs.Cell.{copy_bytes}
use Rattle.spool_file.specs.Sizes.{slots_for}
use Rattle.spool_law.specs.Listing.Owed.{Nothing, ToList}
use Rattle.trace_log.specs.Names.{Record}
use Rattle.journal_node.specs.Worked.{ListsBeforeReplies, ListsThreeKinds, ListsUntilFull, LosesWholeRecords}

pub three-kinds : ListsThreeKinds
three-kinds = record {
  alarm = refl;
  report = refl;
  terminal = refl;
  unasked = refl;
  traced = refl;
  asking = refl;
  reply = refl;
  nothing = refl;
}

pub until-full : ListsUntilFull
unfolding slots_for
until-full = record {
  first = refl;
  third = refl;
  fourth = refl;
  full = refl;
  long_one = refl;
  next = refl;
  longest = refl;
  too_long = refl;
  spent = refl;
  both = refl;
}

pub whole-records : LosesWholeRecords
unfolding copy_bytes slots_for
whole-records = record { old = refl; new = refl; opens = refl; stays = refl; noted = refl; reserved = refl }

owed-none : (listed : Record) → ToList listed ≡ Nothing → ⊥
owed-none listed is = cc

pub before-replies : ListsBeforeReplies
before-replies = record {
  behind = λ block. (refl, (refl, (refl, (refl, tt))));
  before = λ block is. owed-none _ is.1.1.0;
  never = λ is. owed-none _ is.0;
}
