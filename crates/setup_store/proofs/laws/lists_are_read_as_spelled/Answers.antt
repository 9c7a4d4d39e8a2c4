-- The law, by the lemmas of `ReadLists`, `Breaks` and `KeptEntries`.

use Rattle.std.proofs.Common.{length, arith}
use Rattle.setup_store.proofs.Breaks.{broken_there}
use Rattle.setup_store.proofs.KeptEntries.{stay_entries}
use Rattle.setup_store.proofs.ReadLists.{read_as_spelled, spelled_so}
use Rattle.setup_store.proofs.laws.lists_are_read_as_spelled.Goals as goal

pub returns : goal.returns
returns c = record {
  read = read_as_spelled;
  spelled = λ entries bytes are read. spelled_so (length bytes) (length bytes) bytes entries are (omega arith) read;
  broken = broken_there;
  stay = stay_entries;
}
