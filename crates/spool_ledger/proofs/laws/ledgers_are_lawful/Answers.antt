-- The law, by the lemmas of `Following` and `Keeping`.

use Rattle.spool_ledger.proofs.Following.{calls_come}
use Rattle.spool_ledger.proofs.Keeping.{keeps_all, makes_room}
use Rattle.spool_ledger.proofs.laws.ledgers_are_lawful.Goals as goal

pub returns : goal.returns
returns c = record { keeps = calls_come; makes_room = makes_room; keeps_all = keeps_all }
