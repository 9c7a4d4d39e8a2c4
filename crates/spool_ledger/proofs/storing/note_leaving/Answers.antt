-- Whatever room is made for isn't printed.

use Rattle.std.proofs.Common.{rules, append_assoc}
use Rattle.spool_ledger.proofs.storing.note_leaving.Goals as goal

pub returns-clause-notes : goal.returns-clause-notes
returns-clause-notes c = λ for_one. let leaving = c.in_ok-leaving_note.ensures for_one in search (rules, append_assoc)
