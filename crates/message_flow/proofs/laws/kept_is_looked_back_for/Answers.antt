-- The law, from what assembly and look-back agree on for each key.

use Rattle.message_flow.proofs.Agreement.{agrees-after, firsts-length}
use Rattle.message_flow.proofs.Deadlines.{deadline-kept, due-kept}
use Rattle.message_flow.proofs.laws.kept_is_looked_back_for.Goals as goal

pub returns : goal.returns
returns c = λ receiver entries.
    let agrees = agrees-after receiver entries in
    record {
      last = agrees.last;
      headers = λ header. (agrees.each header).header;
      texts = λ header. (agrees.each header).body;
      checks = λ header. (agrees.each header).check;
      deadlines = λ header. (agrees.each header).deadline_is;
      order = agrees.firsts;
      count = firsts-length _ _ agrees.firsts;
      deadline = deadline-kept receiver entries;
      due = due-kept receiver entries;
    }
