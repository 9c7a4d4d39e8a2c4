-- The law, by the lemmas of `FiledAnswered`.

use Rattle.gemline_app.proofs.FiledAnswered.{journal_hosts_answered}
use Rattle.gemline_app.proofs.laws.journal_hosts_are_answered.Goals as goal

pub returns : goal.returns
returns c = journal_hosts_answered
