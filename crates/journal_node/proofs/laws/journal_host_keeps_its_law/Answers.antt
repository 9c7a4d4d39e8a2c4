use Rattle.journal_node.proofs.Lawful.{journal_lawful}
use Rattle.journal_node.proofs.laws.journal_host_keeps_its_law.Goals as goal

pub returns : goal.returns
returns c = journal_lawful
