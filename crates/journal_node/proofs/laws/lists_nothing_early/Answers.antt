use Rattle.journal_node.proofs.EarlyNotes.{lists-nothing-early}
use Rattle.journal_node.proofs.laws.lists_nothing_early.Goals as goal

pub returns : goal.returns
returns c = lists-nothing-early
