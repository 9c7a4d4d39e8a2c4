use Rattle.journal_node.proofs.Worked.{before-replies, three-kinds, until-full, whole-records}
use Rattle.journal_node.proofs.laws.worked_journals.Goals as goal

pub returns-clause-kinds : goal.returns-clause-kinds
returns-clause-kinds c = three-kinds

pub returns-clause-full : goal.returns-clause-full
returns-clause-full c = until-full

pub returns-clause-losses : goal.returns-clause-losses
returns-clause-losses c = whole-records

pub returns-clause-replies : goal.returns-clause-replies
returns-clause-replies c = before-replies
