use Rattle.spool_works.proofs.WorkedKeeps.{calls-of-keeps, kept-behind-keeps, losses-of-keeps}
use Rattle.spool_works.proofs.laws.worked_keeps.Goals as goal

pub returns-clause-calls : goal.returns-clause-calls
returns-clause-calls c = calls-of-keeps

pub returns-clause-kept : goal.returns-clause-kept
returns-clause-kept c = kept-behind-keeps

pub returns-clause-losses : goal.returns-clause-losses
returns-clause-losses c = losses-of-keeps
