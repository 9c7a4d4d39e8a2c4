use Rattle.spool_works.proofs.WorkedCalls.{calls-of-long-works, calls-of-works, kept-behind-works, losses-of-works}
use Rattle.spool_works.proofs.laws.worked_calls.Goals as goal

pub returns-clause-calls : goal.returns-clause-calls
returns-clause-calls c = calls-of-works

pub returns-clause-kept : goal.returns-clause-kept
returns-clause-kept c = kept-behind-works

pub returns-clause-losses : goal.returns-clause-losses
returns-clause-losses c = losses-of-works

pub returns-clause-long : goal.returns-clause-long
returns-clause-long c = calls-of-long-works
