use Rattle.tool_step.proofs.SetupRuns.{is-kept-so, is-not-kept, is-set-up-so}
use Rattle.tool_step.proofs.laws.worked_setups.Goals as goal

pub returns-clause-kept : goal.returns-clause-kept
returns-clause-kept c = is-kept-so

pub returns-clause-refused : goal.returns-clause-refused
returns-clause-refused c = is-not-kept

pub returns-clause-starts : goal.returns-clause-starts
returns-clause-starts c = is-set-up-so
