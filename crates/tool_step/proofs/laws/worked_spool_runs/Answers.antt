use Rattle.tool_step.proofs.SpoolRuns.{full-spools, loses-in-order, puts-the-last, spooling-begins, unloads-in-order}
use Rattle.tool_step.proofs.laws.worked_spool_runs.Goals as goal

pub returns-clause-begins : goal.returns-clause-begins
returns-clause-begins c = spooling-begins

pub returns-clause-full : goal.returns-clause-full
returns-clause-full c = full-spools

pub returns-clause-unloads : goal.returns-clause-unloads
returns-clause-unloads c = unloads-in-order

pub returns-clause-loses : goal.returns-clause-loses
returns-clause-loses c = loses-in-order

pub returns-clause-last : goal.returns-clause-last
returns-clause-last c = puts-the-last
