use Rattle.tool_law.proofs.SpentCauses.{draws-few, spent-by-cause}
use Rattle.tool_law.proofs.laws.steps_are_spent_by_cause.Goals as goal

pub returns-clause-draws : goal.returns-clause-draws
returns-clause-draws c = draws-few

pub returns-clause-cause : goal.returns-clause-cause
returns-clause-cause c = spent-by-cause
