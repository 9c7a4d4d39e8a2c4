use Rattle.tool_spool.proofs.TriedRuns.{runs-in-turn}
use Rattle.tool_spool.proofs.laws.runs_try_in_turn.Goals as goal

pub returns : goal.returns
returns c = runs-in-turn c.equipment_keeps_the_law.ensures
