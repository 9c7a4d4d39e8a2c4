use Rattle.tool_spool.proofs.KeptSpool.{works-in-pairs}
use Rattle.tool_spool.proofs.laws.works_are_in_pairs.Goals as goal

pub returns : goal.returns
returns c = works-in-pairs c.tables_are_looked_back_for.ensures
