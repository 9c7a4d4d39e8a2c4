use Rattle.tool_spool.proofs.KeptSpool.{overwrites-for-puts}
use Rattle.tool_spool.proofs.laws.overwrites_for_puts.Goals as goal

pub returns : goal.returns
returns c = overwrites-for-puts c.tables_are_looked_back_for.ensures
