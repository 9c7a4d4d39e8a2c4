use Rattle.tool_spool.proofs.KeptSpool.{spool-is-kept, spool-is-kept-from}
use Rattle.tool_spool.proofs.laws.spool_is_kept.Goals as goal

pub returns-clause-notes : goal.returns-clause-notes
returns-clause-notes c = spool-is-kept c.tables_are_looked_back_for.ensures

pub returns-clause-held : goal.returns-clause-held
returns-clause-held c = spool-is-kept-from c.tables_are_looked_back_for.ensures
