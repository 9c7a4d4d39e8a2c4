use Rattle.tool_spool.proofs.SetupCourse.{setup-is-kept}
use Rattle.tool_spool.proofs.laws.setup_is_kept.Goals as goal

pub returns : goal.returns
returns c = setup-is-kept c.tables_are_looked_back_for.ensures c.lists_are_read_as_spelled.ensures
