use Rattle.tool_spool.proofs.KeptSpool.{messages-leave-in-step}
use Rattle.tool_spool.proofs.laws.messages_leave_in_step.Goals as goal

pub returns : goal.returns
returns c = messages-leave-in-step c.tables_are_looked_back_for.ensures
