-- The first is sent and the second behind it, or it was cut off.

use Rattle.gl_base.proofs.Appending.{copies_behind, cut_before}
use Rattle.tool_app.proofs.reporting.copy_both.Goals as goal

pub returns-in-Done : goal.returns-in-Done
returns-in-Done g c = copies_behind _ _ _ _ _ c.in-Done.ensures c.copy_out-in-Done.ensures

pub returns-in-Failed : goal.returns-in-Failed
returns-in-Failed g c = cut_before _ _ c.in-Failed.ensures
