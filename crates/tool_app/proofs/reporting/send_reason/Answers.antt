-- The first part is sent and the others behind it, or it was cut off.

use Rattle.gl_base.specs.declared.copying.SinkAnswer.TheVariants.{Failed}
use Rattle.gl_base.proofs.Appending.{copies_behind, cut_before}
use Rattle.tool_app.proofs.reporting.send_reason.Goals as goal

pub returns-in-Done : goal.returns-in-Done
returns-in-Done g c =
    let sent = c.send_end.ensures in
    (sent.0, copies_behind _ _ _ _ sent.0 c.in-Done.ensures sent.1)

pub returns-in-Failed : goal.returns-in-Failed
returns-in-Failed g c = (Failed, cut_before _ _ c.in-Failed.ensures)
