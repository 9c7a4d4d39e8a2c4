-- The first part is sent and the others behind it, or it was cut off.

use Rattle.std.proofs.Common.{ℕ, List, ◌++◌, subst}
use Rattle.gl_base.specs.Sending.{Sends, WroteShort}
use Rattle.gl_base.specs.Told.{sink_told}
use Rattle.gl_base.specs.declared.copying.SinkAnswer.TheVariants.{Failed}
use Rattle.gl_base.proofs.Appending.{copies_behind, cut_before}
use Rattle.tool_app.specs.Outcome.{detail_of, end_of, reason_text}
use Rattle.tool_app.proofs.reporting.send_name.Goals as goal

pub returns-in-Done : goal.returns-in-Done
returns-in-Done g c =
    let o = c.args.outcome.now in
    let sent = c.send_detail.ensures in (
      sent.0,
      subst
          (λ (text : List ℕ).
          Sends (sink_told g.E.Sink c.args.err.now c.send_detail.new.err) (text ++ (detail_of o ++ (reason_text c.args.reason.now ++ end_of o))) sent.0)
          c.name_of.ensures (copies_behind _ _ _ _ sent.0 c.in-Done.ensures sent.1),
    )

pub returns-in-Failed : goal.returns-in-Failed
returns-in-Failed g c =
    let o = c.args.outcome.now in (
      Failed,
      subst (λ (text : List ℕ). WroteShort (sink_told g.E.Sink c.args.err.now c.copy_out.new.out) (text ++ (detail_of o ++ (reason_text c.args.reason.now ++ end_of o))))
          c.name_of.ensures (cut_before _ _ c.in-Failed.ensures),
    )
