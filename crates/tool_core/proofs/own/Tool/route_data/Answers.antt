-- Off-line it is dropped.
use Rattle.std.proofs.Common.{sym, ap, ◌∙◌, Bool, if◌then◌else◌}
use Rattle.trace_log.specs.Text.{printed_note}
use Rattle.message_end.specs.Parts.{after_turn, on_the_way}
use Rattle.tool_core.specs.Node.{node_of, own_of}
use Rattle.tool_step.specs.Own.{ToolTurn}
use Rattle.tool_step.specs.Reports.{unreported_turn}
use Rattle.tool_step.specs.Sampling.{sampled_text_turn, trace_name}
use Rattle.tool_core.proofs.own.Tool.route_data.Goals as goal

pub returns-then-not-is_online-clause-does : goal.returns-then-not-is_online-clause-does
returns-then-not-is_online-clause-does c =
    ap (λ (t : ToolTurn). after_turn printed_note t (on_the_way (node_of c.args.self.now) c.args.out.now))
    (ap
    (λ (b : Bool). if b then sampled_text_turn c.args.text (own_of c.args.self.now.own) c.args.self.now.core
    else unreported_turn trace_name (own_of c.args.self.now.own))
    (sym c.is_online.ensures ∙ c.if-not-is_online.true))
    ∙ c.in_ok-note_dropped.ensures.notes (node_of c.args.self.now)
