-- Without communication it is dropped.
use Rattle.std.proofs.Common.{sym, ap, ◌∙◌}
use Rattle.trace_log.specs.Text.{printed_note}
use Rattle.message_end.specs.Parts.{after_turn, on_the_way}
use Rattle.tool_core.specs.Node.{node_of, own_of}
use Rattle.tool_step.specs.Own.{ToolTurn}
use Rattle.tool_core.proofs.Traced.{dropped_here}
use Rattle.tool_core.proofs.own.Tool.route_online.Goals as goal

pub returns-in_ok-note_dropped-in-Body-clause-does : goal.returns-in_ok-note_dropped-in-Body-clause-does
returns-in_ok-note_dropped-in-Body-clause-does c =
    ap (λ (t : ToolTurn). after_turn printed_note t (on_the_way (node_of c.args.self.now) c.args.out.now))
    (dropped_here c.args.text c.in-Body.body (own_of c.args.self.now.own) c.args.self.now.core c.in-Body.is
    (sym c.is_communicating.ensures ∙ c.if-is_communicating.false))
    ∙ c.in_ok-note_dropped-in-Body.ensures.notes (node_of c.args.self.now)
