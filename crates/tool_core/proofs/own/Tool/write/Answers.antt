use Rattle.std.proofs.Common.{sym, ap, subst, ◌∙◌}
use Rattle.trace_log.specs.Text.{printed_note}
use Rattle.message_end.specs.Parts.{Takes, after_turn, on_the_way}
use Rattle.equipment_tables.specs.declared.answers.Answer.{Answer}
use Rattle.tool_core.specs.Node.{node_of, own_of}
use Rattle.tool_step.specs.Own.{OwnView, ToolTurn}
use Rattle.tool_step.specs.Reports.{report_turn}
use Rattle.tool_step.specs.Sent.{going_turn, terminal_item, terminal_report, text_of}
use Rattle.tool_core.proofs.Texts.{off_line}
use Rattle.tool_core.proofs.own.Tool.write.Goals as goal

pub returns-then-not-is_online-clause-does : goal.returns-then-not-is_online-clause-does
returns-then-not-is_online-clause-does c =
    let own : OwnView = own_of c.args.self.now.own in
    ap (λ (t : ToolTurn). after_turn printed_note t (on_the_way (node_of c.args.self.now) c.args.out.now))
    (off_line terminal_report (λ message. going_turn message own c.args.self.now.core)
    (text_of own (terminal_item c.args.tid c.args.text.now)) own
    (sym c.is_online.ensures ∙ c.if-not-is_online.true))
    ∙ c.in_ok-note_dropped.ensures.notes (node_of c.args.self.now)

pub returns-clause-does : goal.returns-clause-does
returns-clause-does c =
    let own : OwnView = own_of c.args.self.now.own in
    subst
    (λ (t : ToolTurn).
    Takes t (node_of c.args.self.now) c.args.out.now (node_of c.send_terminal.new.self) c.send_terminal.new.out
    c.send_terminal.result)
    (ap (λ (t : Answer). report_turn terminal_report t own c.args.self.now.core) c.in_ok-text.ensures.text)
    c.send_terminal.ensures.does
