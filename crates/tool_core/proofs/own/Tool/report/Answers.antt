use Rattle.std.proofs.Common.{sym, ap, ◌∙◌, ℕ}
use Rattle.std.proofs.lemmas.Result.{err_from_is_err_and}
use Rattle.trace_log.specs.Text.{printed_note}
use Rattle.message_end.specs.Parts.{after_turn, on_the_way}
use Rattle.equipment_tables.specs.Answers.{event_item, spelled_body}
use Rattle.tool_core.specs.Node.{node_of, own_of}
use Rattle.tool_step.specs.Own.{OwnView, ToolTurn, event_report}
use Rattle.tool_step.specs.Sent.{event_turn, text_of}
use Rattle.tool_core.proofs.Commanded.{judged_none, judged_sent}
use Rattle.tool_core.proofs.Judging.{judged_stops}
use Rattle.tool_core.proofs.Texts.{off_line}
use Rattle.tool_core.proofs.own.Tool.report.Goals as goal

pub returns-then-not-is_online-clause-does : goal.returns-then-not-is_online-clause-does
returns-then-not-is_online-clause-does c =
    let own : OwnView = own_of c.args.self.now.own in
    ap (λ (t : ToolTurn). after_turn printed_note t (on_the_way (node_of c.args.self.now) c.args.out.now))
    (off_line event_report (λ message. event_turn c.args.dataid message.body own c.args.self.now.core)
    (text_of own (event_item own.tables c.args.ceid c.args.dataid)) own
    (sym c.is_online.ensures ∙ c.if-not-is_online.true))
    ∙ c.in_ok-note_dropped.ensures.notes (node_of c.args.self.now)

pub returns-in_err-body-clause-does : goal.returns-in_err-body-clause-does
returns-in_err-body-clause-does c =
    let p = err_from_is_err_and c.from_residual-in_err-body.result c.from_residual-in_err-body.ensures.1 in
    let own : OwnView = own_of c.args.self.now.own in
    rw (p.1, p.2)
    (judged_stops event_report (λ message. event_turn c.args.dataid message.body own c.args.self.now.core)
    c.in_ok-text.text (text_of own (event_item own.tables c.args.ceid c.args.dataid)) (node_of c.args.self.now)
    (node_of c.route_text.new.self) c.args.out.now c.route_text.new.out _
    (c.in_ok-text.ensures.body
    ∙ ap (λ (most : ℕ). spelled_body most (event_item own.tables c.args.ceid c.args.dataid))
    c.max_body-max_body.ensures.value)
    c.in_err-body.ensures.judged)

pub returns-in-Some-clause-does : goal.returns-in-Some-clause-does
returns-in-Some-clause-does c =
    let own : OwnView = own_of c.args.self.now.own in
    judged_sent event_report (λ message. event_turn c.args.dataid message.body) c.in_ok-text.text
    (text_of own (event_item own.tables c.args.ceid c.args.dataid)) c.in_ok-body.field-0 c.in-Some.body
    (node_of c.args.self.now) (node_of c.route_text.new.self) (node_of c.report_event.new.self) c.args.out.now
    c.route_text.new.out c.report_event.new.out c.report_event.result
    (c.in_ok-text.ensures.body
    ∙ ap (λ (most : ℕ). spelled_body most (event_item own.tables c.args.ceid c.args.dataid))
    c.max_body-max_body.ensures.value)
    c.in_ok-body.ensures.judged c.in-Some.is c.report_event.ensures.does

pub returns-in-None-clause-does : goal.returns-in-None-clause-does
returns-in-None-clause-does c =
    let own : OwnView = own_of c.args.self.now.own in
    judged_none event_report (λ message. event_turn c.args.dataid message.body own c.args.self.now.core)
    c.in_ok-text.text (text_of own (event_item own.tables c.args.ceid c.args.dataid)) c.in_ok-body.field-0
    (node_of c.args.self.now) (node_of c.route_text.new.self) c.args.out.now c.route_text.new.out
    (c.in_ok-text.ensures.body
    ∙ ap (λ (most : ℕ). spelled_body most (event_item own.tables c.args.ceid c.args.dataid))
    c.max_body-max_body.ensures.value)
    c.in_ok-body.ensures.judged c.in-None.is
