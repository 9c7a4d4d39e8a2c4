use Rattle.std.proofs.Common.{sym, ap, ◌∙◌, ℕ, Bool}
use Rattle.std.proofs.lemmas.Result.{err_from_is_err_and}
use Rattle.trace_log.specs.Text.{printed_note}
use Rattle.message_end.specs.Parts.{after_turn, on_the_way}
use Rattle.equipment_tables.specs.Answers.{alarm_item_of, spelled_body}
use Rattle.tool_core.specs.Node.{node_of, own_of}
use Rattle.tool_step.specs.Own.{OwnView, ToolTurn}
use Rattle.tool_step.specs.Sent.{alarm_report, going_turn, text_of}
use Rattle.tool_step.specs.Tool.{alarm_report_turn}
use Rattle.tool_core.proofs.Commanded.{alarm_none, alarm_stops}
use Rattle.tool_core.proofs.Texts.{off_line}
use Rattle.tool_core.proofs.own.Tool.report_alarm.Goals as goal

pub returns-then-not-is_online-clause-does : goal.returns-then-not-is_online-clause-does
returns-then-not-is_online-clause-does c =
    let own : OwnView = own_of c.args.self.now.own in
    ap (λ (t : ToolTurn). after_turn printed_note t (on_the_way (node_of c.args.self.now) c.args.out.now))
    (ap (λ (enabled : Bool). alarm_report_turn enabled c.args.alid own c.args.self.now.core) c.if-not-enabled.false
    ∙ off_line alarm_report (λ message. going_turn message own c.args.self.now.core)
    (text_of own (alarm_item_of own.tables c.args.alid)) own
    (sym c.is_online.ensures ∙ c.if-not-is_online.true))
    ∙ c.in_ok-note_dropped.ensures.notes (node_of c.args.self.now)

pub returns-in_err-body-clause-does : goal.returns-in_err-body-clause-does
returns-in_err-body-clause-does c =
    let p = err_from_is_err_and c.from_residual-in_err-body.result c.from_residual-in_err-body.ensures.1 in
    let own : OwnView = own_of c.args.self.now.own in
    rw (p.1, p.2)
    (alarm_stops c.args.enabled c.args.alid c.in_ok-text.text (node_of c.args.self.now)
    (node_of c.route_text.new.self) c.args.out.now c.route_text.new.out _ c.if-not-enabled.false
    (c.in_ok-text.ensures.body
    ∙ ap (λ (most : ℕ). spelled_body most (alarm_item_of own.tables c.args.alid)) c.max_body-max_body.ensures.value)
    c.in_err-body.ensures.judged)

pub returns-in-None-clause-does : goal.returns-in-None-clause-does
returns-in-None-clause-does c =
    let own : OwnView = own_of c.args.self.now.own in
    alarm_none c.args.enabled c.args.alid c.in_ok-text.text c.in_ok-body.field-0 (node_of c.args.self.now)
    (node_of c.route_text.new.self) c.args.out.now c.route_text.new.out c.if-not-enabled.false
    (c.in_ok-text.ensures.body
    ∙ ap (λ (most : ℕ). spelled_body most (alarm_item_of own.tables c.args.alid)) c.max_body-max_body.ensures.value)
    c.in_ok-body.ensures.judged c.in-None.is
