use Rattle.std.proofs.Common.{refl, subst}
use Rattle.std.proofs.lemmas.Result.{err_from_is_err_and}
use Rattle.trace_log.specs.Names.{Spooled}
use Rattle.message_end.specs.Parts.{Takes}
use Rattle.tool_core.specs.Node.{node_of, own_of}
use Rattle.tool_step.specs.Own.{OwnView}
use Rattle.tool_step.specs.Sent.{going_turn, terminal_report}
use Rattle.tool_core.proofs.Commanded.{judged_none, judged_sent}
use Rattle.tool_core.proofs.Judging.{judged_stops}
use Rattle.tool_core.proofs.own.Tool.send_terminal.Goals as goal

pub returns-in_err-body-clause-does : goal.returns-in_err-body-clause-does
returns-in_err-body-clause-does c =
    let p = err_from_is_err_and c.from_residual.result c.from_residual.ensures.1 in
    let own : OwnView = own_of c.args.self.now.own in
    rw (p.1, p.2)
    (judged_stops terminal_report (λ message. going_turn message own c.args.self.now.core) c.args.text c.args.text
    (node_of c.args.self.now) (node_of c.route_text.new.self) c.args.out.now c.route_text.new.out _ refl
    c.in_err-body.ensures.judged)

pub returns-in-Some-clause-does : goal.returns-in-Some-clause-does
returns-in-Some-clause-does c =
    judged_sent terminal_report going_turn c.args.text c.args.text c.in_ok-body.field-0 c.in-Some.body
    (node_of c.args.self.now) (node_of c.route_text.new.self) (node_of c.send_report.new.self) c.args.out.now
    c.route_text.new.out c.send_report.new.out c.send_report.result refl c.in_ok-body.ensures.judged c.in-Some.is
    (subst
    (λ (message : Spooled). Takes (going_turn message (own_of c.route_text.new.self.own) c.route_text.new.self.core)
    (node_of c.route_text.new.self) c.route_text.new.out (node_of c.send_report.new.self) c.send_report.new.out
    c.send_report.result)
    c.named.ensures c.send_report.ensures.does)

pub returns-in-None-clause-does : goal.returns-in-None-clause-does
returns-in-None-clause-does c =
    let own : OwnView = own_of c.args.self.now.own in
    judged_none terminal_report (λ message. going_turn message own c.args.self.now.core) c.args.text c.args.text
    c.in_ok-body.field-0 (node_of c.args.self.now) (node_of c.route_text.new.self) c.args.out.now c.route_text.new.out
    refl c.in_ok-body.ensures.judged c.in-None.is
