use Rattle.std.proofs.Common.{sym, ap, ◌∙◌, Bool}
use Rattle.std.specs.Prelude.{Ok}
use Rattle.std.proofs.lemmas.Result.{err_from_is_err_and}
use Rattle.trace_log.specs.Names.{Spooled}
use Rattle.equipment_tables.specs.declared.answers.Answer.TheVariants.{Body}
use Rattle.tool_core.specs.Judged.{report_named}
use Rattle.tool_core.specs.Node.{node_of, own_of}
use Rattle.tool_step.specs.Own.{OwnView}
use Rattle.tool_step.specs.Reports.{unreported_turn}
use Rattle.tool_step.specs.Spooling.{stored_turn}
use Rattle.tool_core.proofs.Judging.{so_judged, stops_judged}
use Rattle.tool_core.proofs.Texts.{made_stored, made_unreported}
use Rattle.tool_core.proofs.own.Tool.route_body.Goals as goal

pub returns-in_err-store-clause-judged : goal.returns-in_err-store-clause-judged
returns-in_err-store-clause-judged c =
    let p = err_from_is_err_and c.from_residual.result c.from_residual.ensures.1 in
    let own : OwnView = own_of c.args.self.now.own in
    let message : Spooled = report_named c.args.name c.args.body in
    rw (p.1, p.2)
    (stops_judged (report_named c.args.name) (Body c.args.body) (stored_turn c.named.result own)
    (node_of c.args.self.now) (node_of c.store.new.self) c.args.out.now c.store.new.out _ c.requires.online
    (λ going.
    made_stored going message own (sym c.is_spooled.ensures ∙ c.if-is_spooled.true)
    ∙ ap (λ (m : Spooled). stored_turn m own) (sym c.named.ensures))
    c.in_err-store.ensures.does)

pub returns-clause-judged : goal.returns-clause-judged
returns-clause-judged c =
    let own : OwnView = own_of c.args.self.now.own in
    let message : Spooled = report_named c.args.name c.args.body in
    so_judged (report_named c.args.name) (Body c.args.body) (unreported_turn c.args.name own)
    (node_of c.args.self.now) (node_of c.args.self.now) c.args.out.now c.note_dropped.new.out (Ok tt) c.requires.online
    (λ going.
    made_unreported going message own (sym c.is_spooled.ensures ∙ c.if-is_spooled.false)
    (sym c.is_communicating.ensures ∙ c.if-is_communicating.false)
    ∙ ap
    (λ (w : Bool). unreported_turn
    (record { stream = c.args.name.stream; function = c.args.name.function; wait = w }) own)
    (sym c.requires.wait))
    (c.in_ok-note_dropped.ensures.notes (node_of c.args.self.now))
