use Rattle.std.proofs.Common.{ap, ◌∙◌, ◌++◌, ℕ, Bool}
use Rattle.std.specs.List.{filter_map}
use Rattle.trace_log.specs.Text.{printed_note}
use Rattle.equipment_tables.specs.Answers.{answer_of, lines_of}
use Rattle.equipment_tables.specs.Tables.{state_of, tables_after}
use Rattle.tool_core.specs.Node.{node_of, own_of}
use Rattle.tool_step.specs.Own.{OwnView, is_local}
use Rattle.tool_core.proofs.Heeding.{answered}
use Rattle.tool_core.proofs.own.Tool.answer.Goals as goal

pub returns-clause-does : goal.returns-clause-does
returns-clause-does c =
    let own : OwnView = own_of c.args.self.now.own in
    answered (Unit {0}) own c.args.self.now.core (state_of c.answer.new.self)
    (tables_after c.args.request.now own.tables) c.in_ok-answer.answer
    (answer_of own.tables (is_local own) own.plan.line.max_body c.args.request.now)
    (lines_of own.tables (is_local own) c.args.request.now) c.args.message.now (node_of c.answer_by.new.self)
    c.args.out.now c.answer_by.new.out c.answer.new.notes c.answer_by.result c.in_ok-answer.ensures.tables
    (c.in_ok-answer.ensures.answer
    ∙ ap (λ (local : Bool). answer_of own.tables local c.max_body-max_body.result c.args.request.now)
    c.is_local-is_local.ensures
    ∙ ap (λ (most : ℕ). answer_of own.tables (is_local own) most c.args.request.now) c.max_body-max_body.ensures.value)
    (c.in_ok-answer.ensures.notes
    ∙ ap (λ (local : Bool). c.args.out.now.notes ++ filter_map printed_note
    (lines_of own.tables local c.args.request.now))
    c.is_local-is_local.ensures)
    c.answer_by.ensures.does
