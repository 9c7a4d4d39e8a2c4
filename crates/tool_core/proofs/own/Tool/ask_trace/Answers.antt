-- The answer is that of what was kept before.
use Rattle.std.proofs.Common.{ap, ◌∙◌, ℕ}
use Rattle.gem_shapes.specs.Answers.{code_item}
use Rattle.equipment_tables.specs.Answers.{spelled_body}
use Rattle.secs_items.specs.declared.item.Item.{Item}
use Rattle.tool_core.specs.Node.{node_of, own_of}
use Rattle.tool_step.specs.Own.{OwnView}
use Rattle.tool_core.proofs.Traced.{set_and_answered}
use Rattle.tool_core.proofs.own.Tool.ask_trace.Goals as goal

pub returns-clause-does : goal.returns-clause-does
returns-clause-does c =
    set_and_answered c.args.request.now c.args.now c.args.message.now (own_of c.args.self.now.own)
    (own_of c.set_trace.new.self.own) c.args.self.now.core c.set_trace.new.self.core c.in_ok-tiaack.tiaack
    c.in_ok-answer.answer (node_of c.answer_by.new.self) c.args.out.now c.answer_by.new.out c.answer_by.result
    c.in_ok-tiaack.ensures.answer c.in_ok-tiaack.ensures.own c.in_ok-tiaack.ensures.core
    (c.in_ok-answer.ensures.body
    ∙ ap (λ (most : ℕ). spelled_body most c.in_ok-item.item) c.max_body.ensures.value
    ∙ ap (λ (own : OwnView). spelled_body own.plan.line.max_body c.in_ok-item.item) c.in_ok-tiaack.ensures.own
    ∙ ap (λ (item : Item). spelled_body (own_of c.args.self.now.own).plan.line.max_body item) c.in_ok-item.ensures
    ∙ ap (λ (code : ℕ). spelled_body (own_of c.args.self.now.own).plan.line.max_body (code_item code))
    c.tiaack_code.ensures)
    c.answer_by.ensures.does
