use Rattle.std.proofs.Common.{subst, ◌∙◌, ℕ, [], length}
use Rattle.std.proofs.lemmas.Result.{IfOk-weaker}
use Rattle.trace_log.specs.Text.{IsStartNote}
use Rattle.tool_core.specs.Starting.{IsNotedBehind, IsStartNoted}
use Rattle.tool_core.proofs.StartLines.{start_noted}
use Rattle.tool_core.proofs.own.Tool.start_on.Goals as goal

pub returns-clause-noted : goal.returns-clause-noted
returns-clause-noted c =
    let start : IsNotedBehind (IsStartNote (length c.args.ledger.sizes) c.args.base) [] c.args.out.now
    c.note_start.new.out =
    subst (λ (len : ℕ). IsNotedBehind (IsStartNote len c.args.base) [] c.args.out.now c.note_start.new.out)
    (c.from.ensures ∙ c.len.ensures)
    (subst (λ (base : ℕ). IsNotedBehind (IsStartNote c.from.result base) [] c.args.out.now c.note_start.new.out)
    c.from-2.ensures c.in_ok-note_start.ensures.noted) in
    IfOk-weaker c.boxed.result _
    (λ tool. IsStartNoted c.args.plan.now c.args.setup (length c.args.ledger.sizes) c.args.base c.args.out.now
    c.start.new.out)
    (λ tool same. start_noted c.args.plan.now c.args.setup
    (IsStartNote (length c.args.ledger.sizes) c.args.base) c.args.out.now c.note_start.new.out c.note_setup.new.out
    c.start.new.out start c.in_ok-note_setup.ensures.notes c.in_ok-start.ensures.notes)
    c.boxed.ensures
