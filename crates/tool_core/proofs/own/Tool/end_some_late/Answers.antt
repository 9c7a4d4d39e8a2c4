-- With nothing late any more, what is left to do changes nothing.
use Rattle.std.proofs.Common.{Bool, sym, ◌∙◌}
use Rattle.std.proofs.lemmas.Result.{err_from_is_err_and}
use Rattle.message_end.specs.Parts.{on_the_way}
use Rattle.tool_core.specs.Node.{node_of}
use Rattle.tool_core.specs.Late.{late_part}
use Rattle.tool_core.proofs.Taking.{many_still, many_stop}
use Rattle.tool_core.proofs.own.Tool.end_some_late.Goals as goal

pub returns-then-not-branch-clause-does : goal.returns-then-not-branch-clause-does
returns-then-not-branch-clause-does c =
    let none = c.in_ok-end_one_late.ensures.none c.if-not-branch.true in
    sym c.overdue.invariant.done
    ∙ many_still c.overdue.left (late_part c.args.late c.args.now) (on_the_way (node_of c.overdue.self)
    c.overdue.out) none
    ∙ sym none ∙ c.in_ok-end_one_late.ensures.does

pub returns-in_err-end_one_late-clause-does : goal.returns-in_err-end_one_late-clause-does
returns-in_err-end_one_late-clause-does c =
    let p = err_from_is_err_and c.from_residual.result c.from_residual.ensures.1 in
    rw (p.1, p.2)
    (many_stop Bool (Unit {0}) c.overdue.left c.args.most (late_part c.args.late c.args.now) (node_of c.args.self.now)
    (node_of c.overdue.self) (node_of c.end_one_late.new.self) c.args.out.now c.overdue.out c.end_one_late.new.out _
    c.overdue-test.true c.overdue.invariant.done c.in_err-end_one_late.ensures.does)
