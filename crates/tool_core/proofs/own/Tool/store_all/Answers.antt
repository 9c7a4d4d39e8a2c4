use Rattle.std.proofs.Common.{sym, ap, ◌∙◌, List}
use Rattle.std.specs.Prelude.{Err}
use Rattle.std.proofs.lemmas.Result.{err_from_is_err_and}
use Rattle.trace_log.specs.Names.{Spooled}
use Rattle.message_end.specs.declared.end.Stop.{Stop}
use Rattle.message_end.specs.Parts.{on_the_way}
use Rattle.tool_core.specs.Node.{node_of}
use Rattle.tool_core.proofs.Storing.{stores_more, stores_step, stores_stopped}
use Rattle.tool_core.proofs.own.Tool.store_all.Goals as goal

pub reports-preserved : goal.reports-preserved
reports-preserved c =
    let before = on_the_way (node_of c.reports.self) c.reports.out in
    record {
      same =
          sym (stores_more c.in-Some.report c.pop_front.new.self.items before
          (on_the_way (node_of c.store.new.self) c.store.new.out) c.in_ok-store.ensures.does)
          ∙ ap (λ (reports : List Spooled). stores_step reports before) (sym c.in-Some.ensures.items)
          ∙ c.reports.invariant.same;
      line = c.in_ok-store.ensures.line ∙ c.reports.invariant.line;
    }

pub returns-in_err-store-clause-does : goal.returns-in_err-store-clause-does
returns-in_err-store-clause-does c =
    let before = on_the_way (node_of c.reports.self) c.reports.out in
    let ended = err_from_is_err_and c.from_residual.result c.from_residual.ensures.1 in
    stores_stopped c.in-Some.report c.pop_front.new.self.items c.reports.reports.items before
    (on_the_way (node_of c.args.self.now) c.args.out.now) c.args.reports.items (node_of c.store.new.self) c.store.new.out
    c.in_err-store.field-0.0 c.from_residual.result c.in-Some.ensures.items c.reports.invariant.same
    (ended.1 ∙ ap (λ (why : Stop). Err why) ended.2) c.in_err-store.ensures.does
