use Rattle.std.proofs.Common.{sym, ap, ◌∙◌}
use Rattle.gem_states.specs.Control.{ControlView}
use Rattle.tool_core.specs.Ending.{with_active}
use Rattle.tool_core.specs.Node.{own_of}
use Rattle.tool_step.specs.Own.{OwnView, with_control}
use Rattle.tool_step.specs.States.{stored_by}
use Rattle.tool_core.proofs.Lost.{one_begun, stored_alike, with_lost}
use Rattle.tool_core.proofs.own.Tool.end_begun.Goals as goal

pub transactions-preserved : goal.transactions-preserved
transactions-preserved c =
    let first : OwnView = own_of c.args.self.now.own in
    let now : ControlView = c.transactions.self.own.control in
    let later : ControlView = c.end_one.new.self.control in
    let later_is = ap (λ (o : OwnView). o.control) c.in_ok-end_one.ensures.own in
    let one =
    one_begun c.args.active first now later c.in-Some.primary c.in_ok-stored.stored c.transactions.reports.items
    c.put_behind.new.reports.items c.transactions.self.core c.end_first.new.self c.transactions.out c.end_one.new.out
    c.in-Some.ensures c.transactions.invariant.alike
    (c.in_ok-stored.ensures
    ∙ ap (λ (o : OwnView). stored_by (with_active c.args.active o) c.in-Some.primary.1 c.in-Some.primary.0.system)
    c.transactions.invariant.own
    ∙ stored_alike c.args.active now first c.in-Some.primary.1 c.in-Some.primary.0.system)
    (c.in_ok-end_one.ensures.notes first.control c.end_first.new.self
    (record { stood = c.state-first.ensures.state; fails = c.transactions.invariant.alike }))
    later_is c.in_ok-put_behind.ensures in
    record {
      done = one.ended.same ∙ c.transactions.invariant.done;
      after = one.after ∙ c.transactions.invariant.after;
      alike = one.alike;
      stored = one.stored ∙ c.transactions.invariant.stored;
      own =
          c.in_ok-end_one.ensures.own
          ∙ ap (λ (o : OwnView). with_control (with_lost c.in-Some.primary.1 now) o) c.transactions.invariant.own
          ∙ ap (λ (v : ControlView). with_control v first) (sym later_is);
      line = c.in_ok-end_one.ensures.line ∙ c.transactions.invariant.line;
    }
