use Rattle.std.proofs.Common.{sym, ◌∙◌}
use Rattle.tool_core.specs.Node.{node_of, own_of}
use Rattle.tool_core.proofs.Parting.{IsLeaving, IsLeft, leaving_goes, leaving_stops}
use Rattle.tool_core.proofs.own.Tool.end_talk.Goals as goal
use Rattle.tool_core.proofs.own.Tool.end_talk.Goals.{After-store_all}

-- what both ways out have behind them: what was known before the open messages ended, and what was done since
left :
    (c : After-store_all)
    → IsLeft c.args.input c.args.now c.delay-delay.result (own_of c.args.self.now.own) c.step-output.new.self
    c.step-output.result c.state-old.result c.state-new.result c.begins_spooling-begins.result
    c.activates-enabled.result c.stores_open-active.result c.end_unload.new.self
left c = record {
  delayed = c.delay-delay.ensures.delay;
  next_is = c.step-output.ensures.next;
  output_is = c.step-output.ensures.output;
  was_is = c.state-old.ensures;
  is_is = c.state-new.ensures;
  differs = sym c.is_same_comms.ensures ∙ c.if-is_same_comms.false;
  begins_is = c.begins_spooling-begins.ensures;
  enabled_is = c.activates-enabled.ensures;
  active_is = c.stores_open-active.ensures;
  ended_is = c.end_unload.ensures;
}

leaving :
    (c : After-store_all)
    → IsLeaving c.args.failed c.args.self.now.core c.end_open.new.self.core (own_of c.args.self.now.own)
    (own_of c.end_open.new.self.own) c.step-output.new.self c.state-old.result c.state-new.result
    c.activates-enabled.result c.stores_open-active.result c.end_unload.new.self c.activate.new.self
    c.in_ok-reports.reports.items c.args.out.now c.end_open.new.out c.note_comms.new.out c.activate.new.out
leaving c = record {
  own_is = c.in_ok-reports.ensures.own;
  done = c.in_ok-reports.ensures.does;
  reports_are = c.in_ok-reports.ensures.stored;
  noted = c.in_ok-note_comms.ensures.notes;
  next_is = c.in_ok-activate.ensures.next;
  lines = c.in_ok-activate.ensures.notes;
  line = c.in_ok-activate.ensures.line;
}

pub returns-in-Err-clause-does : goal.returns-in-Err-clause-does
returns-in-Err-clause-does c =
    let a = (goal.at.returns-in-Err-clause-does c).After-store_all in
    leaving_stops _ _ _ _ _ _ _ _ _ _ _ _ (left a) _ _ _ _ _ _ _ _ _ _ (leaving a) (Unit {0}) (Unit {0})
    (node_of c.store_all.new.self) c.store_all.new.out c.in-Err.stop c.in-Err.ensures.does

pub returns-in-Ok-clause-does : goal.returns-in-Ok-clause-does
returns-in-Ok-clause-does c =
    let a = (goal.at.returns-in-Ok-clause-does c).After-store_all in
    leaving_goes _ _ _ _ _ _ _ _ _ _ _ _ (left a) _ _ _ _ _ _ _ _ _ _ (leaving a) (Unit {0})
    (node_of c.store_all.new.self) (node_of c.request.new.self) c.store_all.new.out c.request.new.out
    c.request.result c.in-Ok.ensures.does c.request.ensures.does
