use Rattle.std.proofs.Common.{[], ◌∷◌}
use Rattle.std.specs.Prelude.{Err}
use Rattle.message_end.specs.Parts.{closes}
use Rattle.tool_core.specs.Node.{node_of}
use Rattle.tool_step.specs.Spooling.{end_of_spooling}
use Rattle.tool_step.specs.Step.{offer}
use Rattle.tool_step.specs.Taking.{taking}
use Rattle.tool_core.proofs.Following.{first_goes, first_stops, reached}
use Rattle.tool_core.proofs.own.Tool.end_parts.Goals as goal

pub returns-in-Ok : goal.returns-in-Ok
returns-in-Ok c = record {
  does = first_goes (Unit {0}) (taking c.args.oldest)
      (end_of_spooling ∷ offer c.args.now ∷ closes ∷ [])
      (node_of c.args.self.now) (node_of c.unload.new.self) (node_of c.end_step.new.self) c.args.out.now
      c.unload.new.out c.end_step.new.out c.end_step.result c.in-Ok.ensures.does c.end_step.ensures.does;
}

pub returns-in-Err : goal.returns-in-Err
returns-in-Err c = record {
  does = first_stops (Unit {0}) (Unit {0}) (taking c.args.oldest)
      (end_of_spooling ∷ offer c.args.now ∷ closes ∷ [])
      (node_of c.args.self.now) (node_of c.unload.new.self) c.args.out.now c.unload.new.out c.in-Err.stop
      (reached (Unit {0}) _ (node_of c.unload.new.self) c.unload.new.out (Err c.in-Err.stop) c.in-Err.ensures.does);
}
