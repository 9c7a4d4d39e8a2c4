use Rattle.std.proofs.Common.{[], ◌∷◌}
use Rattle.std.specs.Prelude.{Ok}
use Rattle.message_end.specs.Parts.{closes}
use Rattle.tool_core.specs.Node.{node_of}
use Rattle.tool_step.specs.Spooling.{end_of_spooling}
use Rattle.tool_step.specs.Step.{offer}
use Rattle.tool_core.proofs.Following.{first_goes, last_part}
use Rattle.tool_core.proofs.own.Tool.end_step.Goals as goal

pub returns-in-Ok : goal.returns-in-Ok
returns-in-Ok c = record {
  does = first_goes (Unit {0}) end_of_spooling (offer c.args.now ∷ closes ∷ []) (node_of c.args.self.now)
      (node_of c.end_spooling.new.self) (node_of c.close.new.self) c.args.out.now c.end_spooling.new.out
      c.close.new.out (Ok tt) c.in-Ok.ensures.does
      (first_goes (Unit {0}) (offer c.args.now) (closes ∷ []) (node_of c.end_spooling.new.self)
      (node_of c.give_turn.new.self) (node_of c.close.new.self) c.end_spooling.new.out c.give_turn.new.out
      c.close.new.out (Ok tt) c.give_turn.ensures
      (last_part (Unit {0}) closes (node_of c.give_turn.new.self) (node_of c.close.new.self) c.give_turn.new.out
      c.close.new.out (Ok tt) c.close.ensures));
}
