-- A command that is carried out counts when the equipment looks back, which is read as no note.
use Rattle.std.proofs.Common.{sym, subst}
use Rattle.trace_log.specs.Log.{Past}
use Rattle.trace_log.specs.declared.commands.ToolCommand.{ToolCommand}
use Rattle.message_flow.specs.declared.step.NodeInput.{NodeInput}
use Rattle.message_end.specs.Ends.{input_of}
use Rattle.tool_core.specs.Calls.{Reaches}
use Rattle.tool_core.specs.Node.{node_of, own_of}
use Rattle.tool_step.specs.Step.{input_part}
use Rattle.tool_step.specs.Tool.{command_turn}
use Rattle.tool_core.proofs.Following.{reached}
use Rattle.tool_core.proofs.Turned.{recorded}
use Rattle.tool_core.proofs.own.Tool.meet_input.Goals as goal

pub returns-in-Command-clause-does : goal.returns-in-Command-clause-does
returns-in-Command-clause-does c =
    subst
    (λ (input : NodeInput ToolCommand). Reaches
    (input_part (input_of input) c.args.now (own_of c.args.self.now.own) c.args.self.now.core)
    (node_of c.args.self.now) c.args.out.now (node_of c.obey.new.self) c.obey.new.out c.obey.result)
    (sym c.in-Command.is)
    (reached (Unit {0}) _ (node_of c.obey.new.self) c.obey.new.out c.obey.result
    (recorded (Past.Commanded c.in-Command.command.now)
    (command_turn c.in-Command.command.now c.args.now (own_of c.args.self.now.own) c.args.self.now.core)
    (node_of c.args.self.now) (node_of c.obey.new.self) c.args.out.now c.obey.new.out c.obey.result
    c.obey.ensures.does))
