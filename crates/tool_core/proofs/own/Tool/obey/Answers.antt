use Rattle.std.proofs.Common.{sym, ap, subst, ◌∙◌, ℕ, List}
use Rattle.trace_log.specs.declared.commands.ToolCommand.{ToolCommand}
use Rattle.message_end.specs.Parts.{Takes}
use Rattle.tool_core.specs.Node.{node_of, own_of}
use Rattle.tool_step.specs.Own.{OwnView, ToolTurn}
use Rattle.tool_step.specs.Tool.{command_turn, terminal_turn}
use Rattle.tool_core.proofs.own.Tool.obey.Goals as goal

pub returns-in-Terminal-clause-does : goal.returns-in-Terminal-clause-does
returns-in-Terminal-clause-does c =
    let own : OwnView = own_of c.args.self.now.own in
    subst
    (λ (t : ToolTurn).
    Takes t (node_of c.args.self.now) c.args.out.now (node_of c.write.new.self) c.write.new.out c.write.result)
    (ap (λ (text : List ℕ). terminal_turn c.in-Terminal.tid text own c.args.self.now.core) c.as_slice.ensures
    ∙ ap (λ (command : ToolCommand). command_turn command c.args.now own c.args.self.now.core) (sym c.in-Terminal.is))
    c.write.ensures.does
