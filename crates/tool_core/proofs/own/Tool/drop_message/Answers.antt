use Rattle.tool_core.proofs.Heeding.{dropped_so}
use Rattle.tool_core.specs.Node.{node_of}
use Rattle.tool_core.proofs.own.Tool.drop_message.Goals as goal

pub returns-clause-does : goal.returns-clause-does
returns-clause-does c =
    dropped_so c.args.message.now c.of.result c.of.ensures (node_of c.args.self.now)
    c.args.out.now c.note_dropped.new.out
    c.note_dropped.result c.note_dropped.ensures.notes
