use Rattle.tool_core.specs.Node.{node_of, own_of}
use Rattle.tool_core.proofs.Trying.{taken_so}
use Rattle.tool_core.proofs.own.Tool.take_up.Goals as goal

pub returns-clause-does : goal.returns-clause-does
returns-clause-does c =
    taken_so {A = Unit {0}} c.args.number c.args.report (own_of c.args.self.now.own) (own_of c.stop_last.new.self.own)
    c.args.self.now.core c.stop_last.new.self.core c.args.out.now (node_of c.take_up_next.new.self)
    c.take_up_next.new.out c.take_up_next.result c.stop_last.ensures.own c.stop_last.ensures.core
    c.take_up_next.ensures.does
