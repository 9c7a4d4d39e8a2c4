use Rattle.std.proofs.Common.{refl}
use Rattle.std.specs.Prelude.{Ok}
use Rattle.tool_core.specs.Node.{node_of}
use Rattle.equipment_node.proofs.Offering.{last-offers}
use Rattle.equipment_node.proofs.Readying.{last-ready}
use Rattle.equipment_node.proofs.disk_step.end_with.Goals as goal

pub returns-in-Ok-clause-ready : goal.returns-in-Ok-clause-ready
returns-in-Ok-clause-ready g c =
    last-ready g.D.Disk c.args.spool c.args.oldest c.args.now (node_of c.args.tool.now) (node_of c.do_last.new.self)
    c.args.out.now c.do_last.new.out (Ok c.args.spool) c.requires.ready c.requires.can (refl, c.in-Ok.ensures.does)

pub returns-in-Ok-clause-offers : goal.returns-in-Ok-clause-offers
returns-in-Ok-clause-offers g c =
    last-offers g.D.Disk c.args.spool c.args.oldest c.args.now (node_of c.args.tool.now) (node_of c.do_last.new.self)
    c.args.out.now c.do_last.new.out (refl, c.in-Ok.ensures.does)
