use Rattle.std.proofs.Common.{rules}
use Rattle.spool_ledger.specs.Ledger.{new_ledger}
use Rattle.tool_core.specs.Node.{node_of}
use Rattle.equipment_node.proofs.Beginning.{new-ready}
use Rattle.equipment_node.proofs.StartOffering.{new-asked}
use Rattle.equipment_node.proofs.equipment.start_with.Goals as goal

pub invariant_of-result : goal.invariant_of-result
invariant_of-result g c =
    let spool = c.args.spool.spool in (
      new-ready g.D.Disk c.args.plan.now c.requires.plan c.args.spool c.args.setup c.args.sizes.now c.args.base
          c.requires.version c.requires.sizes c.requires.holds _ (search rules),
      new-asked c.args.plan.now c.args.setup (new_ledger spool.slots spool.first c.args.sizes.now) c.args.base
          (node_of c.in-Ok-start_on.tool.value) (search rules),
    )
