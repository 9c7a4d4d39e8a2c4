-- The list was written, and then the cell named it.

use Rattle.setup_store.proofs.WholeKeeps.{names_then}
use Rattle.setup_store.proofs.store.write_and_name.Goals as goal

pub returns-in-Ok : goal.returns-in-Ok
returns-in-Ok g c =
    names_then g.D.Disk c.args.spool c.in-Ok.spool c.args.value c.spare_number.result c.value_with.result
    c.args.list.now c.set_area_cell.result c.spare_number.ensures.spare c.value_with.ensures c.in-Ok.ensures.copy
    c.set_area_cell.ensures
