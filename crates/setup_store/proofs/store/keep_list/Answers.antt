-- The cell was looked at, and then the list written.

use Rattle.std.proofs.Common.{inl}
use Rattle.setup_store.proofs.WholeKeeps.{looks_then}
use Rattle.setup_store.proofs.store.keep_list.Goals as goal

pub returns-in-Failed : goal.returns-in-Failed
returns-in-Failed g c = inl (c.area_cell.new.self, c.in-Failed.ensures, c.retire.ensures.disk)

pub returns-in-Value : goal.returns-in-Value
returns-in-Value g c =
    looks_then g.D.Disk c.args.spool c.area_cell.new.self c.in-Value.value c.args.list.now c.write_and_name.result
    c.in-Value.ensures c.write_and_name.ensures
