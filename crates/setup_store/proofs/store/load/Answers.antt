-- The cell was looked at, and then what it names.

use Rattle.std.proofs.Common.{sym, ◌∙◌}
use Rattle.disk_base.specs.declared.disk.DiskAnswer.TheVariants.{Done}
use Rattle.spool_file.specs.Setup.{setup_cell}
use Rattle.setup_store.proofs.Loaded.{loads_then, seen_rests}
use Rattle.setup_store.proofs.store.load.Goals as goal

pub load_named-requires-clause-rests : goal.load_named-requires-clause-rests
load_named-requires-clause-rests g c =
    seen_rests g.D.Disk c.args.spool.now c.area_cell.new.self setup_cell 17 Done c.in-Value.ensures.0 c.rests.ensures

pub returns-in-Value-clause-loads : goal.returns-in-Value-clause-loads
returns-in-Value-clause-loads g c =
    loads_then g.D.Disk c.args.spool.now c.area_cell.new.self c.load_named.new.spool c.in-Value.value
    c.load_named.result (sym c.area.ensures ∙ c.if-not-area.false) c.in-Value.ensures c.load_named.ensures
