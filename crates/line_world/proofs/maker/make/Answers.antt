-- The made rounds may be run over an empty spool; their summary is written, or the run ends as it has stopped.

use Rattle.gl_base.proofs.Appending.{wrote_nothing}
use Rattle.line_world.proofs.Disks.{first-is, holds_empty, opens_empty}
use Rattle.line_world.proofs.Made.{stops-as, writes-made}
use Rattle.line_world.proofs.RoundEvents.{first-may, round-may}
use Rattle.line_world.proofs.maker.make.Goals as goal

pub returns-in_default : goal.returns-in_default
returns-in_default g c = wrote_nothing

pub count_rounds-requires-clause-equipment_store : goal.count_rounds-requires-clause-equipment_store
count_rounds-requires-clause-equipment_store g c =
    holds_empty c.args.plans.now.slots c.in-Ok.spool c.in-Ok.ensures

pub count_rounds-requires-clause-equipment_opens : goal.count_rounds-requires-clause-equipment_opens
count_rounds-requires-clause-equipment_opens g c =
    opens_empty c.args.plans.now c.in-Ok.spool c.in-Ok.ensures

pub count_rounds-requires-clause-first : goal.count_rounds-requires-clause-first
count_rounds-requires-clause-first g c = first-may

pub count_rounds-requires-clause-each : goal.count_rounds-requires-clause-each
count_rounds-requires-clause-each g c = round-may

pub returns-in-Ok-count_rounds : goal.returns-in-Ok-count_rounds
returns-in-Ok-count_rounds g c =
    writes-made c.args.plans.now c.args.rounds _ _
    (first-is c.args.plans.now c.in-Ok.spool c.in-Ok.ensures) c.in-Ok-count_rounds.counts c.write_summary.result
    c.in-Ok-count_rounds.ensures c.write_summary.ensures

pub returns-in-Err : goal.returns-in-Err
returns-in-Err g c =
    stops-as c.args.plans.now c.args.rounds _ _
    (first-is c.args.plans.now c.in-Ok.spool c.in-Ok.ensures) c.in-Err.stop c.end_made.result c.end_made.ensures
    c.in-Err.ensures wrote_nothing
