-- A sync behind the 00s, where there are any.

use Rattle.std.proofs.Common.{◌∙◌, sym}
use Rattle.spool_slots.specs.Put.{shut_steps}
use Rattle.spool_slots.proofs.Carrying.{synced_failed, synced_none, synced_some}
use Rattle.spool_slots.proofs.Shuts.{none_shut, some_shut}
use Rattle.spool_slots.proofs.gates.shut_gates.Goals as goal

pub returns-in-Failed : goal.returns-in-Failed
returns-in-Failed g c =
    synced_failed g.D.Disk c.args.disk.now c.shut_each.new.disk
    (shut_steps c.args.slots c.args.number c.args.size c.args.gates.now) c.in-Failed.ensures

pub returns-then-any_open : goal.returns-then-any_open
returns-then-any_open g c =
    synced_some g.D.Disk c.args.disk.now c.shut_each.new.disk c.sync_all.new.disk
    (shut_steps c.args.slots c.args.number c.args.size c.args.gates.now) c.sync_all.result
    (some_shut c.args.slots c.args.number c.args.gates.now c.args.size (sym c.any_open.ensures ∙ c.if-any_open.true))
    c.in-Done.ensures c.sync_all.ensures

pub returns : goal.returns
returns g c =
    synced_none g.D.Disk c.args.disk.now c.shut_each.new.disk
    (shut_steps c.args.slots c.args.number c.args.size c.args.gates.now)
    (none_shut c.args.slots c.args.number c.args.gates.now c.args.size (sym c.any_open.ensures ∙ c.if-any_open.false))
    c.in-Done.ensures
