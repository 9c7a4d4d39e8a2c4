-- Those that are covered are taken out.

use Rattle.std.proofs.Common.{sym, ap, subst}
use Rattle.setup_store.specs.declared.change.Change.{Change}
use Rattle.setup_store.specs.Entries.{entry_of}
use Rattle.setup_store.specs.Kept.{HasSame, alids_of, ids_of, is_of, takes_out}
use Rattle.setup_store.proofs.KeptEntries.{taken}
use Rattle.setup_store.proofs.kept.takes_out.Goals as goal

pub returns-in-Events : goal.returns-in-Events
returns-in-Events c =
    let old = entry_of c.args.old.now in
    taken c.covers.result c.args.change.now old c.in-Events.ceids (is_of 2 37 old)
    (ap (λ (change : Change). takes_out change old) c.in-Events.is) (sym c.if-is_of-3.ensures)
    (c.covers.ensures c.in-Events.ceids
    (subst (λ (change : Change). HasSame c.args.ids.now.keys (ids_of change)) c.in-Events.is c.requires.ids))

pub returns-in-Alarms : goal.returns-in-Alarms
returns-in-Alarms c =
    let old = entry_of c.args.old.now in
    taken c.covers-in-Alarms.result c.args.change.now old (alids_of c.in-Alarms.alid) (is_of 5 3 old)
    (ap (λ (change : Change). takes_out change old) c.in-Alarms.is) (sym c.if-is_of-4.ensures)
    (c.covers-in-Alarms.ensures (alids_of c.in-Alarms.alid)
    (subst (λ (change : Change). HasSame c.args.ids.now.keys (ids_of change)) c.in-Alarms.is c.requires.ids))
