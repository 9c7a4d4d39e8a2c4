-- One named event more is changed; with all changed the table is as told.

use Rattle.std.proofs.Common.{◌∙◌, ap, arith}
use Rattle.std.proofs.lemmas.List.{take_all}
use Rattle.gem_tables.specs.Rows.{with_each}
use Rattle.gem_reports.specs.Events.{with_enabled}
use Rattle.gem_reports.proofs.Rows.{enabled_more, enabled_named, enabled_so_far, event_row, none_enabled}
use Rattle.gem_reports.proofs.events.Events.enable_each.Goals as goal

pub loop-ceid-init : goal.loop-ceid-init
loop-ceid-init c = none_enabled c.args.on c.args.self.now

pub loop-ceid-preserved : goal.loop-ceid-preserved
loop-ceid-preserved c =
    c.set_enabled.ensures.table
    ∙ event_row _ (with_enabled c.args.on) _ c.set_enabled.ensures.distinct
    ∙ enabled_more c.args.on c.args.ceids.now c.loop-ceid.ceid-index 0 c.args.self.now _ (omega arith)
    c.loop-ceid.invariant

pub returns : goal.returns
returns c =
    c.loop-ceid.invariant
    ∙ ap (λ ceids. with_each (enabled_so_far c.args.on ceids) c.args.self.now)
    (take_all c.loop-ceid.ceid-index c.args.ceids.now (omega arith))
    ∙ enabled_named c.args.on c.args.ceids.now c.args.self.now c.requires
