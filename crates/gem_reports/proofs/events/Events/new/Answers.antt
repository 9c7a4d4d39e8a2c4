-- One event more is put, or is there already.

use Rattle.std.proofs.Common.{◌∙◌, ap, List, ℕ, false, get_or, nat_eq, arith}
use Rattle.indexmap.specs.IndexMap.{insert_entry}
use Rattle.gem_reports.proofs.Rows.{planted_more}
use Rattle.gem_reports.proofs.events.Events.new.Goals as goal

pub loop-ceid-preserved : goal.loop-ceid-preserved
loop-ceid-preserved c =
    let ceid = get_or c.args.ceids.now c.loop-ceid.ceid-index 0 in
    planted_more c.args.ceids.now c.loop-ceid.ceid-index 0 c.loop-ceid.rows.entries _ (omega arith)
    c.loop-ceid.invariant
    (c.in_ok-insert.ensures.entries
    ∙ ap (λ (links : List ℕ). insert_entry nat_eq c.loop-ceid.rows.entries ceid
    (record { is_enabled = false; rptids = links })) c.new.ensures)
