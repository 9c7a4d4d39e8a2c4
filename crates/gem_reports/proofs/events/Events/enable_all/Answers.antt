-- The rows are changed one by one; with all changed the table is as told.

use Rattle.std.proofs.Common.{◌≡◌, ◌∙◌, ap, length, arith}
use Rattle.gem_tables.proofs.First.{changed_first, changed_more, changed_whole, changed_within}
use Rattle.gem_reports.specs.Events.{EventTable, with_enabled}
use Rattle.gem_reports.proofs.events.Events.enable_all.Goals as goal

pub index_mut-requires : goal.index_mut-requires
index_mut-requires c =
    changed_within (with_enabled c.args.on) c.loop-i.i c.args.self.now _ c.loop-i.invariant
    (let same = ap (λ (t : EventTable). length t) c.self.view_is in
    omega (arith, same, c.len-i-end.ensures.len))

pub loop-i-preserved : goal.loop-i-preserved
loop-i-preserved c =
    changed_more (with_enabled c.args.on) c.loop-i.i c.args.self.now _ c.index_mut.result.now c.loop-i.invariant
    c.index_mut.ensures.value

pub returns : goal.returns
returns c =
    let same = ap (λ (t : EventTable). length t) c.self.view_is in
    let end : c.loop-i.i ≡ length c.args.self.now = omega (arith, same, c.len-i-end.ensures.len) in
    c.loop-i.invariant
    ∙ ap (λ n. changed_first (with_enabled c.args.on) n c.args.self.now) end
    ∙ changed_whole (with_enabled c.args.on) c.args.self.now
