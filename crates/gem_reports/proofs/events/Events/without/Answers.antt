-- One row more is copied without the links that go.

use Rattle.std.proofs.Common.{sym, ◌∙◌, ap, subst, ◌++◌, nat_eq}
use Rattle.std.proofs.lemmas.Map.Iter.{rest_more}
use Rattle.std.specs.List.{IsDistinct}
use Rattle.std.specs.Map.{keys_of}
use Rattle.std.specs.Map.Iter.{deref_pair}
use Rattle.indexmap.specs.IndexMap.{insert_entry}
use Rattle.gem_tables.proofs.Putting.{each_more}
use Rattle.gem_tables.specs.Rows.{with_each}
use Rattle.gem_reports.specs.declared.event.Event.{Event}
use Rattle.gem_reports.specs.Events.{EventTable, without}
use Rattle.gem_reports.proofs.events.Events.without.Goals as goal

pub loop-ceid-preserved-in_ok-insert : goal.loop-ceid-preserved-in_ok-insert
loop-ceid-preserved-in_ok-insert c =
    let f = without c.args.rptids.now.keys in
    let rows = c.loop-ceid.rows.entries in
    let at = rest_more deref_pair c.loop-ceid.ceid-iterator _ c.next.result _ c.in-Some.is c.next.ensures.steps in
    let distinct =
    subst (λ (t : EventTable). IsDistinct nat_eq (keys_of t)) c.self.view_is c.iter-ceid-items.ensures.unique in
    ap (λ (t : EventTable). t ++ with_each f c.next.new.self)
    (c.in_ok-insert.ensures.entries
    ∙ ap (λ (e : Event). insert_entry nat_eq rows c.in-Some.ceid.now e) (c.in_ok-without.ensures c.in-Some.ceid.now))
    ∙ each_more f rows c.args.self.now (c.in-Some.ceid.now, c.in-Some.event.now) c.next.new.self distinct
    (ap (λ (t : EventTable). rows ++ with_each f t) (sym at) ∙ c.loop-ceid.invariant)

pub loop-ceid-preserved : goal.loop-ceid-preserved
loop-ceid-preserved c =
    let f = without c.args.rptids.now.keys in
    let rows = c.loop-ceid.rows.entries in
    let at = rest_more deref_pair c.loop-ceid.ceid-iterator _ c.next.result _ c.in-Some.is c.next.ensures.steps in
    let distinct =
    subst (λ (t : EventTable). IsDistinct nat_eq (keys_of t)) c.self.view_is c.iter-ceid-items.ensures.unique in
    ap (λ (t : EventTable). t ++ with_each f c.next.new.self)
    (c.in_ok-insert.ensures.entries
    ∙ ap (λ (e : Event). insert_entry nat_eq rows c.in-Some.ceid.now e) (c.in_ok-without.ensures c.in-Some.ceid.now))
    ∙ each_more f rows c.args.self.now (c.in-Some.ceid.now, c.in-Some.event.now) c.next.new.self distinct
    (ap (λ (t : EventTable). rows ++ with_each f t) (sym at) ∙ c.loop-ceid.invariant)
