-- The first entry that can't be entered gives the answer; with none left all are in the draft.

use Rattle.std.proofs.Common.{◌+◌, ◌-◌, sym, ◌∙◌, ap, length, nat_eq, arith}
use Rattle.std.specs.Map.{lookup}
use Rattle.std.specs.Option.{option_map}
use Rattle.secs_items.specs.Measures.{capped}
use Rattle.gem_shapes.specs.declared.entries.Linking.{Linking}
use Rattle.gem_tables.specs.Rows.{with_row}
use Rattle.gem_reports.specs.declared.event.Event.{Event}
use Rattle.gem_reports.specs.Answers.{lrack_by}
use Rattle.gem_reports.specs.Events.{links_in_table, with_links}
use Rattle.gem_reports.proofs.Entering.{linking, linking_done, linking_more, linking_refused, not_done}
use Rattle.gem_reports.proofs.links.Links.enter_each.Goals as goal

pub returns-then-not-is_done-clause-answer : goal.returns-then-not-is_done-clause-answer
returns-then-not-is_done-clause-answer c = λ events past draft.
    let table = c.loop-entry.self.events in
    let count = c.loop-entry.self.count in
    linking_refused table count c.args.standing.now events past c.args.list.now c.loop-entry.entry-index
    c.entry-item.result c.verdict-answer.result (omega arith)
    (c.verdict-answer.ensures
    ∙ ap (λ (e : Linking). lrack_by (option_map (λ (event : Event). event.rptids) (lookup (nat_eq e.ceid) table))
    (λ rptid. lookup (nat_eq rptid) c.args.standing.now) count e) c.entry-item.is)
    (not_done c.is_done.result _ c.is_done.ensures c.if-not-is_done.true) (c.loop-entry.invariant events past draft)

pub loop-entry-init : goal.loop-entry-init
loop-entry-init c = λ events past draft.
    linking c.args.self.now.events c.args.self.now.count c.args.standing.now events past c.args.list.now draft

pub loop-entry-preserved : goal.loop-entry-preserved
loop-entry-preserved c = λ events past draft.
    let table = c.loop-entry.self.events in
    let count = c.loop-entry.self.count in
    linking_more table count c.enter.new.self.count c.args.standing.now c.enter.new.self.events events past
    c.args.list.now c.loop-entry.entry-index c.entry-item.result (omega arith)
    (sym (c.is_done.ensures.0 c.if-not-is_done.false) ∙ c.verdict-answer.ensures
    ∙ ap (λ (e : Linking). lrack_by (option_map (λ (event : Event). event.rptids) (lookup (nat_eq e.ceid) table))
    (λ rptid. lookup (nat_eq rptid) c.args.standing.now) count e) c.entry-item.is)
    (c.in_ok-enter.ensures.table ∙ ap (λ (e : Linking). with_row e.ceid (with_links e.rptids) table) c.entry-item.is)
    c.in_ok-enter.ensures.distinct
    (c.in_ok-enter.ensures.count
    ∙ ap (λ (e : Linking). capped (count - length (links_in_table table e.ceid) + length e.rptids)) c.entry-item.is)
    (c.loop-entry.invariant events past draft)

pub returns-clause-answer : goal.returns-clause-answer
returns-clause-answer c = λ events past draft.
    (linking_done c.loop-entry.self.events c.loop-entry.self.count c.args.standing.now events past
    c.args.list.now c.loop-entry.entry-index (omega arith) (c.loop-entry.invariant events past draft)).0

pub returns-clause-draft : goal.returns-clause-draft
returns-clause-draft c = λ events past draft done.
    (linking_done c.loop-entry.self.events c.loop-entry.self.count c.args.standing.now events past
    c.args.list.now c.loop-entry.entry-index (omega arith) (c.loop-entry.invariant events past draft)).1
