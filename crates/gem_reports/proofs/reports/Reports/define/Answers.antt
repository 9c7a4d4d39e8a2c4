-- All reports are deleted, or the draft gives the answer and what stands.

use Rattle.std.proofs.Common.{sym, ◌∙◌, ap, subst}
use Rattle.gem_tables.specs.Rows.{with_each}
use Rattle.gem_reports.specs.Answers.{past_with_definitions}
use Rattle.gem_reports.specs.Events.{with_no_links}
use Rattle.gem_reports.specs.Tables.{ReportsView, StandsFor}
use Rattle.gem_reports.proofs.Entering.{defined_stands, deleted_stands, some_defined}
use Rattle.gem_reports.proofs.reports.Reports.define.Goals as goal

pub returns-then-is_empty-clause-stands : goal.returns-then-is_empty-clause-stands
returns-then-is_empty-clause-stands c = λ events past stands done.
    deleted_stands c.args.self.now c.unlink_all.new.self c.clear.new.self events past c.args.list.now
    (sym c.if-is_empty.ensures) stands
    (c.unlink_all.ensures ∙ ap (λ (v : ReportsView). with_each with_no_links v.events) c.self.view_is) c.clear.ensures

pub returns-then-not-is_done-clause-answer : goal.returns-then-not-is_done-clause-answer
returns-then-not-is_done-clause-answer c = λ events past stands.
    let inside = subst (λ v. StandsFor v events past) (sym c.self.view_is) stands in
    c.in_ok-answer.ensures.answer past past (c.new-draft.ensures past inside.standing)

pub returns-clause-answer : goal.returns-clause-answer
returns-clause-answer c = λ events past stands.
    let inside = subst (λ v. StandsFor v events past) (sym c.self.view_is) stands in
    sym (c.is_done.ensures.0 c.if-not-is_done.false)
    ∙ c.in_ok-answer.ensures.answer past past (c.new-draft.ensures past inside.standing)

pub returns-clause-stands : goal.returns-clause-stands
returns-clause-stands c = λ events past stands done.
    let inside = subst (λ v. StandsFor v events past) (sym c.self.view_is) stands in
    let draft = c.enter_each.new.self in
    let then =
    c.in_ok-answer.ensures.draft past past (c.new-draft.ensures past inside.standing)
    (c.is_done.ensures.0 c.if-not-is_done.false) in
    subst (StandsFor (record { events = c.in_ok-events.events; reports = c.change.new.self }) events)
    (some_defined past c.args.list.now (sym c.if-is_empty.ensures))
    (defined_stands (record { events = c.self.inside.events; reports = c.self.inside.standing }) c.in_ok-events.events
    c.change.new.self draft.changes.entries draft.count draft.deleted.keys events past
    (past_with_definitions past c.args.list.now) inside then c.in_ok-events.ensures c.in_ok-change.ensures.each
    c.in_ok-change.ensures.distinct)
