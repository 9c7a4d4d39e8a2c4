-- The first entry that can't be entered gives the answer; with none left all are in the draft.

use Rattle.std.proofs.Common.{sym, ◌∙◌, ap, subst, ◌∷◌, arith}
use Rattle.gem_shapes.specs.declared.entries.Definition.{Definition}
use Rattle.gem_vars.specs.Tables.{value_in}
use Rattle.gem_reports.specs.Answers.{define_entry}
use Rattle.gem_reports.specs.Drafts.{IsDraft}
use Rattle.gem_reports.proofs.Entering.{defining, defining_done, defining_more, defining_refused, kept_drack, not_done}
use Rattle.gem_reports.proofs.draft.Draft.enter_each.Goals as goal

pub returns-then-not-is_done-clause-answer : goal.returns-then-not-is_done-clause-answer
returns-then-not-is_done-clause-answer c = λ start past draft.
    let value = value_in c.args.vars.now in
    let changes = c.loop-entry.self.changes.entries in
    let count = c.loop-entry.self.count in
    defining_refused value c.args.standing.now changes count c.loop-entry.self.deleted.keys start past c.args.list.now
    c.loop-entry.entry-index c.entry-item.result c.verdict-answer.result (omega arith)
    (c.verdict-answer.ensures
    ∙ ap (λ (e : Definition). kept_drack value c.args.standing.now changes count e) c.entry-item.is)
    (not_done c.is_done.result _ c.is_done.ensures c.if-not-is_done.true) (c.loop-entry.invariant start past draft)

pub loop-entry-init : goal.loop-entry-init
loop-entry-init c = λ start past draft.
    defining (value_in c.args.vars.now) c.args.standing.now c.args.self.now.changes.entries c.args.self.now.count
    c.args.self.now.deleted.keys start past c.args.list.now draft

pub loop-entry-preserved : goal.loop-entry-preserved
loop-entry-preserved c = λ start past draft.
    let value = value_in c.args.vars.now in
    let standing = c.args.standing.now in
    let changes = c.loop-entry.self.changes.entries in
    let count = c.loop-entry.self.count in
    let now = c.enter.new.self.changes.entries in
    let after = c.enter.new.self.count in
    let gone = c.enter.new.self.deleted.keys in
    let done = sym (c.is_done.ensures.0 c.if-not-is_done.false) ∙ c.verdict-answer.ensures in
    defining_more value standing changes now count after c.loop-entry.self.deleted.keys gone start past c.args.list.now
    c.loop-entry.entry-index c.entry-item.result (omega arith)
    (done ∙ ap (λ (e : Definition). kept_drack value standing changes count e) c.entry-item.is)
    (λ at so_far. subst (λ (e : Definition). IsDraft standing now after gone start (define_entry e ∷ at)) c.entry-item.is
    (c.in_ok-enter.ensures value start at so_far done))
    (c.loop-entry.invariant start past draft)

pub returns-clause-answer : goal.returns-clause-answer
returns-clause-answer c = λ start past draft.
    (defining_done (value_in c.args.vars.now) c.args.standing.now c.loop-entry.self.changes.entries
    c.loop-entry.self.count c.loop-entry.self.deleted.keys start past c.args.list.now c.loop-entry.entry-index
    (omega arith) (c.loop-entry.invariant start past draft)).0

pub returns-clause-draft : goal.returns-clause-draft
returns-clause-draft c = λ start past draft done.
    (defining_done (value_in c.args.vars.now) c.args.standing.now c.loop-entry.self.changes.entries
    c.loop-entry.self.count c.loop-entry.self.deleted.keys start past c.args.list.now c.loop-entry.entry-index
    (omega arith) (c.loop-entry.invariant start past draft)).1
