-- The items in front of the child and the child itself read, being parts of a whole item, so neither is a fault.

use Rattle.std.proofs.Common.{length, arith}
use Rattle.secs_items.proofs.ViewSteps.{child_is, child_of, child_read, child_shown, ok_err}
use Rattle.secs_items.proofs.item_view.ItemView.child_at.Goals as goal

pub unreachable-requires : goal.unreachable-requires
unreachable-requires c =
    let v = c.self.inside in
    let content = c.args.content.now in
    let h =
    child_of v.kind v.count v.depth
    (length content) c.args.place v.content.now c.args.self.now content c.self.view_is c.self.invariant c.requires.within c.requires.same
    (λ i. omega (arith, c.type_inv.content i)) in
    ok_err _ h.others c.in_default.field-0 h.skipped (c.in_default.ensures.gives c.in_default.ensures.named)

pub unreachable-requires-in_default-view_of : goal.unreachable-requires-in_default-view_of
unreachable-requires-in_default-view_of c =
    let v = c.self.inside in
    let content = c.args.content.now in
    let h =
    child_of v.kind v.count v.depth
    (length content) c.args.place v.content.now c.args.self.now content c.self.view_is c.self.invariant c.requires.within c.requires.same
    (λ i. omega (arith, c.type_inv.content i)) in
    let read = child_read c.args.self.now v.depth (length content) c.args.place content c.in-Ok.rest.now h c.in-Ok.ensures.gives in
    ok_err _ (h.here, h.after) c.in_default-view_of.field-0 read (c.in_default-view_of.ensures.gives c.in_default-view_of.ensures.named)

pub returns-clause-item : goal.returns-clause-item
returns-clause-item c =
    let v = c.self.inside in
    let content = c.args.content.now in
    let h =
    child_of v.kind v.count v.depth
    (length content) c.args.place v.content.now c.args.self.now content c.self.view_is c.self.invariant c.requires.within c.requires.same
    (λ i. omega (arith, c.type_inv.content i)) in
    child_is c.args.self.now v.depth (length content) c.args.place content c.in-Ok.rest.now h c.in-Ok-view_of.view.item c.in-Ok-view_of.field-0-1.now c.in-Ok.ensures.gives c.in-Ok-view_of.ensures.gives

pub returns-clause-shown : goal.returns-clause-shown
returns-clause-shown c =
    let v = c.self.inside in
    let content = c.args.content.now in
    let h =
    child_of v.kind v.count v.depth
    (length content) c.args.place v.content.now c.args.self.now content c.self.view_is c.self.invariant c.requires.within c.requires.same
    (λ i. omega (arith, c.type_inv.content i)) in
    child_shown c.args.self.now c.in-Ok-view_of.view v.depth (length content) c.args.place content c.in-Ok.rest.now c.in-Ok-view_of.field-0-1.now h c.in-Ok.ensures.gives c.in-Ok-view_of.ensures.shown
