-- A view is a number exactly where the item that it shows is one, kind by kind.

use Rattle.std.proofs.Common.{sym, ap, ◌∙◌}
use Rattle.secs_items.specs.declared.item.Item.{out-Item}
use Rattle.secs_items.specs.Views.{Viewed, item_in, number_of}
use Rattle.secs_items.proofs.Viewing.{as_U1, as_U2, as_U4, as_U8, count_in, kind_in, no_number, other_kind}
use Rattle.secs_items.proofs.item_view.ItemView.number.Goals as goal

pub returns-then-self-ne1 : goal.returns-then-self-ne1
returns-then-self-ne1 c =
    let v = c.self.inside in
    let x = out-Item (item_in v.kind v.count v.depth v.content.now) in
    sym (no_number x (λ one. c.if-self-ne1.true (sym (count_in v.kind v.count v.depth v.content.now c.self.invariant) ∙ one))) ∙ ap (λ (w : Viewed). number_of (out-Item w.item)) c.self.view_is

pub returns-in-U1 : goal.returns-in-U1
returns-in-U1 c =
    let v = c.self.inside in
    sym (as_U1 v.kind v.count v.depth v.content.now c.from.result c.in-U1.is c.if-self-ne1.false c.from.ensures c.self.invariant) ∙ ap (λ (w : Viewed). number_of (out-Item w.item)) c.self.view_is

pub returns-in-U2 : goal.returns-in-U2
returns-in-U2 c =
    let v = c.self.inside in
    sym (as_U2 v.kind v.count v.depth v.content.now c.from-in-U2.result c.in-U2.is c.if-self-ne1.false (c.from-in-U2.ensures ∙ c.read.ensures) c.self.invariant) ∙ ap (λ (w : Viewed). number_of (out-Item w.item)) c.self.view_is

pub returns-in-U4 : goal.returns-in-U4
returns-in-U4 c =
    let v = c.self.inside in
    sym (as_U4 v.kind v.count v.depth v.content.now c.from-in-U4.result c.in-U4.is c.if-self-ne1.false (c.from-in-U4.ensures ∙ c.read-in-U4.ensures) c.self.invariant) ∙ ap (λ (w : Viewed). number_of (out-Item w.item)) c.self.view_is

pub returns-in-U8 : goal.returns-in-U8
returns-in-U8 c =
    let v = c.self.inside in
    sym (as_U8 v.kind v.count v.depth v.content.now c.read-in-U8.result c.in-U8.is c.if-self-ne1.false c.read-in-U8.ensures c.self.invariant) ∙ ap (λ (w : Viewed). number_of (out-Item w.item)) c.self.view_is

pub returns-in_default : goal.returns-in_default
returns-in_default c =
    let v = c.self.inside in
    let x = out-Item (item_in v.kind v.count v.depth v.content.now) in
    let o = c.in_default in
    sym (other_kind v.kind x (kind_in v.kind v.count v.depth v.content.now) o.not-U1 o.not-U2 o.not-U4 o.not-U8) ∙ ap (λ (w : Viewed). number_of (out-Item w.item)) c.self.view_is
