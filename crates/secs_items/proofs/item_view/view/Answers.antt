-- The view by a check: there is a head, the rest is whole, and the bytes spell the item.

use Rattle.std.proofs.Common.{ℕ, ◌/◌, [], length, ap, arith, refl}
use Rattle.secs_items.specs.Heads.{head_view}
use Rattle.secs_items.specs.Views.{item_in}
use Rattle.secs_items.proofs.CheckedViews.{has_head, whole_front}
use Rattle.secs_items.proofs.SpellLaws.{read_spells}
use Rattle.secs_items.proofs.ViewSteps.{view_shows}
use Rattle.secs_items.proofs.item_view.view.Goals as goal

pub unreachable-requires : goal.unreachable-requires
unreachable-requires c =
    has_head c.args.bytes.now c.in_default.field-0 c.requires.whole (c.in_default.ensures.gives c.in_default.ensures.named)

pub invariant_of-result : goal.invariant_of-result
invariant_of-result c =
    let h = head_view c.in-Ok.head in
    let f =
    whole_front c.args.bytes.now h (h.size / c.unit.result) 63 (λ i. omega (arith, c.type_inv.bytes i)) c.requires.whole c.in-Ok.ensures.gives
    (ap (λ (u : ℕ). h.size / u) c.unit.ensures) refl in
    f.whole

pub returns-clause-found : goal.returns-clause-found
returns-clause-found c =
    let h = head_view c.in-Ok.head in
    let f =
    whole_front c.args.bytes.now h (h.size / c.unit.result) 63 (λ i. omega (arith, c.type_inv.bytes i)) c.requires.whole c.in-Ok.ensures.gives
    (ap (λ (u : ℕ). h.size / u) c.unit.ensures) refl in
    read_spells c.args.bytes.now (item_in h.kind (h.size / c.unit.result) 63 h.rest) [] (λ i. omega (arith, c.type_inv.bytes i)) f.read refl

pub returns-clause-shown : goal.returns-clause-shown
returns-clause-shown c =
    let h = head_view c.in-Ok.head in
    let counted = ap (λ (u : ℕ). h.size / u) c.unit.ensures in
    let f =
    whole_front c.args.bytes.now h (h.size / c.unit.result) 63 (λ i. omega (arith, c.type_inv.bytes i)) c.requires.whole c.in-Ok.ensures.gives
    counted refl in
    view_shows (length c.args.bytes.now) 64 c.args.bytes.now h [] (h.size / c.unit.result) 63 h.rest
    (λ i. omega (arith, c.type_inv.bytes i)) c.in-Ok.ensures.gives counted f
