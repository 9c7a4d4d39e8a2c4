-- The view in front: it is a view, its item is what reads there, and it shows these bytes.

use Rattle.std.proofs.Common.{ℕ, ◌-◌, ◌/◌, List, length, take, Ok, sym, ap, subst, ◌∙◌, arith}
use Rattle.std.proofs.lemmas.Result.{err_from_is_err_and}
use Rattle.secs_items.specs.Heads.{head_view}
use Rattle.secs_items.specs.Views.{ShowsFront, item_in}
use Rattle.secs_items.proofs.ItemSteps.{item_no_head}
use Rattle.secs_items.proofs.ViewSteps.{shown_as, skip_fault, view_front, view_shows}
use Rattle.secs_items.proofs.item_view.view_of.Goals as goal

pub returns-in_err-head-clause-gives : goal.returns-in_err-head-clause-gives
returns-in_err-head-clause-gives c =
    let p = err_from_is_err_and c.from_residual.result c.from_residual.ensures.1 in
    rw (p.1, p.2) (λ named. item_no_head c.args.total c.args.depth c.args.bytes.now _ (c.in_err-head.ensures.gives named))

pub returns-in_err-rest-clause-gives : goal.returns-in_err-rest-clause-gives
returns-in_err-rest-clause-gives c =
    let p = err_from_is_err_and c.from_residual-in_err-rest.result c.from_residual-in_err-rest.ensures.1 in
    rw (p.1, p.2) (λ named. skip_fault c.args.total c.args.depth c.args.bytes.now (head_view c.in_ok-head.head) _ c.in_ok-head.ensures.fits.deep c.in_ok-head.ensures.gives (c.in_err-rest.ensures.gives named))

pub invariant_of-view : goal.invariant_of-view
invariant_of-view c =
    let h = head_view c.in_ok-head.head in
    let rest = c.in_ok-rest.rest.now in
    let n = length h.rest - length rest in
    let f =
    view_front c.args.total c.args.depth c.args.bytes.now h rest (h.size / c.unit.result) c.saturating_sub.result n
    (λ i. omega (arith, c.type_inv.bytes i)) c.in_ok-head.ensures.gives c.in_ok-rest.ensures.gives (omega (arith, c.in_ok-rest.ensures.within))
    (ap (λ (u : ℕ). h.size / u) c.unit.ensures) c.saturating_sub.ensures in
    rw c.split_at.ensures.front f.whole

pub returns-clause-gives : goal.returns-clause-gives
returns-clause-gives c =
    let h = head_view c.in_ok-head.head in
    let rest = c.in_ok-rest.rest.now in
    let n = length h.rest - length rest in
    let f =
    view_front c.args.total c.args.depth c.args.bytes.now h rest (h.size / c.unit.result) c.saturating_sub.result n
    (λ i. omega (arith, c.type_inv.bytes i)) c.in_ok-head.ensures.gives c.in_ok-rest.ensures.gives (omega (arith, c.in_ok-rest.ensures.within))
    (ap (λ (u : ℕ). h.size / u) c.unit.ensures) c.saturating_sub.ensures in
    f.read ∙ ap (λ (bs : List ℕ). Ok (item_in h.kind (h.size / c.unit.result) c.saturating_sub.result bs, rest)) (sym c.split_at.ensures.front)

pub returns-clause-shown : goal.returns-clause-shown
returns-clause-shown c =
    let h = head_view c.in_ok-head.head in
    let rest = c.in_ok-rest.rest.now in
    let n = length h.rest - length rest in
    let counted = ap (λ (u : ℕ). h.size / u) c.unit.ensures in
    let f =
    view_front c.args.total c.args.depth c.args.bytes.now h rest (h.size / c.unit.result) c.saturating_sub.result n
    (λ i. omega (arith, c.type_inv.bytes i)) c.in_ok-head.ensures.gives c.in_ok-rest.ensures.gives
    (omega (arith, c.in_ok-rest.ensures.within)) counted c.saturating_sub.ensures in
    let s =
    view_shows c.args.total c.args.depth c.args.bytes.now h rest (h.size / c.unit.result) c.saturating_sub.result (take n h.rest)
    (λ i. omega (arith, c.type_inv.bytes i)) c.in_ok-head.ensures.gives counted f in
    subst (λ (bs : List ℕ). ShowsFront c.args.bytes.now (shown_as h (h.size / c.unit.result) c.saturating_sub.result bs) rest) (sym c.split_at.ensures.front) s
