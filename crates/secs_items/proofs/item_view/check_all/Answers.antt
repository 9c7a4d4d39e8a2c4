-- The answer by its case: a fault in the item, bytes behind it, or its view.

use Rattle.std.proofs.Common.{◌≡◌, [], length, sym, ap, ◌∙◌, arith}
use Rattle.std.proofs.lemmas.Bool.{eqb-true, eqb-false}
use Rattle.std.proofs.lemmas.List.{nil_from_length}
use Rattle.std.proofs.lemmas.Result.{err_from_is_err_and}
use Rattle.secs_items.proofs.Faults.{read_fault, read_none, read_trailing}
use Rattle.secs_items.proofs.SpellLaws.{read_spells}
use Rattle.secs_items.proofs.item_view.check_all.Goals as goal

pub returns-in_err-view-clause-fault : goal.returns-in_err-view-clause-fault
returns-in_err-view-clause-fault c =
    let p = err_from_is_err_and c.from_residual.result c.from_residual.ensures.1 in
    rw (p.1, p.2) (read_fault c.args.bytes.now _ (c.in_err-view.ensures.gives c.in_err-view.ensures.named))

pub returns-then-not-is_empty-clause-fault : goal.returns-then-not-is_empty-clause-fault
returns-then-not-is_empty-clause-fault c =
    let some = eqb-false (length c.in_ok-view.rest.now) 0 (sym c.is_empty.ensures ∙ c.if-not-is_empty.true) in
    read_trailing c.args.bytes.now _ c.in_ok-view.rest.now c.in_ok-view.ensures.gives (λ (none : c.in_ok-view.rest.now ≡ []). some (ap length none))

pub returns-clause-found : goal.returns-clause-found
returns-clause-found c =
    let none = nil_from_length c.in_ok-view.rest.now (eqb-true (length c.in_ok-view.rest.now) 0 (sym c.is_empty.ensures ∙ c.if-not-is_empty.false)) in
    read_spells c.args.bytes.now _ c.in_ok-view.rest.now (λ i. omega (arith, c.type_inv.bytes i)) c.in_ok-view.ensures.gives none

pub returns-clause-none : goal.returns-clause-none
returns-clause-none c =
    let none = nil_from_length c.in_ok-view.rest.now (eqb-true (length c.in_ok-view.rest.now) 0 (sym c.is_empty.ensures ∙ c.if-not-is_empty.false)) in
    read_none c.args.bytes.now _ c.in_ok-view.rest.now c.in_ok-view.ensures.gives none
