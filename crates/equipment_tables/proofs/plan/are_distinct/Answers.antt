-- A CEID that stands again behind itself decides; with none left all are distinct.

use Rattle.std.proofs.Common.{sym, ◌∙◌, ap, ℕ, List, map, get_or, nat_eq, arith, subst, IsTrue, ◌↔◌, Bool}
use Rattle.std.proofs.lemmas.List.{map-id}
use Rattle.std.specs.List.{IsDistinct, list_any}
use Rattle.gl_base.proofs.Distinct.{all_distinct, fresh, not_distinct}
use Rattle.equipment_tables.proofs.plan.are_distinct.Goals as goal

abbrev itself : ℕ → ℕ
itself ceid = ceid

plainly : (answer : Bool) (ceids : List ℕ) → IsTrue answer ↔ IsDistinct nat_eq (map itself ceids)
    → IsTrue answer ↔ IsDistinct nat_eq ceids
plainly answer ceids = subst (λ keys. IsTrue answer ↔ IsDistinct nat_eq keys) (map-id ceids)

pub returns-then-is_one_of : goal.returns-then-is_one_of
returns-then-is_one_of c =
    let ceid = get_or c.args.ceids.now c.loop-i.i 0 in
    let is = c.is_one_of.ensures ∙ ap (list_any (nat_eq ceid)) c.split_at.ensures.back in
    plainly _ c.args.ceids.now
    (not_distinct nat_eq itself c.args.ceids.now c.loop-i.i 0 c.is_one_of.result (omega arith) is c.if-is_one_of.true
    c.loop-i.invariant)

pub loop-i-preserved : goal.loop-i-preserved
loop-i-preserved c =
    let ceid = get_or c.args.ceids.now c.loop-i.i 0 in
    let is = c.is_one_of.ensures ∙ ap (list_any (nat_eq ceid)) c.split_at.ensures.back in
    fresh nat_eq itself c.args.ceids.now c.loop-i.i 0 _ (omega arith) (sym is ∙ c.if-is_one_of.false) c.loop-i.invariant

pub returns : goal.returns
returns c =
    plainly _ c.args.ceids.now (all_distinct nat_eq itself c.args.ceids.now c.loop-i.i (omega arith) c.loop-i.invariant)
