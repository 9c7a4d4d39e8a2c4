-- One is found exactly where it passes the test, it alone gets the deadline, and they stay transactions.

use Rattle.std.proofs.Common.{ap, rules, refl, sym, ◌∙◌}
use Rattle.transact.proofs.Kept.{timed-is, timed-keeps}
use Rattle.transact.proofs.Places.{any-found, none-found, position-some}
use Rattle.transact.proofs.transactions.Transactions.put_deadline.Goals as goal

pub returns-in_default-clause-found : goal.returns-in_default-clause-found
returns-in_default-clause-found g c = λ test is. sym (none-found test _ (sym c.in_default.is ∙ is))

pub invariant_of-self : goal.invariant_of-self
invariant_of-self g c =
    timed-keeps _ c.self.inside.begun.items _ c.in-Some.place _ c.index_mut.result.now c.self.invariant (search rules)
    (ap (λ one. one.header) c.index_mut.ensures.value) refl

pub returns-clause-found : goal.returns-clause-found
returns-clause-found g c = λ test is.
    let at = position-some test _ c.in-Some.place (sym c.in-Some.is ∙ is) in
    sym (any-found test _ c.in-Some.place c.index_mut.result.now at)

pub returns-clause-timed : goal.returns-clause-timed
returns-clause-timed g c = λ test is.
    timed-is test _ c.self.inside.begun.items c.args.self.now c.in-Some.place c.index_mut.result.now c.args.deadline
    c.self.view_is c.index_mut.ensures.value (sym c.in-Some.is ∙ is)
