-- One is found exactly where it passes the test, and the others stay transactions.

use Rattle.std.proofs.Common.{rules, sym, ◌∙◌, ap}
use Rattle.transact.specs.Transactions.{TransactionsView}
use Rattle.transact.proofs.Kept.{less-keeps}
use Rattle.transact.proofs.Places.{found-none, read-found}
use Rattle.transact.proofs.transactions.Transactions.take_out.Goals as goal

pub returns-in_default-clause-found : goal.returns-in_default-clause-found
returns-in_default-clause-found g c = λ test is. sym (found-none test _ (sym c.in_default.is ∙ is))

pub invariant_of-self : goal.invariant_of-self
invariant_of-self g c =
    less-keeps _ c.self.inside.begun.items _ c.in-Some.place c.self.invariant (search rules) c.remove.ensures.items

pub returns-clause-found : goal.returns-clause-found
returns-clause-found g c = λ test is.
    let same = ap (λ (v : TransactionsView g.row.K.Denot). v.begun) c.self.view_is in
    read-found test c.args.self.now.begun _ c.in-Some.place c.remove.result same c.remove.ensures.value
    (sym c.in-Some.is ∙ is)
