-- Without its oldest message it stays a ledger, and one that was confirmed lies below.

use Rattle.std.proofs.Common.{rules, arith, ◌≡◌, ap, ℕ, ◌+◌}
use Rattle.spool_ledger.specs.Sizes.{oldest_of}
use Rattle.spool_ledger.proofs.Keeping.{oldest_out_as, rises}
use Rattle.spool_ledger.proofs.ledger.Ledger.oldest_out.Goals as goal

pub invariant_of-self-2 : goal.invariant_of-self-2
invariant_of-self-2 c =
    let freed : c.from.result ≡ oldest_of c.self.inside.sizes.now = search rules in
    oldest_out_as _ _ _ _ c.push.new.self c.self.invariant (search rules)
    (ap (λ (n : ℕ). c.self.inside.first + n) freed) (search rules) (search rules) (search rules)

pub returns-clause-notes : goal.returns-clause-notes
returns-clause-notes c = λ for_one. let notes = c.in_ok-note_leaving.ensures.notes for_one in search rules

pub returns-clause-confirmed : goal.returns-clause-confirmed
returns-clause-confirmed c =
    let freed : c.from.result ≡ oldest_of c.self.inside.sizes.now = search rules in
    let up = rises _ c.self.invariant (search rules) in
    omega (arith, freed, up)
