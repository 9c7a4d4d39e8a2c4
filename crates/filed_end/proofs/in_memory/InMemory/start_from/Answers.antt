use Rattle.std.proofs.Common.{subst, sym}
use Rattle.filed_end.specs.InMemory.{IsStartable, StartsAnew, starts_over}
use Rattle.filed_end.proofs.Anew.{cut-startable, never-anew}
use Rattle.filed_end.proofs.in_memory.InMemory.start_from.Goals as goal

pub take_up-requires-clause-disk : goal.take_up-requires-clause-disk
take_up-requires-clause-disk g c =
    subst (λ d. IsStartable g.N.FiledEnd.may_hold d) (sym c.in-Ok.ensures.state)
    (cut-startable g.N.FiledEnd.may_hold c.args.disk.now c.requires.disk c.args.choice)

pub returns-in-Ok-clause-anew : goal.returns-in-Ok-clause-anew
returns-in-Ok-clause-anew g c =
    let new = c.take_up.new in
    subst
    (λ d.
    StartsAnew g.N.FiledEnd.form g.N.FiledEnd.can_step g.N.FiledEnd.may_hold new.self.plan
    (starts_over g.N.FiledEnd.form c.args.self.now.plan d) new.self.going new.self.unmet new.out c.take_up.result)
    c.in-Ok.ensures.state c.take_up.ensures.anew

pub returns-in-Err-clause-anew : goal.returns-in-Err-clause-anew
returns-in-Err-clause-anew g c =
    never-anew g.N.FiledEnd.form g.N.FiledEnd.can_step g.N.FiledEnd.may_hold c.args.self.now.plan _
    c.args.self.now.going c.requires.gone c.args.out.now c.requires.out.line c.args.self.now.unmet
