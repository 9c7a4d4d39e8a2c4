use Rattle.filed_end.specs.InMemory.{starts_over}
use Rattle.filed_end.proofs.Anew.{anew-on, not-anew}
use Rattle.filed_end.proofs.in_memory.InMemory.take_up.Goals as goal

pub returns-in-Ok-clause-anew : goal.returns-in-Ok-clause-anew
returns-in-Ok-clause-anew g c =
    anew-on g.N.FiledEnd.form g.N.FiledEnd.can_step g.N.FiledEnd.may_hold c.args.self.now.plan c.args.disk c.in-Ok.end
    c.args.self.now.unmet c.start_anew.new.out c.in-Ok.ensures.start c.in-Ok.ensures.power c.in-Ok.ensures.reach

pub returns-in-Err-clause-anew : goal.returns-in-Err-clause-anew
returns-in-Err-clause-anew g c =
    not-anew g.N.FiledEnd.form g.N.FiledEnd.can_step g.N.FiledEnd.may_hold c.args.self.now.plan
    (starts_over g.N.FiledEnd.form c.args.self.now.plan c.args.disk) c.args.self.now.going c.requires.gone
    c.start_anew.new.out c.in-Err.why c.in-Err.ensures.start c.in-Err.ensures.whole c.args.self.now.unmet
