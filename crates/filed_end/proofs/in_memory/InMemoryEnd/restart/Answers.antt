use Rattle.std.proofs.Common.{subst, sym}
use Rattle.filed_end.specs.InMemory.{IsWhole, StartsAnew}
use Rattle.filed_end.proofs.Anew.{is-anew}
use Rattle.filed_end.proofs.in_memory.InMemoryEnd.restart.Goals as goal

pub start_from-requires-clause-disk : goal.start_from-requires-clause-disk
start_from-requires-clause-disk g c =
    (is-anew g.N.FiledEnd.form g.N.FiledEnd.can_step g.N.FiledEnd.may_hold g.met.N.FiledEnd.restarts
    g.met.N.FiledEnd.stands c.args.self.now.plan c.in-Some.disk c.args.choice c.args.now c.args.self.now.going _
    c.args.self.now.lost _ _
    c.disk_in.ensures c.take-lost.ensures.value c.take-going.ensures.value c.in-Some.is c.requires.sound.1).0

pub returns-in-Some-clause-start : goal.returns-in-Some-clause-start
returns-in-Some-clause-start g c =
    let new = c.start_from.new in
    let is =
    is-anew g.N.FiledEnd.form g.N.FiledEnd.can_step g.N.FiledEnd.may_hold g.met.N.FiledEnd.restarts
    g.met.N.FiledEnd.stands c.args.self.now.plan c.in-Some.disk c.args.choice c.args.now c.args.self.now.going _
    c.args.self.now.lost _ _
    c.disk_in.ensures c.take-lost.ensures.value c.take-going.ensures.value c.in-Some.is c.requires.sound.1 in
    (subst
    (λ went.
    StartsAnew g.N.FiledEnd.form g.N.FiledEnd.can_step g.N.FiledEnd.may_hold new.self.plan went new.self.going
    new.self.unmet new.out c.start_from.result)
    is.1 c.start_from.ensures.anew).start

pub returns-in-Some-clause-whole : goal.returns-in-Some-clause-whole
returns-in-Some-clause-whole g c = c.start_from.ensures.anew.whole

pub returns-in-Some-clause-reach : goal.returns-in-Some-clause-reach
returns-in-Some-clause-reach g c = c.start_from.ensures.anew.reach

pub returns-in-Some-clause-sound : goal.returns-in-Some-clause-sound
returns-in-Some-clause-sound g c =
    let new = c.start_from.new.self in (
      subst g.N.FiledEnd.fits (sym c.start_from.ensures.plan) c.requires.sound.0,
      subst
          (λ o. IsWhole g.N.FiledEnd.form g.N.FiledEnd.can_step g.N.FiledEnd.may_hold new.plan new.going o)
          (sym c.start_from.ensures.lost) c.start_from.ensures.anew.sound,
    )
