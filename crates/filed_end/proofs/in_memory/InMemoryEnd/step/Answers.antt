use Rattle.std.proofs.Common.{subst, sym, ◌∙◌, is_some}
use Rattle.message_end.specs.Ends.{EndsBy, Leaves, input_of}
use Rattle.filed_end.specs.InMemory.{anew_over, reach_in, state_in}
use Rattle.filed_end.proofs.Anew.{power-in}
use Rattle.filed_end.proofs.in_memory.InMemoryEnd.step.Goals as goal

pub step_with-requires-clause-power : goal.step_with-requires-clause-power
step_with-requires-clause-power g c =
    (power-in g.N.FiledEnd.form g.N.FiledEnd.can_step g.N.FiledEnd.may_hold c.args.self.now.plan c.args.self.now.going
    c.args.self.now.lost c.in-Some.end (sym c.take.ensures.value ∙ c.in-Some.is) c.requires.sound.1).0

pub step_with-requires-clause-none : goal.step_with-requires-clause-none
step_with-requires-clause-none g c =
    (power-in g.N.FiledEnd.form g.N.FiledEnd.can_step g.N.FiledEnd.may_hold c.args.self.now.plan c.args.self.now.going
    c.args.self.now.lost c.in-Some.end (sym c.take.ensures.value ∙ c.in-Some.is) c.requires.sound.1).1

pub returns-in-Some-clause-step : goal.returns-in-Some-clause-step
returns-in-Some-clause-step g c =
    let form = g.N.FiledEnd.form in
    let end = c.step_with.new.self in
    subst
    (λ o.
    Leaves (form.machine.stops (state_in form c.args.self.now.plan o) (input_of c.args.input) c.args.now)
    (form.machine.lacks_room (state_in form c.args.self.now.plan o) (input_of c.args.input) c.args.now)
    (form.machine.act (state_in form c.args.self.now.plan o) (input_of c.args.input) c.args.now)
    (state_in form end.plan end.going) c.step_with.new.out c.step_with.result)
    (sym (sym c.take.ensures.value ∙ c.in-Some.is)) c.step_with.ensures.step

pub returns-in-Some-clause-ends : goal.returns-in-Some-clause-ends
returns-in-Some-clause-ends g c =
    let form = g.N.FiledEnd.form in
    let end = c.step_with.new.self in
    subst
    (λ o.
    EndsBy form.machine
    (form.machine.losses (state_in form c.args.self.now.plan o) (input_of c.args.input) c.args.now)
    (reach_in form o c.args.self.now.unmet) (reach_in form end.going end.unmet) (is_some end.lost)
    (λ choice now. anew_over form end.plan end.going end.lost choice now) c.step_with.new.out c.step_with.result)
    (sym (sym c.take.ensures.value ∙ c.in-Some.is)) c.step_with.ensures.ends

pub returns-in-Some-clause-sound : goal.returns-in-Some-clause-sound
returns-in-Some-clause-sound g c =
    (subst g.N.FiledEnd.fits (sym c.step_with.ensures.plan) c.requires.sound.0, c.step_with.ensures.sound)
