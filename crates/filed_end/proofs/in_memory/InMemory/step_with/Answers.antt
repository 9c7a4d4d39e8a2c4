use Rattle.message_end.specs.Ends.{input_of}
use Rattle.filed_end.specs.InMemory.{reach_in, state_in}
use Rattle.filed_end.proofs.StepEnds.{err-ends, err-whole, ok-ends, ok-whole, told-leaves}
use Rattle.filed_end.proofs.in_memory.InMemory.step_with.Goals as goal

pub returns-in-Err-clause-step : goal.returns-in-Err-clause-step
returns-in-Err-clause-step g c =
    let form = g.N.FiledEnd.form in
    let was = form.view c.args.end in
    let input = input_of c.args.input in
    told-leaves (form.machine.stops was input c.args.now) (form.machine.lacks_room was input c.args.now)
    (form.machine.act was input c.args.now) was (state_in form c.args.self.now.plan c.args.self.now.going)
    c.step.new.out c.in-Err.ended c.left_by-lost.result.1 c.left_by-lost.ensures.stop c.in-Err.ensures.moves

pub returns-in-Ok-clause-ends : goal.returns-in-Ok-clause-ends
returns-in-Ok-clause-ends g c =
    ok-ends g.N.FiledEnd.form g.N.FiledEnd.can_step g.N.FiledEnd.may_hold g.met.N.FiledEnd.restarts c.args.self.now.plan
    c.args.end c.requires.power (input_of c.args.input) c.args.now c.step.new.out c.in-Ok.end c.in-Ok.ensures.moves
    c.in-Ok.ensures.breaks c.args.self.now.lost c.requires.none

pub returns-in-Ok-clause-sound : goal.returns-in-Ok-clause-sound
returns-in-Ok-clause-sound g c =
    ok-whole g.N.FiledEnd.form g.N.FiledEnd.can_step g.N.FiledEnd.may_hold g.met.N.FiledEnd.restarts
    c.args.self.now.plan c.args.end c.requires.power (input_of c.args.input) c.args.now c.step.new.out c.in-Ok.end
    c.in-Ok.ensures.moves
    c.in-Ok.ensures.breaks c.args.self.now.lost c.requires.none

pub returns-in-Err-clause-ends : goal.returns-in-Err-clause-ends
returns-in-Err-clause-ends g c =
    let form = g.N.FiledEnd.form in
    err-ends form g.N.FiledEnd.can_step g.N.FiledEnd.may_hold g.met.N.FiledEnd.restarts c.args.self.now.plan c.args.end
    c.requires.power (input_of c.args.input) c.args.now c.step.new.out c.in-Err.ended c.left_by-lost.result.0
    c.left_by-lost.ensures.lost c.left_by-lost.ensures.images c.args.self.now.going c.requires.gone
    c.in-Err.ensures.breaks c.left_by-lost.ensures.fitted
    (reach_in form c.args.self.now.going c.args.self.now.unmet) c.left_by-lost.result.1 c.left_by-lost.ensures.stop

pub returns-in-Err-clause-sound : goal.returns-in-Err-clause-sound
returns-in-Err-clause-sound g c =
    err-whole g.N.FiledEnd.form g.N.FiledEnd.can_step g.N.FiledEnd.may_hold g.met.N.FiledEnd.restarts
    c.args.self.now.plan c.args.end c.requires.power (input_of c.args.input) c.args.now c.step.new.out c.in-Err.ended
    c.left_by-lost.result.0 c.left_by-lost.ensures.lost c.left_by-lost.ensures.images c.args.self.now.going
    c.requires.gone c.in-Err.ensures.breaks c.left_by-lost.ensures.fitted
