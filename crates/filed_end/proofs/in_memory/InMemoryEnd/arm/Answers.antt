use Rattle.std.proofs.Common.{ap, sym, ◌∙◌}
use Rattle.message_end.specs.Ends.{with_cut}
use Rattle.filed_end.specs.Form.{disk_reach}
use Rattle.filed_end.specs.InMemory.{reach_in, state_in}
use Rattle.filed_end.proofs.Anew.{armed-power, power-in}
use Rattle.filed_end.proofs.in_memory.InMemoryEnd.arm.Goals as goal

pub returns-in-Some-clause-reach : goal.returns-in-Some-clause-reach
returns-in-Some-clause-reach g c loses =
    let form = g.N.FiledEnd.form in
    ap (λ d. disk_reach d) c.arm.ensures.disk
    ∙ sym (ap (λ o. with_cut c.args.call (reach_in form o c.args.self.now.unmet)) c.in-Some.is)

pub returns-in-Some-clause-means : goal.returns-in-Some-clause-means
returns-in-Some-clause-means g c =
    c.arm.ensures.means ∙ sym (ap (λ o. state_in g.N.FiledEnd.form c.args.self.now.plan o) c.in-Some.is)

pub returns-in-Some-clause-sound : goal.returns-in-Some-clause-sound
returns-in-Some-clause-sound g c =
    let form = g.N.FiledEnd.form in
    let can = g.N.FiledEnd.can_step in
    let may = g.N.FiledEnd.may_hold in
    let plan = c.args.self.now.plan in
    let power =
    (power-in form can may plan c.args.self.now.going c.args.self.now.lost c.in-Some.end c.in-Some.is
    c.requires.sound.1).0
    in (
      c.requires.sound.0,
      armed-power form can may plan c.in-Some.end c.arm.new.self c.args.call power (c.arm.ensures.can power.can_step)
          c.arm.ensures.disk c.arm.ensures.means,
    )
