use Rattle.std.proofs.Common.{subst, sym}
use Rattle.filed_end.specs.Form.{HasPower}
use Rattle.filed_end.proofs.in_memory.InMemoryEnd.start.Goals as goal

pub returns-in-Ok-start_over-clause-sound : goal.returns-in-Ok-start_over-clause-sound
returns-in-Ok-start_over-clause-sound g c = (
  subst g.N.FiledEnd.fits (sym c.in-Ok.ensures) c.requires.plan,
  subst (λ p. HasPower g.N.FiledEnd.form g.N.FiledEnd.can_step p c.in-Ok-start_over.end) (sym c.in-Ok.ensures)
      c.in-Ok-start_over.ensures.power,
)
