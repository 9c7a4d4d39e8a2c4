-- The last lines go out, whole or in part, or there is no memory for them.

use Rattle.std.proofs.Common.{List, ℕ, subst, ◌∙◌}
use Rattle.gl_base.specs.Sending.{WroteShort, WroteText}
use Rattle.gl_base.specs.Told.{sink_told}
use Rattle.gl_base.proofs.Appending.{wrote_nothing}
use Rattle.end_run.proofs.Stepping.{ends_exact}
use Rattle.end_run.proofs.step.end_with.Goals as goal

pub returns-in_default : goal.returns-in_default
returns-in_default g c = wrote_nothing

pub returns-in-Done : goal.returns-in-Done
returns-in-Done g c =
    ends_exact (sink_told g.W.Sink c.args.out.now c.copy_out.new.out) _ c.args.how c.requires
    (subst (λ (t : List ℕ). WroteText (sink_told g.W.Sink c.args.out.now c.copy_out.new.out) t)
    (c.as_slice.ensures ∙ c.in-Ok.ensures) c.in-Done.ensures)

pub returns : goal.returns
returns g c =
    subst (λ (t : List ℕ). WroteShort (sink_told g.W.Sink c.args.out.now c.copy_out.new.out) t)
    (c.as_slice.ensures ∙ c.in-Ok.ensures) c.in-Failed.ensures
