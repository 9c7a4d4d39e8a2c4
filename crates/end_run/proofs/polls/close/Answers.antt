-- The line of the closing is the last one, or there is no memory for it.

use Rattle.std.proofs.Common.{List, ℕ, append-nil, ap, subst, ◌∙◌}
use Rattle.gl_base.specs.Told.{sink_told}
use Rattle.gl_base.proofs.Appending.{wrote_nothing}
use Rattle.trace_log.specs.Text.{note_line}
use Rattle.end_run.specs.declared.ending.Ending.TheVariants as ending
use Rattle.end_run.specs.Calls.{EndsWith}
use Rattle.end_run.proofs.polls.close.Goals as goal

pub returns-in_default : goal.returns-in_default
returns-in_default g c = wrote_nothing

pub returns : goal.returns
returns g c =
    subst (λ (t : List ℕ). EndsWith (sink_told g.W.Sink c.args.out.now c.end_with.new.out) t ending.Closed
    c.end_with.result)
    (append-nil (note_line c.args.now c.args.side c.in-Ok.note) ∙ ap (note_line c.args.now c.args.side) c.in-Ok.ensures)
    c.end_with.ensures
