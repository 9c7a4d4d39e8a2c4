-- One event more is carried out and its lines are counted, or it ends the run.

use Rattle.std.proofs.Common.{ap, ◌∙◌}
use Rattle.line_schedule.specs.Lines.{lines_of}
use Rattle.line_world.specs.Counting.{with_lines}
use Rattle.line_world.proofs.Carried.{makes-end, makes-event, makes-nothing}
use Rattle.line_world.proofs.making.Making.carry.Goals as goal

pub returns-in_default : goal.returns-in_default
returns-in_default g c =
    makes-end _ _ c.args.self.now.counts c.args.self.now.counts c.new-lines.result c.step.new.lines c.step.result
    c.new-lines.ensures c.in_default.not-Went c.step.ensures.powered c.step.ensures.lines c.step.ensures.world

pub returns-in-Ok : goal.returns-in-Ok
returns-in-Ok g c =
    makes-event _ _ c.args.self.now.counts c.in-Ok.counts c.new-lines.result c.step.new.lines _ c.new-lines.ensures tt
    c.in-Went.ensures.lines c.in-Went.ensures.world
    (c.in-Ok.ensures ∙ ap (λ lines. with_lines c.args.self.now.counts (lines_of lines)) c.as_slice.ensures)

pub returns : goal.returns
returns g c = makes-nothing _ _ _ _
