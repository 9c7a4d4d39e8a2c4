-- The lines of the start are counted, or the run ends there.

use Rattle.std.proofs.Common.{ap, ◌∙◌}
use Rattle.end_pair.specs.World.{begun}
use Rattle.line_schedule.specs.Lines.{lines_of}
use Rattle.message_end.specs.Core.{step_in}
use Rattle.line_world.specs.Counting.{with_lines}
use Rattle.line_world.specs.declared.counting.Counts.{Counts}
use Rattle.line_world.proofs.Carried.{begins-not, makes-event}
use Rattle.line_world.proofs.making.Making.start.Goals as goal

pub returns-in-Ok-count_lines : goal.returns-in-Ok-count_lines
returns-in-Ok-count_lines g c = record {
  ok =
      makes-event _ _ _ c.in-Ok-count_lines.counts c.new-lines.result c.start.new.lines _ c.new-lines.ensures tt
      c.in-Ok.ensures.lines c.in-Ok.ensures.world
      (c.in-Ok-count_lines.ensures
      ∙ ap (λ lines. with_lines c.no_lines.result (lines_of lines)) c.as_slice.ensures
      ∙ ap (λ (counts : Counts). with_lines counts (lines_of c.start.new.lines)) c.no_lines.ensures);
  err = tt;
}

pub returns-in-Err : goal.returns-in-Err
returns-in-Err g c =
    let e = g.E.End in
    let h = g.H.End in
    let begins = begun e.machine h.machine (step_in (e.start c.args.equipment.now c.args.equipment_store))
    (step_in (h.start c.args.host.now c.args.host_store)) in
    record {
      ok = tt;
      err =
          begins-not begins c.start.new.lines c.new-lines.result c.in-Err.stop c.in-Err.ensures.lines
          c.in-Err.ensures.stops c.in-Err.ensures.powered;
    }
