-- A start by where it ends: at its lines, at the connection, or behind its first step.

use Rattle.std.proofs.Common.{◌≡◌, ◌∙◌, None, Some, inl, inr, refl, sym}
use Rattle.message_end.specs.Ends.Input.{Time}
use Rattle.gl_base.specs.Told.{sink_told}
use Rattle.end_run.specs.declared.ending.Ending.TheVariants as ending
use Rattle.end_run.specs.Counts.{counted}
use Rattle.end_run.specs.Scenes.{scene}
use Rattle.end_run.specs.Steps.{started, stepped}
use Rattle.end_run.proofs.Coming.{comes_more}
use Rattle.end_run.proofs.Counting.{counts_behind, start_counts, wrote_counts}
use Rattle.end_run.proofs.Starting.{connects_not, start_falls, start_runs}
use Rattle.end_run.proofs.Stepping.{start_text}
use Rattle.end_run.proofs.Turning.{if_on}
use Rattle.end_run.proofs.run.begin.Goals as goal

pub returns-in-Some-clause-runs : goal.returns-in-Some-clause-runs
returns-in-Some-clause-runs g c =
    λ known start is are.
    let e = g.E.LinkedEnd in (
      None,
      known,
      start_falls e.machine c.args.side start _ _
          (start_text c.notes_are_lines.ensures c.args.side start c.args.notes.now are) _ _ c.in-Some.ending
          c.in-Some.ensures,
    )

pub returns-in_default-clause-runs : goal.returns-in_default-clause-runs
returns-in_default-clause-runs g c =
    λ known start is are.
    let e = g.E.LinkedEnd in (
      None,
      known,
      connects_not e.machine c.args.side start _ _
          (start_text c.notes_are_lines.ensures c.args.side start c.args.notes.now are) _ _ _ _ _
          c.in_default.ensures.same c.in_default.ensures.moment c.in-None.ensures c.in_default.ensures.cause,
    )

pub returns-clause-runs : goal.returns-clause-runs
returns-clause-runs g c =
    λ known start is are.
    let e = g.E.LinkedEnd in
    let begun =
    start_runs e.machine c.args.side start
    (scene g.L.Link g.W.Sink c.args.link.now c.args.out.now (e.means c.args.end.now) (e.room c.args.end.now) None) _
    (start_text c.notes_are_lines.ensures c.args.side start c.args.notes.now are) _ _ _ _ _
    c.in-Done.ensures.same c.in-Done.ensures.moment c.in-None.ensures c.in-Done.ensures.cause
    in
    comes_more e.known e.left c.step_plain.new.end c.args.end.now
    (scene g.L.Link g.W.Sink c.args.link.now c.args.out.now (e.means c.args.end.now) (e.room c.args.end.now) None)
    (scene g.L.Link g.W.Sink c.connect.new.self c.put_start.new.out (e.means c.args.end.now) (e.room c.args.end.now))
    (scene g.L.Link g.W.Sink c.step_plain.new.link c.step_plain.new.out (e.means c.step_plain.new.end)
    (e.room c.step_plain.new.end))
    (started c.args.side start) (stepped e.machine c.args.side 0 Time) c.step_plain.result
    (begun, known, sym is) (c.step_plain.ensures.runs known)

pub returns-in-Some-clause-counts : goal.returns-in-Some-clause-counts
returns-in-Some-clause-counts g c =
    start_counts (g.L.Link.health c.args.link.now).faults (g.E.LinkedEnd.device c.args.end.now)
    (sink_told g.W.Sink c.args.out.now c.put_start.new.out) _ (Some c.in-Some.ending) c.in-Some.ensures

pub returns-in_default-clause-counts : goal.returns-in_default-clause-counts
returns-in_default-clause-counts g c =
    let disk = g.E.LinkedEnd.device c.args.end.now in
    counts_behind (counted g.L.Link g.W.Sink c.args.link.now c.args.out.now disk)
    (counted g.L.Link g.W.Sink c.args.link.now c.put_start.new.out disk)
    (counted g.L.Link g.W.Sink c.connect.new.self c.put_start.new.out disk) (Some ending.LinkFailed)
    (wrote_counts (g.L.Link.health c.args.link.now).faults disk
    (sink_told g.W.Sink c.args.out.now c.put_start.new.out) _ c.in-None.ensures)
    (c.in_default.ensures.cause.rose, refl, refl)

pub returns-clause-counts : goal.returns-clause-counts
returns-clause-counts g c =
    let disk = g.E.LinkedEnd.device c.args.end.now in
    let end =
    counted g.L.Link g.W.Sink c.step_plain.new.link c.step_plain.new.out (g.E.LinkedEnd.device c.step_plain.new.end)
    in
    counts_behind (counted g.L.Link g.W.Sink c.args.link.now c.args.out.now disk)
    (counted g.L.Link g.W.Sink c.args.link.now c.put_start.new.out disk) end c.step_plain.result
    (wrote_counts (g.L.Link.health c.args.link.now).faults disk
    (sink_told g.W.Sink c.args.out.now c.put_start.new.out) _ c.in-None.ensures)
    (counts_behind (counted g.L.Link g.W.Sink c.args.link.now c.put_start.new.out disk)
    (counted g.L.Link g.W.Sink c.connect.new.self c.put_start.new.out disk) end c.step_plain.result
    (c.in-Done.ensures.cause.same, refl, refl) c.step_plain.ensures.counts)

pub returns-in-Some-clause-connected : goal.returns-in-Some-clause-connected
returns-in-Some-clause-connected g c = inl refl

pub returns-in_default-clause-connected : goal.returns-in_default-clause-connected
returns-in_default-clause-connected g c = inr c.in_default.ensures.connected

pub returns-clause-connected : goal.returns-clause-connected
returns-clause-connected g c = inr (c.step_plain.ensures.connected ∙ c.in-Done.ensures.connected)

pub returns-clause-opened : goal.returns-clause-opened
returns-clause-opened g c =
    if_on c.step_plain.result _ (c.step_plain.ensures.connected ∙ c.in-Done.ensures.connected)
