-- The lines that are due are told, and unless one ends the run the plain input comes behind them.

use Rattle.std.proofs.Common.{ℕ, List, Some, None, take, ap, subst, ◌∙◌}
use Rattle.end_run.specs.Calls.{plain_input}
use Rattle.end_run.specs.Outcome.{Comes}
use Rattle.end_run.specs.Scenes.{scene}
use Rattle.end_run.specs.Script.{ScriptLine, due_lines, told_by}
use Rattle.end_run.specs.Steps.{all_told, stepped}
use Rattle.end_run.proofs.Coming.{comes_more, comes_stop}
use Rattle.end_run.specs.Counts.{counted}
use Rattle.end_run.proofs.Counting.{counts_behind}
use Rattle.end_run.proofs.telling.answer.Goals as goal

pub returns-in-Some-clause-runs : goal.returns-in-Some-clause-runs
returns-in-Some-clause-runs g c =
    λ known.
    let e = g.E.LinkedEnd in
    let a = scene g.L.Link g.W.Sink c.args.link.now c.args.out.now (e.means c.args.end.now) (e.room c.args.end.now) None
    in
    let b = scene g.L.Link g.W.Sink c.tell_all.new.link c.tell_all.new.out (e.means c.tell_all.new.end)
    (e.room c.tell_all.new.end) in
    let due = c.split_at.ensures.front ∙ ap (λ (n : ℕ). take n c.args.lines.now) c.due_count-count.ensures.count in
    comes_stop e.known e.left c.tell_all.new.end a b
    (all_told e.machine c.args.side c.args.now (told_by e.told (due_lines c.args.now c.args.lines.now))
    (e.means c.args.end.now))
    (stepped e.machine c.args.side c.args.now (plain_input c.args.byte)) c.in-Some.ending
    (subst
    (λ (lines : List ScriptLine). Comes e.known e.left c.tell_all.new.end a b
    (all_told e.machine c.args.side c.args.now (told_by e.told lines) (e.means c.args.end.now)) (Some c.in-Some.ending))
    due (c.in-Some.ensures.runs known))

pub returns-in-None-clause-runs : goal.returns-in-None-clause-runs
returns-in-None-clause-runs g c =
    λ known.
    let e = g.E.LinkedEnd in
    let a = scene g.L.Link g.W.Sink c.args.link.now c.args.out.now (e.means c.args.end.now) (e.room c.args.end.now) None
    in
    let b = scene g.L.Link g.W.Sink c.tell_all.new.link c.tell_all.new.out (e.means c.tell_all.new.end)
    (e.room c.tell_all.new.end) in
    let due = c.split_at.ensures.front ∙ ap (λ (n : ℕ). take n c.args.lines.now) c.due_count-count.ensures.count in
    let told = c.in-None.ensures.runs known in
    comes_more e.known e.left c.step_plain.new.end c.tell_all.new.end a b
    (scene g.L.Link g.W.Sink c.step_plain.new.link c.step_plain.new.out (e.means c.step_plain.new.end)
    (e.room c.step_plain.new.end))
    (all_told e.machine c.args.side c.args.now (told_by e.told (due_lines c.args.now c.args.lines.now))
    (e.means c.args.end.now))
    (stepped e.machine c.args.side c.args.now (plain_input c.args.byte)) c.step_plain.result
    (subst
    (λ (lines : List ScriptLine). Comes e.known e.left c.tell_all.new.end a b
    (all_told e.machine c.args.side c.args.now (told_by e.told lines) (e.means c.args.end.now)) None)
    due told)
    (c.step_plain.ensures.runs told.1)

pub returns-in-None-clause-counts : goal.returns-in-None-clause-counts
returns-in-None-clause-counts g c =
    let e = g.E.LinkedEnd in
    counts_behind (counted g.L.Link g.W.Sink c.args.link.now c.args.out.now (e.device c.args.end.now))
    (counted g.L.Link g.W.Sink c.tell_all.new.link c.tell_all.new.out (e.device c.tell_all.new.end))
    (counted g.L.Link g.W.Sink c.step_plain.new.link c.step_plain.new.out (e.device c.step_plain.new.end))
    c.step_plain.result
    c.in-None.ensures.counts c.step_plain.ensures.counts
