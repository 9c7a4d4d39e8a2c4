-- Line by line: one ends the run, or all are told.

use Rattle.std.proofs.Common.{◌≤◌, ◌+◌, ◌∙◌, List, None, Some, refl, length, drop, ap, arith}
use Rattle.std.proofs.lemmas.List.{drop_all}
use Rattle.end_run.specs.Script.{ScriptLine, told_by}
use Rattle.end_run.specs.Steps.{all_told, tells}
use Rattle.end_run.proofs.Doing.{leads_done, leads_first, leads_on, leads_stop}
use Rattle.end_run.proofs.Turning.{next_line}
use Rattle.end_run.specs.Counts.{counted}
use Rattle.end_run.proofs.Counting.{counts_behind}
use Rattle.end_run.proofs.telling.tell_all.Goals as goal

pub lines-init : goal.lines-init
lines-init g c = (c.requires.sound, (refl, refl, refl), λ known. (leads_first _ _, known), refl)

pub returns-in-Some-clause-runs : goal.returns-in-Some-clause-runs
returns-in-Some-clause-runs g c =
    λ known.
    let e = g.E.LinkedEnd in
    let i = c.lines.line-index in
    let next =
    ap (λ (lines : List ScriptLine). all_told e.machine c.args.side c.args.now (told_by e.told lines)
    (e.means c.lines.end))
    (next_line c.args.lines.now i c.line-item.result c.lines-test.true c.line-item.is)
    in
    let here = c.lines.invariant.2 known in
    let told = c.in-Some.ensures.runs here.1 in (
      told.0,
      told.1,
      leads_stop _ _ _ here.0
          (tells e.machine c.args.side c.args.now (e.told c.line-item.result.1) (e.means c.lines.end))
          (all_told e.machine c.args.side c.args.now (told_by e.told (drop (i + 1) c.args.lines.now))) c.in-Some.ending next
          told.2,
    )

pub lines-preserved : goal.lines-preserved
lines-preserved g c = (
  c.in-None.ensures.sound,
  counts_behind _ (counted g.L.Link g.W.Sink c.lines.link c.lines.out (g.E.LinkedEnd.device c.lines.end))
      (counted g.L.Link g.W.Sink c.tell.new.link c.tell.new.out (g.E.LinkedEnd.device c.tell.new.end)) None
      c.lines.invariant.1 c.in-None.ensures.counts,
  λ known.
      let e = g.E.LinkedEnd in
      let i = c.lines.line-index in
      let next =
      ap (λ (lines : List ScriptLine). all_told e.machine c.args.side c.args.now (told_by e.told lines)
      (e.means c.lines.end))
      (next_line c.args.lines.now i c.line-item.result c.lines-test.true c.line-item.is)
      in
      let here = c.lines.invariant.2 known in
      let told = c.in-None.ensures.runs here.1 in (
        leads_on _ _ _ here.0
            (tells e.machine c.args.side c.args.now (e.told c.line-item.result.1) (e.means c.lines.end))
            (all_told e.machine c.args.side c.args.now (told_by e.told (drop (i + 1) c.args.lines.now)))
            (e.means c.tell.new.end) next told.0 told.2,
        told.1,
      ),
  c.in-None.ensures.connected ∙ c.lines.invariant.3,
)

pub returns-clause-runs : goal.returns-clause-runs
returns-clause-runs g c =
    λ known.
    let e = g.E.LinkedEnd in
    let past : length c.args.lines.now ≤ c.lines.line-index = omega (arith, c.lines-test.false) in
    let here = c.lines.invariant.2 known in
    let done =
    leads_done _ _ _ _ (e.means c.lines.end) here.0
    (ap (λ (lines : List ScriptLine). all_told e.machine c.args.side c.args.now (told_by e.told lines)
    (e.means c.lines.end))
    (drop_all c.lines.line-index c.args.lines.now past))
    in (done.0, here.1, done.1)

pub returns-in-Some-clause-counts : goal.returns-in-Some-clause-counts
returns-in-Some-clause-counts g c =
    counts_behind _ (counted g.L.Link g.W.Sink c.lines.link c.lines.out (g.E.LinkedEnd.device c.lines.end))
    (counted g.L.Link g.W.Sink c.tell.new.link c.tell.new.out (g.E.LinkedEnd.device c.tell.new.end))
    (Some c.in-Some.ending) c.lines.invariant.1 c.in-Some.ensures.counts

pub returns-clause-counts : goal.returns-clause-counts
returns-clause-counts g c = c.lines.invariant.1

pub returns-in-Some-clause-connected : goal.returns-in-Some-clause-connected
returns-in-Some-clause-connected g c = c.in-Some.ensures.connected ∙ c.lines.invariant.3

pub returns-clause-connected : goal.returns-clause-connected
returns-clause-connected g c = c.lines.invariant.3
