-- One after the other: one ends the run, memory runs out, or all are told.

use Rattle.std.proofs.Common.{◌∙◌, None, refl}
use Rattle.end_run.specs.Counts.{counted}
use Rattle.end_run.specs.Steps.{all_told, tells}
use Rattle.end_run.specs.Told.{telling_of}
use Rattle.end_run.proofs.Beside.{next_is, told_first}
use Rattle.end_run.proofs.Counting.{counts_behind}
use Rattle.end_run.proofs.Doing.{leads_first, leads_on, leads_stop}
use Rattle.end_run.proofs.live.tell_here.Goals as goal

pub tellings-init : goal.tellings-init
tellings-init g c = (c.requires.sound, (refl, refl, refl), λ known. (leads_first _ _, known), refl, refl)

pub tellings-preserved : goal.tellings-preserved
tellings-preserved g c = (
  c.in-None.ensures.sound,
  counts_behind _ (counted g.L.Link g.W.Sink c.tellings.link c.tellings.out (g.E.LinkedEnd.device c.tellings.end))
      (counted g.L.Link g.W.Sink c.tell_one.new.link c.tell_one.new.out (g.E.LinkedEnd.device c.tell_one.new.end)) None
      c.tellings.invariant.1 c.in-None.ensures.counts,
  λ known.
      let e = g.E.LinkedEnd in
      let here = g.N.Teller.here in
      let s = e.means c.tellings.end in
      let telling = telling_of c.told.result in
      let next =
      told_first e.machine c.args.side c.args.now (here c.tellings.told) (here c.next.new.self) _ telling s
      c.told.ensures (next_is c.in-Ok.more c.if-not-more.false c.in-Ok.ensures.next)
      in
      let leads = c.tellings.invariant.2 known in
      let told = c.in-None.ensures.runs leads.1 in (
        leads_on _ _ _ leads.0 (tells e.machine c.args.side c.args.now telling s)
            (all_told e.machine c.args.side c.args.now (here c.next.new.self)) (e.means c.tell_one.new.end) next told.0
            told.2,
        told.1,
      ),
  c.in-Ok.ensures.coming ∙ c.tellings.invariant.3,
  c.in-None.ensures.connected ∙ c.tellings.invariant.4,
)

pub returns-in-Some-clause-runs : goal.returns-in-Some-clause-runs
returns-in-Some-clause-runs g c =
    λ known.
    let e = g.E.LinkedEnd in
    let here = g.N.Teller.here in
    let s = e.means c.tellings.end in
    let telling = telling_of c.told.result in
    let next =
    told_first e.machine c.args.side c.args.now (here c.tellings.told) (here c.next.new.self) _ telling s
    c.told.ensures (next_is c.in-Ok.more c.if-not-more.false c.in-Ok.ensures.next)
    in
    let leads = c.tellings.invariant.2 known in
    let told = c.in-Some.ensures.runs leads.1 in (
      told.0,
      told.1,
      leads_stop _ _ _ leads.0 (tells e.machine c.args.side c.args.now telling s)
          (all_told e.machine c.args.side c.args.now (here c.next.new.self)) c.in-Some.ending next told.2,
    )
