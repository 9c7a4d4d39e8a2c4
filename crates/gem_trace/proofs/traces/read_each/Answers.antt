-- One trace more is read, or one fails, of which nothing is seen.

use Rattle.std.proofs.Common.{sym, ◌∙◌, ap}
use Rattle.std.specs.Prelude.{set}
use Rattle.std.proofs.lemmas.List.Edits.{map_over_more}
use Rattle.gem_trace.specs.Kept.{seen, with_reading}
use Rattle.gem_trace.proofs.Reading.{failed_kept, one_failed, read_kept, read_unseen}
use Rattle.gem_trace.proofs.traces.read_each.Goals as goal

pub returns-in_err-read-clause-unseen : goal.returns-in_err-read-clause-unseen
returns-in_err-read-clause-unseen c =
    one_failed c.args.vars.now c.args.now c.args.running.now c.requires c.loop-i.i c.loop-i.running c.loop-i.invariant
    c.index-running-i.result c.read.new.self c.index-running-i.is
    (c.in_err-read.ensures.err ∙ ap seen (sym c.index-running-i.is))

pub returns-in_err-read-clause-keeps : goal.returns-in_err-read-clause-keeps
returns-in_err-read-clause-keeps c =
    failed_kept c.args.vars.now c.args.now c.args.running.now c.requires c.loop-i.i c.loop-i.running
    c.loop-i.invariant c.read.new.self c.in_err-read.ensures.kept

pub loop-i-preserved : goal.loop-i-preserved
loop-i-preserved c =
    ap (set c.loop-i.running c.loop-i.i)
    (c.in_ok-read.ensures.ok ∙ ap (with_reading c.args.vars.now c.args.now) (sym c.index-running-i.is))
    ∙ map_over_more (with_reading c.args.vars.now c.args.now) c.args.running.now c.loop-i.running c.loop-i.i
    c.index-running-i.result c.loop-i-test.true c.loop-i.invariant c.index-running-i.is

pub returns-clause-unseen : goal.returns-clause-unseen
returns-clause-unseen c =
    read_unseen c.args.vars.now c.args.now c.args.running.now c.requires c.loop-i.i c.loop-i.running
    c.loop-i.invariant

pub returns-clause-keeps : goal.returns-clause-keeps
returns-clause-keeps c =
    read_kept c.args.vars.now c.args.now c.args.running.now c.requires c.loop-i.i c.loop-i.running
    c.loop-i.invariant
