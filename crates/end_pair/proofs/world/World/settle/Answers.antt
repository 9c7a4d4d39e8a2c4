-- Characters are handed over one by one: the line is quiet, one ends the run, or the limit is met.

use Rattle.std.proofs.Common.{◌≡◌, ◌+◌, ◌-◌, sym, ◌∙◌, arith}
use Rattle.end_pair.specs.Kept.{IsDark, kept, seen}
use Rattle.end_pair.specs.World.{settled_times}
use Rattle.end_pair.proofs.Times.{both_empty, settles_times, times_done, times_on, times_over, times_stop}
use Rattle.end_pair.proofs.world.World.settle.Goals as goal

pub returns-then-is_quiet : goal.returns-then-is_quiet
returns-then-is_quiet g c =
    let e = kept g.E.End.means g.E.End.anew g.E.End.machine in
    let h = kept g.H.End.means g.H.End.anew g.H.End.machine in
    times_done (seen e.means h.means) (IsDark e h) (settles_times e.machine h.machine)
    c.characters.left
    c.characters.self c.characters.lines
    (settled_times e.machine h.machine c.args.n (seen e.means h.means c.args.self.now)) c.args.lines.now
    (both_empty _ _ (sym c.is_quiet.ensures ∙ c.if-is_quiet.true)) c.characters.invariant

pub returns-in_default : goal.returns-in_default
returns-in_default g c =
    let e = kept g.E.End.means g.E.End.anew g.E.End.machine in
    let h = kept g.H.End.means g.H.End.anew g.H.End.machine in
    let left : c.characters.left ≡ (c.characters.left - 1) + 1 = omega (arith, c.characters-test.true) in
    times_stop (seen e.means h.means) (IsDark e h) (settles_times e.machine h.machine)
    c.characters.left
    (c.characters.left - 1) c.characters.self c.settle_one.new.self c.characters.lines c.settle_one.new.lines
    c.settle_one.result
    (settled_times e.machine h.machine c.args.n (seen e.means h.means c.args.self.now)) c.args.lines.now left
    c.in_default.not-Went c.settle_one.ensures c.characters.invariant

pub characters-preserved : goal.characters-preserved
characters-preserved g c =
    let e = kept g.E.End.means g.E.End.anew g.E.End.machine in
    let h = kept g.H.End.means g.H.End.anew g.H.End.machine in
    let left : c.characters.left ≡ (c.characters.left - 1) + 1 = omega (arith, c.characters-test.true) in
    times_on (seen e.means h.means) (IsDark e h) (settles_times e.machine h.machine)
    c.characters.left
    (c.characters.left - 1) c.characters.self c.settle_one.new.self c.characters.lines c.settle_one.new.lines
    (settled_times e.machine h.machine c.args.n (seen e.means h.means c.args.self.now)) c.args.lines.now left
    c.in-Went.ensures c.characters.invariant

pub returns : goal.returns
returns g c =
    let e = kept g.E.End.means g.E.End.anew g.E.End.machine in
    let h = kept g.H.End.means g.H.End.anew g.H.End.machine in
    let over : c.characters.left ≡ 0 = omega (arith, c.characters-test.false) in
    times_over (seen e.means h.means) (IsDark e h) (settles_times e.machine h.machine)
    c.characters.left
    c.characters.self c.characters.lines
    (settled_times e.machine h.machine c.args.n (seen e.means h.means c.args.self.now)) c.args.lines.now over
    c.characters.invariant
