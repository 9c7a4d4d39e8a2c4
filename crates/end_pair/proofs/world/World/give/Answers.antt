-- Characters are handed over one by one: none is left, one ends the run, or all n are handed over.

use Rattle.std.proofs.Common.{◌≡◌, ◌+◌, ◌-◌, sym, ◌∙◌, arith}
use Rattle.end_pair.specs.Kept.{IsDark, kept, seen}
use Rattle.end_pair.specs.World.{given_times}
use Rattle.end_pair.proofs.Times.{gives_times, times_done, times_on, times_over, times_stop}
use Rattle.end_pair.proofs.world.World.give.Goals as goal

pub returns-then-not-is_under_way : goal.returns-then-not-is_under_way
returns-then-not-is_under_way g c =
    let e = kept g.E.End.means g.E.End.anew g.E.End.machine in
    let h = kept g.H.End.means g.H.End.anew g.H.End.machine in
    times_done (seen e.means h.means) (IsDark e h)
    (gives_times e.machine h.machine c.args.side) c.characters.left
    c.characters.self c.characters.lines
    (given_times e.machine h.machine c.args.n c.args.side (seen e.means h.means c.args.self.now)) c.args.lines.now
    (sym c.is_under_way.ensures ∙ c.if-not-is_under_way.true) c.characters.invariant

pub returns-in_default : goal.returns-in_default
returns-in_default g c =
    let e = kept g.E.End.means g.E.End.anew g.E.End.machine in
    let h = kept g.H.End.means g.H.End.anew g.H.End.machine in
    let left : c.characters.left ≡ (c.characters.left - 1) + 1 = omega (arith, c.characters-test.true) in
    times_stop (seen e.means h.means) (IsDark e h)
    (gives_times e.machine h.machine c.args.side) c.characters.left
    (c.characters.left - 1) c.characters.self c.hand.new.self c.characters.lines c.hand.new.lines c.hand.result
    (given_times e.machine h.machine c.args.n c.args.side (seen e.means h.means c.args.self.now)) c.args.lines.now left
    c.in_default.not-Went c.hand.ensures c.characters.invariant

pub characters-preserved : goal.characters-preserved
characters-preserved g c =
    let e = kept g.E.End.means g.E.End.anew g.E.End.machine in
    let h = kept g.H.End.means g.H.End.anew g.H.End.machine in
    let left : c.characters.left ≡ (c.characters.left - 1) + 1 = omega (arith, c.characters-test.true) in
    times_on (seen e.means h.means) (IsDark e h)
    (gives_times e.machine h.machine c.args.side) c.characters.left
    (c.characters.left - 1) c.characters.self c.hand.new.self c.characters.lines c.hand.new.lines
    (given_times e.machine h.machine c.args.n c.args.side (seen e.means h.means c.args.self.now)) c.args.lines.now left
    c.in-Went.ensures c.characters.invariant

pub returns : goal.returns
returns g c =
    let e = kept g.E.End.means g.E.End.anew g.E.End.machine in
    let h = kept g.H.End.means g.H.End.anew g.H.End.machine in
    let over : c.characters.left ≡ 0 = omega (arith, c.characters-test.false) in
    times_over (seen e.means h.means) (IsDark e h)
    (gives_times e.machine h.machine c.args.side) c.characters.left
    c.characters.self c.characters.lines
    (given_times e.machine h.machine c.args.n c.args.side (seen e.means h.means c.args.self.now)) c.args.lines.now over
    c.characters.invariant
