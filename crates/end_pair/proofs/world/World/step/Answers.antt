-- What an event comes to: its lines and its world, and that no event ends without power.

use Rattle.std.proofs.Common.{◌≡◌, sym, subst}
use Rattle.trace_log.specs.Text.{text_of}
use Rattle.end_pair.specs.Kept.{IsDark, Makes, kept, seen}
use Rattle.end_pair.specs.World.{Piece, after_event}
use Rattle.end_pair.proofs.Ending.{meets, powered_by}
use Rattle.end_pair.proofs.Pieces.{went_of}
use Rattle.end_pair.proofs.Powered.{event-powered}
use Rattle.end_pair.proofs.world.World.step.Goals as goal

pub returns-in_default : goal.returns-in_default
returns-in_default g c =
    let e = kept g.E.End.means g.E.End.anew g.E.End.machine in
    let h = kept g.H.End.means g.H.End.anew g.H.End.machine in
    let was = seen e.means h.means c.args.self.now in
    let piece = after_event e.machine h.machine c.args.event.now was in
    let comes : Makes e h piece c.meet.new.self c.args.lines.now c.meet.new.lines c.meet.result =
    subst (λ (p : Piece g.E.End.State g.H.End.State).
    Makes e h p c.meet.new.self c.args.lines.now c.meet.new.lines c.meet.result)
    (sym (meets e h c.args.event.now was c.in_default.not-Cut c.in_default.not-HostCut)) c.meet.ensures
    in
    record {
      lines = comes.puts;
      world =
          went_of (seen e.means h.means c.meet.new.self ≡ piece.world)
          (λ side. IsDark e h side c.meet.new.self piece.world) c.meet.result comes.world;
      powered =
          powered_by piece.went (text_of piece.entries) c.args.lines.now c.meet.new.lines c.meet.result
          (event-powered e.machine h.machine c.args.event.now was) comes.puts;
    }
