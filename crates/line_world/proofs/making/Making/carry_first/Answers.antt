-- The first events are carried out, or there is no memory to make them.

use Rattle.std.proofs.Common.{◌++◌, List, subst, sym, ◌∙◌}
use Rattle.end_pair.specs.Kept.{seen}
use Rattle.end_pair.specs.World.{after_events}
use Rattle.line_schedule.specs.declared.event.Event.{Event}
use Rattle.line_world.specs.Making.{Leads}
use Rattle.line_world.proofs.Carried.{makes-nothing}
use Rattle.line_world.proofs.making.Making.carry_first.Goals as goal

pub returns-in-Ok : goal.returns-in-Ok
returns-in-Ok g c =
    let e = g.E.End in
    let h = g.H.End in
    λ rest whole before leads.
    c.carry_all.ensures rest whole before
    (subst (λ (events : List Event).
    Leads (after_events e.machine h.machine (events ++ rest) (seen e.means h.means c.args.self.now.world))
    c.args.self.now.counts whole before)
    (sym (c.as_slice.ensures ∙ c.in-Ok.ensures)) leads)

pub returns-in-Err : goal.returns-in-Err
returns-in-Err g c = λ rest whole before leads. makes-nothing _ _ _ _
