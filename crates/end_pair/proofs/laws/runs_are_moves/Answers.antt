-- Both ends keep their law from their starts on, so the log is that of moves.

use Rattle.std.proofs.Common.{subst}
use Rattle.gl_base.specs.declared.side.Side.TheVariants.{Equipment, Host}
use Rattle.message_end.specs.Core.{Went, step_in}
use Rattle.message_end.specs.Ends.{KeepsLaw}
use Rattle.message_end.specs.Moves.{plan_at}
use Rattle.message_end.specs.Plan.{EndPlan}
use Rattle.trace_log.specs.Log.{Happening}
use Rattle.end_pair.proofs.Opening.{opened}
use Rattle.end_pair.proofs.Outcomes.{log-is}
use Rattle.end_pair.proofs.laws.runs_are_moves.Goals as goal

pub returns : goal.returns
returns g c =
    let e = g.E.End in
    let h = g.H.End in
    λ equipment equipment_store host host_store plans events fits_e fits_h holds_e holds_h opens_e opens_h line may
    bytes.
    log-is (e.did equipment) (h.did host) e.takes h.takes e.loses h.loses (step_in (e.start equipment equipment_store))
    (step_in (h.start host host_store)) e.machine h.machine plans
    (subst
    (λ (w : Went e.State Happening). KeepsLaw (plan_at Equipment plans) (e.did equipment) e.takes w e.machine)
    (opened (e.start equipment equipment_store) opens_e)
    (subst
    (λ (p : EndPlan). KeepsLaw p (e.did equipment) e.takes (e.start equipment equipment_store) e.machine)
    line.equipment_is (g.met.E.End.lawful equipment equipment_store fits_e holds_e)))
    (subst (λ (w : Went h.State Happening). KeepsLaw (plan_at Host plans) (h.did host) h.takes w h.machine)
    (opened (h.start host host_store) opens_h)
    (subst (λ (p : EndPlan). KeepsLaw p (h.did host) h.takes (h.start host host_store) h.machine) line.host_is
    (g.met.H.End.lawful host host_store fits_h holds_h)))
    events may bytes
