-- What is said of a safe log holds at each of its entries.
use Rattle.std.proofs.Common.{Bool, true, false, List, [], ◌∷◌, ◌++◌, Some, if◌then◌else◌}
use Rattle.end_pair.specs.Noted.{noted_by, timed_by}
use Rattle.equipment_tables.specs.declared.plan.EquipmentPlan.{EquipmentPlan}
use Rattle.tool_reports.specs.Reported.{Reported}
use Rattle.tool_spool.specs.LeavesInStep.{LeaveInTheirSteps}
use Rattle.tool_spool.specs.MadeRoom.{MakesRoomForPuts}
use Rattle.setup_law.specs.Setup.{KeepsSetup}
use Rattle.setup_law.specs.Tables.{KeptSetupHolds}
use Rattle.tool_spool.specs.SpoolKept.{policy_of}
use Rattle.equipment_tables.specs.declared.plan.Plans.{Plans}
use Rattle.gl_base.specs.declared.side.Side.{Side}
use Rattle.gl_base.specs.declared.side.Side.TheVariants.{Equipment, Host}
use Rattle.gl_base.specs.Side.{is_same_side}
use Rattle.spool_delivery.specs.Laws.{IsSpoolTaken}
use Rattle.spool_law.specs.Shelf.{Policy}
use Rattle.trace_log.specs.Delivered.{Delivered}
use Rattle.trace_log.specs.Log.{Entry, Happening}
use Rattle.trace_log.specs.Log.Entry.{Ended, Noted, Slipped}
use Rattle.line_world.specs.Cuts.{AreSampledSoFar}
use Rattle.line_world.specs.Reports.{TellOfEvents}
use Rattle.line_world.specs.Safe.{HoldsAtEachEntry, HoldsSoFar, HostDid}
use Rattle.line_world.proofs.OrderSoFar.{order-at, order-so-far}

delivered-so-far : (later log : List Entry) → Delivered (later ++ log) → Delivered log
delivered-so-far [] log all = all
delivered-so-far (entry ∷ later) log all = delivered-so-far later log all.1

spooled-so-far : (policy : Policy) (later log : List Entry) → IsSpoolTaken policy (later ++ log)
    → IsSpoolTaken policy log
spooled-so-far policy [] log all = all
spooled-so-far policy (entry ∷ later) log all =
    spooled-so-far policy later log (record { kept = all.kept.1; taken = all.taken.1 })

-- what holds of all notes of an end, and so of those so far
pub notes-so-far : (side : Side) (P : List Happening → Type 0)
    → ((what : Happening) (before : List Happening) → P (what ∷ before) → P before)
    → (later log : List Entry) → P (noted_by side (later ++ log)) → P (noted_by side log)
notes-so-far side P less [] log all = all
notes-so-far side P less (Noted moment end what ∷ later) log all =
    notes-so-far side P less later log (one (is_same_side side end) all)
  where
    notes : List Happening
    notes = noted_by side (later ++ log)

    one : (same : Bool) → P (if same then what ∷ notes else notes) → P notes
    one true all = less what notes all
    one false all = all
notes-so-far side P less (Slipped moment end frame characters ∷ later) log all = notes-so-far side P less later log all
notes-so-far side P less (Ended moment ∷ later) log all = notes-so-far side P less later log all

sampled-so-far : (plan : EquipmentPlan) (later log : List Entry)
    → AreSampledSoFar plan (timed_by Equipment (later ++ log)) → AreSampledSoFar plan (timed_by Equipment log)
sampled-so-far plan [] log all = all
sampled-so-far plan (Noted moment Equipment what ∷ later) log all = sampled-so-far plan later log all.1
sampled-so-far plan (Noted moment Host what ∷ later) log all = sampled-so-far plan later log all
sampled-so-far plan (Slipped moment side frame characters ∷ later) log all = sampled-so-far plan later log all
sampled-so-far plan (Ended moment ∷ later) log all = sampled-so-far plan later log all

-- what is said of all entries so far is said of the older ones
pub so-far : KeptSetupHolds → (plans : Plans) (later log : List Entry) → HoldsSoFar plans (later ++ log)
    → HoldsSoFar plans log
so-far told plans later log all = record {
  delivered = delivered-so-far later log all.delivered;
  in_order = order-so-far plans later log all.in_order;
  reported =
      record {
        in_their_start = of (Reported plans.equipment) (λ what before all. all.1) all.reported.in_their_start;
        over_all_starts = of (TellOfEvents plans.equipment) (λ what before all. all.1) all.reported.over_all_starts;
      };
  sampled = sampled-so-far plans.equipment later log all.sampled;
  spooled = spooled-so-far policy later log all.spooled;
  left =
      record {
        caused = of (LeaveInTheirSteps policy) (λ what before all. all.1) all.left.caused;
        overwritten = of MakesRoomForPuts (λ what before all. all.1) all.left.overwritten;
      };
  set_up = record { kept = kept; told = told plans.equipment (Some []) (noted_by Equipment log) kept };
}
  where
    policy : Policy
    policy = policy_of plans.equipment plans.slots

    of : (P : List Happening → Type 0) → ((what : Happening) (before : List Happening) → P (what ∷ before) → P before)
        → P (noted_by Equipment (later ++ log)) → P (noted_by Equipment log)
    of P less held = notes-so-far Equipment P less later log held

    kept : KeepsSetup plans.equipment (Some []) (noted_by Equipment log)
    kept = of (KeepsSetup plans.equipment (Some [])) (λ what before all. all.1) all.set_up.kept

pub holds-at-each : KeptSetupHolds → HoldsAtEachEntry
holds-at-each told plans later log safe =
    so-far told plans later log
    (record {
      delivered = safe.delivered;
      in_order = order-at plans (HostDid plans.host) (later ++ log) safe.in_order.moved safe.in_order.in_order;
      reported = safe.reported;
      sampled = safe.sampled;
      spooled = safe.spooled;
      left = safe.left;
      set_up = safe.set_up;
    })
