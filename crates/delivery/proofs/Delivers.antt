-- Two ends that keep their laws deliver.
use Rattle.std.specs.Prelude.{◌≡◌, ◌==◌, ◌&&◌, ◌%◌, ℕ, Bool, true, false, List, [], ◌∷◌, Some, refl}
use Rattle.std.proofs.Common.{ap, arith}
use Rattle.std.proofs.lemmas.Bool.Decides.{nat_tests}
use Rattle.gl_base.specs.declared.side.Side.{Side}
use Rattle.gl_base.specs.Side.{other_side}
use Rattle.line_end.specs.Plan.{TimesFit}
use Rattle.line_order.specs.Acts.{HasNoSlip}
use Rattle.line_order.specs.Line.{new_line}
use Rattle.message_end.specs.Doings.{IsPlain, own_of}
use Rattle.message_end.specs.Doings.Doing.{Calls, Does, Gives, Says}
use Rattle.message_end.specs.Own.{MaySend, whole_in}
use Rattle.message_end.specs.Own.Own.{DrewNumber, DroppedMessage, GaveBlock, HeardBlock, ReceivedMessage, SentMessage, WroteFrame}
use Rattle.message_end.specs.Log.{log_of, noted_at, with_note}
use Rattle.message_end.specs.Moves.{KeepLaws, Kind, LinePlans, MayMove, Move, act_of, deeds_of, newest_place, plan_at, run_at, seen_at}
use Rattle.message_end.specs.Moves.Kind.{Added, Changed, Did, Lost, Started}
use Rattle.message_flow.specs.declared.message.Message.{Message}
use Rattle.message_flow.specs.Laws.{BlocksMakeMessages}
use Rattle.message_flow.specs.Message.{is_primary}
use Rattle.trace_log.specs.Delivered.{Delivered, GoesOn, is_same_key}
use Rattle.message_end.specs.Starts.{IsStartOf}
use Rattle.message_end.specs.Starts.IsStartOf.{of_equipment, of_host, of_journal}
use Rattle.trace_log.specs.Log.{Entry, Happening}
use Rattle.trace_log.specs.Log.Entry.{Noted}
use Rattle.delivery.specs.Laws.{Deliver, EndsDeliver}
use Rattle.delivery.specs.Order.{KindInOrder}
use Rattle.delivery.proofs.Ends.{history_of, line_side}
use Rattle.delivery.proofs.Logs.{none-delivers, none-sends, was-sent}
use Rattle.delivery.proofs.Receptions.{IsReceipt, primary-new, receipt}
use Rattle.delivery.proofs.Runs.{AllHolds, all-holds, holds-at, no-slip-now, order-at}

-- a message like none that was received has another key
apart-keys : (m other : Message) → (is_primary other ≡ is_primary m → other.system ≡ m.system → ⊥)
    → is_same_key m other ≡ false
apart-keys m other apart = go (m.system == other.system) refl
  where
    go : (same : Bool) → (m.system == other.system) ≡ same
        → (same && m.function % 2 == other.function % 2) ≡ false
    go false is = refl
    go true is = parity (m.function % 2 == other.function % 2) refl
      where
        parity : (equal : Bool) → (m.function % 2 == other.function % 2) ≡ equal → equal ≡ false
        parity false differs = refl
        parity true equal =
            let functions : other.function % 2 ≡ m.function % 2 = grind (arith, nat_tests) in
            let systems : other.system ≡ m.system = grind (arith, nat_tests) in
            absurd (apart (ap (λ (n : ℕ). n == 1) functions) systems)

plain-goes-on : (moment : ℕ) (side : Side) (what : Happening) (before : List Entry) → IsPlain what
    → GoesOn (Noted moment side what) before
plain-goes-on moment side (Happening.Sent message) before plain = absurd plain
plain-goes-on moment side (Happening.Received message) before plain = absurd plain
plain-goes-on moment side what before plain = tt

start-goes-on :
    (moment : ℕ) (side of : Side) (note : Happening) (base : ℕ) (before : List Entry) → IsStartOf of note base
    → GoesOn (Noted moment side note) before
start-goes-on moment side _ _ _ before (of_equipment found base) = tt
start-goes-on moment side _ _ _ before (of_host base) = tt
start-goes-on moment side _ _ _ before (of_journal found base) = tt

module _ (plans : LinePlans) (fits : TimesFit plans.equipment.times) (other_fits : TimesFit plans.host.times)
    (make : BlocksMakeMessages) where
  -- what is known as an end receives a message
  received-at : (side : Side) (before : List Move) (message : Message) → AllHolds plans before
      → whole_in (own_of (plan_at side plans) (run_at side plans before).doings) ≡ Some message
      → IsReceipt (history_of (plan_at side plans) (run_at side plans before))
      (history_of (plan_at (other_side side) plans) (run_at (other_side side) plans before))
      (newest_place (seen_at side plans before).here.arrived) message
  received-at side before message is may =
      let at = holds-at side plans before is.holds in
      receipt (plan_at side plans) (plan_at (other_side side) plans)
      (line_side (seen_at side plans before).here (seen_at side plans before).written (seen_at side plans before).lost)
      (line_side (seen_at side plans before).there (seen_at side plans before).written (seen_at side plans before).lost)
      (history_of (plan_at side plans) (run_at side plans before))
      (history_of (plan_at (other_side side) plans) (run_at (other_side side) plans before)) at.ends message may
      (order-at plans fits other_fits side before is.run).order

  in-order-now : (side : Side) (kind : Kind) (before : List Move) → AllHolds plans before
      → MayMove (plan_at side plans) (seen_at side plans before).there.under_way (run_at side plans before) kind
      → KindInOrder kind (plan_at (other_side side) plans) (run_at (other_side side) plans before)
      (run_at side plans before) (newest_place (seen_at side plans before).here.arrived)
  in-order-now side (Did (Does (ReceivedMessage message))) before is may =
      let it = received-at side before message is may.0.1 in
      record {
        last_block = record { giving = it.giving; given = it.given; sent = it.of_sent; last = it.last };
        rises = it.rises;
        never_falls = it.never_falls;
      }
  in-order-now side (Did (Does (DrewNumber number))) before is may = tt
  in-order-now side (Did (Does (SentMessage message))) before is may = tt
  in-order-now side (Did (Does (GaveBlock place number))) before is may = tt
  in-order-now side (Did (Does (WroteFrame place number))) before is may = tt
  in-order-now side (Did (Does (HeardBlock block now flow))) before is may = tt
  in-order-now side (Did (Does (DroppedMessage header now))) before is may = tt
  in-order-now side (Did (Gives place number block now)) before is may = tt
  in-order-now side (Did (Calls call)) before is may = tt
  in-order-now side (Did (Says what)) before is may = tt
  in-order-now side (Started note base) before is may = tt
  in-order-now side Lost before is may = tt
  in-order-now side (Changed place byte) before is may = tt
  in-order-now side (Added byte) before is may = tt

  delivered-now : (side : Side) (moment : ℕ) (kind : Kind) (before : List Move) → AllHolds plans before
      → KeepLaws plans before
      → MayMove (plan_at side plans) (seen_at side plans before).there.under_way (run_at side plans before) kind
      → Delivered (log_of before) → Delivered (with_note moment side (noted_at side kind) (log_of before))
  delivered-now side moment (Did (Does (SentMessage message))) before is laws may earlier =
      let at = holds-at side plans before is.holds in (
        λ primary.
            none-sends side plans before message laws
            (primary-new (plan_at side plans) (plan_at (other_side side) plans)
            (line_side (seen_at side plans before).here (seen_at side plans before).written
            (seen_at side plans before).lost)
            (line_side (seen_at side plans before).there (seen_at side plans before).written
            (seen_at side plans before).lost)
            (history_of (plan_at side plans) (run_at side plans before))
            (history_of (plan_at (other_side side) plans) (run_at (other_side side) plans before)) at.ends message
            (may_send side may) primary),
        earlier,
      )
    where
      may_send : (s : Side)
          → MayMove (plan_at s plans) (seen_at s plans before).there.under_way (run_at s plans before)
          (Did (Does (SentMessage message)))
          → MaySend (plan_at s plans).side (own_of (plan_at s plans) (run_at s plans before).doings) message
      may_send s can = can.0.1
  delivered-now side moment (Did (Does (ReceivedMessage message))) before is laws may earlier =
      let it = received-at side before message is may.0.1 in (
        record {
          sent = was-sent (other_side side) plans before message it.sent;
          once =
              none-delivers side plans before message laws
              (λ other has. apart-keys message other (it.once other has));
        },
        earlier,
      )
  delivered-now side moment (Did (Does (DrewNumber number))) before is laws may earlier = earlier
  delivered-now side moment (Did (Does (GaveBlock place number))) before is laws may earlier = earlier
  delivered-now side moment (Did (Does (WroteFrame place number))) before is laws may earlier = earlier
  delivered-now side moment (Did (Does (HeardBlock block now flow))) before is laws may earlier = earlier
  delivered-now side moment (Did (Does (DroppedMessage header now))) before is laws may earlier = earlier
  delivered-now side moment (Did (Gives place number block now)) before is laws may earlier = earlier
  delivered-now side moment (Did (Calls call)) before is laws may earlier = earlier
  delivered-now side moment (Did (Says what)) before is laws may earlier =
      (plain-goes-on moment side what (log_of before) may.0.1, earlier)
  delivered-now side moment (Started note base) before is laws may earlier =
      (start-goes-on moment side (plan_at side plans).side note base (log_of before) may.0, earlier)
  delivered-now side moment Lost before is laws may earlier = earlier
  delivered-now side moment (Changed place byte) before is laws may earlier = earlier
  delivered-now side moment (Added byte) before is laws may earlier = earlier

  deliver-all : (moves : List Move) → HasNoSlip (new_line plans.equipment.times plans.host.times) (deeds_of moves)
      → KeepLaws plans moves → Deliver plans moves
  deliver-all [] none laws = record { delivered = tt; in_order = tt }
  deliver-all (move ∷ before) none laws =
      let earlier_none =
      (no-slip-now move.side (act_of move.kind) (new_line plans.equipment.times plans.host.times) (deeds_of before)
      none).1
      in
      let earlier = deliver-all before earlier_none laws.1 in
      let is = all-holds plans fits other_fits make before earlier_none laws.1 in
      record {
        delivered =
            delivered-now move.side move.moment move.kind before is laws.1 laws.0 earlier.delivered;
        in_order = (in-order-now move.side move.kind before is laws.0, earlier.in_order);
      }

pub deliver : BlocksMakeMessages → EndsDeliver
deliver make plans moves fits other_fits none laws = deliver-all plans fits other_fits make moves none laws
