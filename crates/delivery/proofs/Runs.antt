-- Two ends on their line, after any moves.
use Rattle.std.specs.Prelude.{◌≡◌, false, List, [], ◌∷◌, Option, Some, None, refl}
use Rattle.std.proofs.Common.{sym, subst}
use Rattle.gl_base.specs.declared.side.Side.{Side}
use Rattle.gl_base.specs.declared.side.Side.TheVariants.{Equipment, Host}
use Rattle.gl_base.specs.Side.{other_side}
use Rattle.line_end.specs.Plan.{TimesFit}
use Rattle.line_order.specs.Acts.{Act, Deed, HasNoSlip, IsRun, line_after}
use Rattle.line_order.specs.Laws.{ComesInOrder}
use Rattle.line_order.specs.Line.{Line, View, new_line, seen_from}
use Rattle.line_order.proofs.Given.{contains-none}
use Rattle.line_order.proofs.Steps.{arrive_in_order}
use Rattle.message_end.specs.Plan.{EndPlan}
use Rattle.message_end.specs.Moves.{KeepLaws, LinePlans, MayMove, Move, act_of, deeds_of, new_run, plan_at, run_after, run_at, seen_at, with_act}
use Rattle.message_flow.specs.Laws.{BlocksMakeMessages}
use Rattle.delivery.proofs.Ends.{IsEnd, history_of}
use Rattle.delivery.proofs.Fitting.{Fits}
use Rattle.delivery.proofs.Fitting.FitFact.{GivenFit, HeardFit, SentFit}
use Rattle.delivery.proofs.Moving.{CanDoOne, Holds, acted, can-act, move-step, slips_in, turned-holds}
use Rattle.delivery.proofs.Sound.{sound-new}
use Rattle.delivery.proofs.Tags.{new_end}

-- ---- at first

new-fits : (plan : EndPlan) → Fits 0 [] [] [] [] (new_end plan)
new-fits plan SentFit = record {
  old = [];
  ever_is = refl;
  now_are = refl;
  old_are = refl;
  placed = tt;
  old_primaries = λ m has. absurd has;
  least = λ number has. absurd has;
  drawn_are = λ m has. absurd has;
}
new-fits plan GivenFit =
    record { new = []; old = []; given_is = refl; new_are = refl; old_are = refl; below = λ b has. absurd has }
new-fits plan HeardFit = λ h has. absurd has
new-fits plan fact = refl

end-new : (plan : EndPlan)
    → IsEnd plan (record { held = None; given = []; frames = []; arrived = []; written = 0; lost = 0 })
    (history_of plan new_run) (new_end plan)
end-new plan = record {
  plan_is = refl;
  fits = new-fits plan;
  tied = record {
    given_are = refl;
    placed = tt;
    held_is = λ block holds. cc;
    frames_are = λ frame has. absurd (contains-none frame has);
  };
  met = λ h has. absurd has;
  newest = tt;
  places_met = λ place has. absurd has;
}

-- ---- a deed more, as either end sees it

abbrev pub view_at : Side → Line → View
view_at side line = seen_from side line

pub seen-acted : (side : Side) (act : Option Act) (start : Line) (deeds : List Deed)
    → seen_from side (line_after start (with_act side act deeds)) ≡ acted act (seen_from side (line_after start deeds))
seen-acted side None start deeds = refl
seen-acted Equipment (Some act) start deeds = refl
seen-acted Host (Some act) start deeds = refl

pub no-slip-now : (side : Side) (act : Option Act) (start : Line) (deeds : List Deed)
    → HasNoSlip start (with_act side act deeds)
    → (slips_in act (seen_from side (line_after start deeds)) ≡ false) × HasNoSlip start deeds
no-slip-now side None start deeds none = (refl, none)
no-slip-now side (Some act) start deeds none = none

runs-on : (side : Side) (act : Option Act) (start : Line) (deeds : List Deed)
    → CanDoOne (seen_from side (line_after start deeds)).here.state act → IsRun start deeds
    → IsRun start (with_act side act deeds)
runs-on side None start deeds can run = run
runs-on side (Some act) start deeds can run = (can, run)

-- ---- after any moves

-- what holds as an end sees it
abbrev pub HoldsAt : Side → LinePlans → List Move → Type 0
HoldsAt side plans moves =
    Holds (plan_at side plans) (plan_at (other_side side) plans) (seen_at side plans moves) (run_at side plans moves)
    (run_at (other_side side) plans moves)

pub record AllHolds (plans : LinePlans) (moves : List Move) : Type 0 where
  pub run : IsRun (new_line plans.equipment.times plans.host.times) (deeds_of moves)
  pub holds : HoldsAt Equipment plans moves

pub holds-at : (side : Side) (plans : LinePlans) (moves : List Move) → HoldsAt Equipment plans moves
    → HoldsAt side plans moves
holds-at Equipment plans moves is = is
holds-at Host plans moves is =
    turned-holds (plan_at Equipment plans) (plan_at Host plans) (seen_at Equipment plans moves)
    (run_at Equipment plans moves) (run_at Host plans moves) is

holds-from : (side : Side) (plans : LinePlans) (moves : List Move) → HoldsAt side plans moves
    → HoldsAt Equipment plans moves
holds-from Equipment plans moves is = is
holds-from Host plans moves is =
    turned-holds (plan_at Host plans) (plan_at Equipment plans) (seen_at Host plans moves)
    (run_at Host plans moves) (run_at Equipment plans moves) is

module _ (plans : LinePlans) (fits : TimesFit plans.equipment.times) (other_fits : TimesFit plans.host.times) where
  start : Line
  start = new_line plans.equipment.times plans.host.times

  -- what has arrived at an end of what the other one was given
  pub order-at : (side : Side) (moves : List Move)
      → IsRun (new_line plans.equipment.times plans.host.times) (deeds_of moves)
      → ComesInOrder (seen_at side plans moves).there.given (seen_at side plans moves).here.arrived
  order-at Equipment moves run =
      (arrive_in_order plans.equipment.times plans.host.times (deeds_of moves) fits other_fits run).to_equipment
  order-at Host moves run =
      (arrive_in_order plans.equipment.times plans.host.times (deeds_of moves) fits other_fits run).to_host

  move-on : BlocksMakeMessages → (side : Side) (move : Move) (before : List Move) → move.side ≡ side
      → MayMove (plan_at side plans) (seen_at side plans before).there.under_way (run_at side plans before) move.kind
      → HasNoSlip (new_line plans.equipment.times plans.host.times) (with_act side (act_of move.kind) (deeds_of before))
      → AllHolds plans before
      → AllHolds plans (record move { side = side } ∷ before)
  move-on make side move before same may none is = record {
    run = run;
    holds = holds-from side plans (record move { side = side } ∷ before) (after side moved);
  }
    where
      at : HoldsAt side plans before
      at = holds-at side plans before is.holds

      act : Option Act
      act = act_of move.kind

      run : IsRun (new_line plans.equipment.times plans.host.times) (with_act side (act_of move.kind) (deeds_of before))
      run =
          runs-on side (act_of move.kind) (new_line plans.equipment.times plans.host.times) (deeds_of before)
          (can-act (plan_at side plans) (seen_at side plans before).there.under_way (run_at side plans before) move.kind
          (seen_at side plans before).here.state at.here_state may)
          is.run

      seen :
          seen_at side plans (record move { side = side } ∷ before)
          ≡ acted (act_of move.kind) (seen_at side plans before)
      seen =
          seen-acted side (act_of move.kind) (new_line plans.equipment.times plans.host.times) (deeds_of before)

      order :
          ComesInOrder (acted (act_of move.kind) (seen_at side plans before)).there.given
          (acted (act_of move.kind) (seen_at side plans before)).here.arrived
      order =
          subst (λ (view : View). ComesInOrder view.there.given view.here.arrived) seen
          (order-at side (record move { side = side } ∷ before) run)

      moved : Holds (plan_at side plans) (plan_at (other_side side) plans)
          (seen_at side plans (record move { side = side } ∷ before))
          (run_after (plan_at side plans) (seen_at side plans before).here.arrived move.kind (run_at side plans before))
          (run_at (other_side side) plans before)
      moved =
          subst
          (λ (view : View). Holds (plan_at side plans) (plan_at (other_side side) plans) view
          (run_after (plan_at side plans) (seen_at side plans before).here.arrived move.kind (run_at side plans before))
          (run_at (other_side side) plans before))
          (sym seen)
          (move-step make (plan_at side plans) (plan_at (other_side side) plans) (seen_at side plans before)
          (run_at side plans before) (run_at (other_side side) plans before) move.kind may
          (no-slip-now side (act_of move.kind) (new_line plans.equipment.times plans.host.times) (deeds_of before)
          none).0
          order at)

      after : (s : Side)
          → Holds (plan_at s plans) (plan_at (other_side s) plans) (seen_at s plans (record move { side = s } ∷ before))
          (run_after (plan_at s plans) (seen_at s plans before).here.arrived move.kind (run_at s plans before))
          (run_at (other_side s) plans before)
          → HoldsAt s plans (record move { side = s } ∷ before)
      after Equipment is_moved = is_moved
      after Host is_moved = is_moved

  pub all-holds : BlocksMakeMessages → (moves : List Move)
      → HasNoSlip (new_line plans.equipment.times plans.host.times) (deeds_of moves) → KeepLaws plans moves
      → AllHolds plans moves
  all-holds make [] none laws = record {
    run = tt;
    holds = record {
      here_state = refl;
      there_state = refl;
      ends = record {
        here = new_end (plan_at Equipment plans);
        there = new_end (plan_at Host plans);
        sound = sound-new (plan_at Equipment plans) (plan_at Host plans) refl;
        here_is = end-new (plan_at Equipment plans);
        there_is = end-new (plan_at Host plans);
      };
    };
  }
  all-holds make (move ∷ before) none laws =
      move-on make move.side move before refl laws.0 none
      (all-holds make before
      (no-slip-now move.side (act_of move.kind) (new_line plans.equipment.times plans.host.times) (deeds_of before)
      none).1
      laws.1)
