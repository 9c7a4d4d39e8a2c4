-- What the equipment's doings keep at the end of each step, they keep at each move of a run.
use Rattle.std.proofs.Common.{ℕ, List, ◌∷◌}
use Rattle.end_pair.specs.InSteps.{ComeInSteps, IsFate}
use Rattle.end_pair.proofs.AtEachMove.{AreKept, at-each-move}
use Rattle.tool_step.specs.Equipment.{EquipmentView}
use Rattle.tool_law.specs.Laws.{DidOf}
use Rattle.tool_law.specs.Tried.{AreTried}
use Rattle.tool_law.proofs.TriedDoings.{may-say, world-free}
use Rattle.equipment_tables.specs.declared.plan.Plans.{Plans}
use Rattle.gl_base.specs.declared.side.Side.{Side}
use Rattle.gl_base.specs.declared.side.Side.TheVariants.{Equipment, Host}
use Rattle.message_end.specs.Doings.{Doing, own_of}
use Rattle.message_end.specs.Doings.Doing.{Says}
use Rattle.message_end.specs.Ends.IsOfWorld.{of_power}
use Rattle.message_end.proofs.Starts.{IsSaidAtStart}
use Rattle.message_end.specs.Moves.{Kind, LinePlans, Move, plan_at, run_at}
use Rattle.message_end.specs.Moves.Kind.{Added, Changed, Did, Lost, Started}
use Rattle.spool_law.specs.Shelf.{change_of}
use Rattle.spool_law.specs.Tries.{KeepsTries, MayTryAt, tries_in}
use Rattle.trace_log.specs.Log.{Happening, Past}
use Rattle.trace_log.specs.Log.Happening.{Power}
use Rattle.line_world.specs.Safe.{plans_of}

module _ (plans : LinePlans) where
  abbrev tried_at : List Move → Type 0
  tried_at moves = AreTried (plan_at Equipment plans) (run_at Equipment plans moves).doings

  -- a doing is the last one of its end
  doing-back :
      (side : Side) (moment : ℕ) (doing : Doing) (rest : List Move)
      → tried_at (record { side = side; moment = moment; kind = Did doing } ∷ rest)
      → tried_at rest
      × (KeepsTries plans rest → KeepsTries plans (record { side = side; moment = moment; kind = Did doing } ∷ rest))
  doing-back Equipment moment doing rest tried = (tried.1, λ kept. (tried.0, kept))
  doing-back Host moment doing rest tried = (tried, λ kept. (tt, kept))

  -- what is no end's doing, a start and what is said behind it, and what the world notes, are no tries
  fate-may : (side : Side) (kind : Kind) (rest : List Move) → IsFate kind → MayTryAt side plans rest kind
  fate-may Equipment (Did doing) rest fate = absurd fate
  fate-may Equipment (Started note base) rest fate = absurd fate
  fate-may Equipment Lost rest fate = tt
  fate-may Equipment (Changed place byte) rest fate = tt
  fate-may Equipment (Added byte) rest fate = tt
  fate-may Host kind rest fate = tt

  start-may : (side : Side) (note : Happening) (base : ℕ) (rest : List Move)
      → MayTryAt side plans rest (Started note base)
  start-may Equipment note base rest = tt
  start-may Host note base rest = tt

  said-may : (side : Side) (what : Happening) (rest : List Move) → IsSaidAtStart what
      → MayTryAt side plans rest (Did (Says what))
  said-may Equipment Happening.StepEnded rest of = tt
  said-may Equipment (Happening.Setup found) rest of = tt
  said-may Equipment (Happening.Recorded (Past.Asked request)) rest of = tt
  said-may Equipment (Happening.Recorded (Past.Commanded command)) rest of = absurd of
  said-may Equipment Happening.Refused rest of = tt
  said-may Equipment what rest of = absurd of
  said-may Host what rest of = tt

  power-may : (side : Side) (rest : List Move) → MayTryAt side plans rest (Did (Says Power))
  power-may Equipment rest =
      let doings = (run_at Equipment plans rest).doings in
      may-say (own_of (plan_at Equipment plans) doings) (tries_in doings) (change_of Power) (world-free Power of_power)
  power-may Host rest = tt

  tries-kept :
      {T : Type 0} (equipment : ℕ → List Doing → EquipmentView → Type 0) (host : ℕ → List Doing → T → Type 0)
      → ((base : ℕ) (doings : List Doing) (s : EquipmentView) → equipment base doings s
      → AreTried (plan_at Equipment plans) doings)
      → AreKept equipment host plans tried_at (KeepsTries plans)
  tries-kept equipment host law = record {
    law = λ moves at.
        law (run_at Equipment plans moves).base (run_at Equipment plans moves).doings at.state_of_equipment
        at.equipment_did;
    none = tt;
    back = doing-back;
    fate = λ side moment kind before fate kept. (fate-may side kind before fate, kept);
    start = λ side moment note base before kept. (start-may side note base before, kept);
    said = λ side moment what before of kept. (said-may side what before of, kept);
    power = λ side moment before kept. (power-may side before, kept);
  }

pub keeps-tries :
    {T : Type 0} (plans : Plans) (host : ℕ → List Doing → T → Type 0) (moves : List Move)
    → ComeInSteps (DidOf plans.equipment) host (plans_of plans) moves → KeepsTries (plans_of plans) moves
keeps-tries plans host moves steps =
    at-each-move (DidOf plans.equipment) host (plans_of plans) (tried_at (plans_of plans)) (KeepsTries (plans_of plans))
    (tries-kept (plans_of plans) (DidOf plans.equipment) host (λ base doings s did. did.tried)) moves steps
