-- Starts that note more than one line, in examples that can be followed by hand.
use Rattle.std.specs.Prelude.{ℕ, List, [], ◌∷◌, Some}
use Rattle.gl_base.specs.declared.side.Side.TheVariants.{Equipment}
use Rattle.line_end.specs.declared.plan.LinePlan.{LinePlan}
use Rattle.message_end.specs.Core.{Step}
use Rattle.message_end.specs.Doings.{Doing}
use Rattle.message_end.specs.Ends.{HasStarted}
use Rattle.message_end.specs.Plan.{EndPlan}
use Rattle.trace_log.specs.Log.{Happening}
use Rattle.trace_log.specs.Log.Happening.{EquipmentStarted, Power, Refused, Setup, StepEnded}
use Rattle.trace_log.specs.Names.{KeptPrimary}

-- whatever the equipment has done, it may have made its state
abbrev pub any_did : ℕ → List Doing → Unit {0} → Type 0
any_did base doings s = Unit {0}

abbrev pub tool_plan : LinePlan → EndPlan
tool_plan line = record { side = Equipment; line = line }

abbrev pub StartsWith : LinePlan → List Happening → Type 0
StartsWith line notes =
    let start : Step (Unit {0}) Happening = record { next = tt; notes = notes; written = [] } in
    HasStarted (tool_plan line) any_did 0 start

-- its setup keeps one primary
abbrev pub finds : KeptPrimary → Happening
finds primary = Setup (Some (primary ∷ []))

-- a start notes itself alone, or its setup behind that, and its end last; not without its end, nothing but its setup,
-- and never without itself
pub record StartsNoteSetups : Type 0 where
  pub alone : (line : LinePlan) → StartsWith line (EquipmentStarted [] 0 ∷ [])
  pub refused :
      (line : LinePlan) (primary : KeptPrimary)
      → StartsWith line (EquipmentStarted [] 0 ∷ finds primary ∷ Refused ∷ StepEnded ∷ [])
  pub unended :
      (line : LinePlan) (primary : KeptPrimary) → StartsWith line (EquipmentStarted [] 0 ∷ finds primary ∷ []) → ⊥
  pub other : (line : LinePlan) → StartsWith line (EquipmentStarted [] 0 ∷ Power ∷ StepEnded ∷ []) → ⊥
  pub unstarted : (line : LinePlan) (primary : KeptPrimary) → StartsWith line (finds primary ∷ StepEnded ∷ []) → ⊥
