-- What an end notes as it starts.
use Rattle.std.specs.Prelude.{ℕ, List, [], ◌∷◌, Some, None}
use Rattle.gl_base.specs.declared.side.Side.{Side}
use Rattle.gl_base.specs.declared.side.Side.TheVariants.{Equipment, Host}
use Rattle.trace_log.specs.Log.{Happening, Past}
use Rattle.trace_log.specs.Log.Happening.{EquipmentStarted, HostStarted, Recorded, Refused, Setup, StepEnded}
use Rattle.trace_log.specs.Names.{Spooled}
use Rattle.message_end.specs.Doings.{Doing}
use Rattle.message_end.specs.Doings.Doing.{Calls, Does, Gives, Says}

-- the note of a start of this end, which may draw numbers from a base on; one that takes its numbers from a file tells
-- the base, with what it finds there
pub data IsStartOf : Side → Happening → ℕ → Type 0 where
  of_equipment : (found : List (ℕ × Spooled)) (base : ℕ) → IsStartOf Equipment (EquipmentStarted found base) base
  of_host : (base : ℕ) → IsStartOf Host (HostStarted None) base
  of_journal :
      (found : List (ℕ × Spooled)) (base : ℕ)
      → IsStartOf Host (HostStarted (Some (record { found = found; base = base }))) base

-- that of an end without a file
abbrev pub bare_start : Side → ℕ → Happening
bare_start Equipment base = EquipmentStarted [] base
bare_start Host base = HostStarted None

-- ---- behind it

-- what is noted of a setup that a start finds: what is kept there; and of each primary of these that it counts from
-- here on, or is refused
abbrev pub IsOfSetup : Happening → Type 0
IsOfSetup (Setup found) = Unit {0}
IsOfSetup (Recorded (Past.Asked request)) = Unit {0}
IsOfSetup Refused = Unit {0}
IsOfSetup _ = ⊥

-- the end only notes such
abbrev pub AreOfSetup : List Doing → Type 0
AreOfSetup [] = Unit {0}
AreOfSetup (Does own ∷ before) = ⊥
AreOfSetup (Gives place number block now ∷ before) = ⊥
AreOfSetup (Calls call ∷ before) = ⊥
AreOfSetup (Says what ∷ before) = IsOfSetup what × AreOfSetup before

-- a start notes nothing behind itself; or what it does with its setup, and its end as that of a step: so nothing of it
-- is noted in the step that comes next. The newest comes first
abbrev pub IsEndOf : Happening → List Doing → Type 0
IsEndOf StepEnded before = AreOfSetup before
IsEndOf _ before = ⊥

abbrev pub AreOfStart : List Doing → Type 0
AreOfStart [] = Unit {0}
AreOfStart (Does own ∷ before) = ⊥
AreOfStart (Gives place number block now ∷ before) = ⊥
AreOfStart (Calls call ∷ before) = ⊥
AreOfStart (Says what ∷ before) = IsEndOf what before
