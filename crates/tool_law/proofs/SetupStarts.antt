-- That a start of the equipment, which carries out its setup, has done nothing but note that.
use Rattle.std.proofs.Common.{◌≡◌, refl, sym, ap, subst, ◌∙◌, Bool, true, false, ℕ, List, [], ◌∷◌, ◌++◌, Option, None, if◌then◌else◌}
use Rattle.std.proofs.lemmas.List.{append-nil, append_assoc}
use Rattle.setup_store.specs.Entries.{Entry}
use Rattle.trace_log.specs.Log.{Happening}
use Rattle.trace_log.specs.Log.Happening.{Recorded, Refused, Setup, StepEnded}
use Rattle.message_end.specs.Core.{EndView, MayNote, with_asked}
use Rattle.message_end.specs.Doings.{Doing, own_of}
use Rattle.message_end.specs.Doings.Doing.{Says}
use Rattle.message_end.specs.History.{IsHistoryOf, noted_in, written_in}
use Rattle.message_end.specs.Plan.{EndPlan}
use Rattle.message_end.specs.Starts.{AreOfSetup, AreOfStart, IsOfSetup}
use Rattle.message_end.proofs.Courses.{in-turn}
use Rattle.message_end.proofs.InSteps.{history-ends, quiet-note, steps-said}
use Rattle.spool_law.specs.Shelf.{Change, change_of}
use Rattle.spool_law.specs.Tries.{tries_in}
use Rattle.equipment_tables.specs.declared.plan.EquipmentPlan.{EquipmentPlan}
use Rattle.equipment_tables.specs.Setup.{accepts_primary, asked_of}
use Rattle.equipment_tables.specs.Tables.{TablesState, planned_tables}
use Rattle.tool_step.specs.Equipment.{setup_lines}
use Rattle.tool_step.specs.Setup.{carried_line, carried_lines, found_list, tables_with}
use Rattle.tool_law.specs.Tried.{AreTried}
use Rattle.tool_law.proofs.TriedDoings.{IsNoTry, may-say, same-tries}

-- these lines are noted, the newest of which is the last
abbrev pub said_behind : List Happening → List Doing → List Doing
said_behind [] doings = doings
said_behind (what ∷ lines) doings = said_behind lines (Says what ∷ doings)

pub said-last : (lines : List Happening) (last : Happening) (doings : List Doing)
    → said_behind (lines ++ last ∷ []) doings ≡ Says last ∷ said_behind lines doings
said-last [] last doings = refl
said-last (what ∷ lines) last doings = said-last lines last (Says what ∷ doings)

pub said-noted : (lines : List Happening) (doings : List Doing)
    → noted_in (said_behind lines doings) ≡ noted_in doings ++ lines
said-noted [] doings = sym (append-nil (noted_in doings))
said-noted (what ∷ lines) doings =
    said-noted lines (Says what ∷ doings) ∙ append_assoc (noted_in doings) (what ∷ []) lines

pub said-written : (plan : EndPlan) (lines : List Happening) (doings : List Doing)
    → written_in plan (said_behind lines doings) ≡ written_in plan doings
said-written plan [] doings = refl
said-written plan (what ∷ lines) doings = said-written plan lines (Says what ∷ doings)

-- ---- notes of a setup

abbrev pub AreLines : List Happening → Type 0
AreLines [] = Unit {0}
AreLines (what ∷ lines) = IsOfSetup what × AreLines lines

carried-is : (t : TablesState) (entry : Entry) → IsOfSetup (carried_line t entry)
carried-is t entry = go (accepts_primary t entry)
  where
    go : (accepted : Bool) → IsOfSetup (if accepted then Recorded (asked_of entry) else Refused)
    go true = tt
    go false = tt

carried-are : (t : TablesState) (list : List Entry) → AreLines (carried_lines t list)
carried-are t [] = tt
carried-are t (entry ∷ list) = (carried-is t entry, carried-are (tables_with t entry) list)

pub lines-said : (lines : List Happening) (doings : List Doing) → AreLines lines → AreOfSetup doings
    → AreOfSetup (said_behind lines doings)
lines-said [] doings are of = of
lines-said (what ∷ lines) doings are of = lines-said lines (Says what ∷ doings) are.1 (are.0, of)

may-note : (what : Happening) → IsOfSetup what → MayNote what
may-note (Setup found) of = tt
may-note (Recorded past) of = tt
may-note Refused of = tt
may-note what of = absurd of

pub no-change : (what : Happening) → IsOfSetup what → change_of what ≡ Change.Other
no-change (Setup found) of = refl
no-change (Recorded past) of = refl
no-change Refused of = refl
no-change what of = absurd of

-- ---- what such notes leave

module _ {K : Type 0} (plan : EndPlan) (base : ℕ) (e : EndView K) where
  said-history : (lines : List Happening) (doings : List Doing) → AreLines lines → IsHistoryOf plan base doings e
      → IsHistoryOf plan base (said_behind lines doings) e
  said-history [] doings are is = is
  said-history (what ∷ lines) doings are is =
      let may = may-note what are.0 in
      said-history lines (Says what ∷ doings) are.1 (record {
        lawful = ((in-turn (own_of plan doings) (Says what) is.received, (quiet-note what may).plain), is.lawful);
        line = is.line;
        received = is.received;
        core = is.core;
        steps = steps-said plan doings e.asked what may is.steps;
      })

no-try : (what : Happening) → IsOfSetup what → IsNoTry (change_of what)
no-try what of = subst IsNoTry (sym (no-change what of)) tt

said-tried : (plan : EndPlan) (lines : List Happening) (doings : List Doing) → AreLines lines → AreTried plan doings
    → AreTried plan (said_behind lines doings)
said-tried plan [] doings are tried = tried
said-tried plan (what ∷ lines) doings are tried =
    said-tried plan lines (Says what ∷ doings) are.1
    (may-say (own_of plan doings) (tries_in doings) (change_of what) (no-try what are.0), tried)

said-tries : (lines : List Happening) (doings : List Doing) → AreLines lines
    → tries_in (said_behind lines doings) ≡ tries_in doings
said-tries [] doings are = refl
said-tries (what ∷ lines) doings are =
    said-tries lines (Says what ∷ doings) are.1 ∙ same-tries (change_of what) (tries_in doings) (no-try what are.0)

-- ---- a start

-- what is noted of the setup, without the end
module _ (plan : EquipmentPlan) (setup : Option (List Entry)) where
  abbrev pub found_lines : List Happening
  found_lines = Setup setup ∷ carried_lines (planned_tables plan) (found_list setup)

  pub are-lines : AreLines found_lines
  are-lines = (tt, carried-are (planned_tables plan) (found_list setup))

  abbrev pub setup_said : List Doing
  setup_said = Says StepEnded ∷ said_behind found_lines []

  pub setup-noted : noted_in setup_said ≡ setup_lines plan setup
  setup-noted = ap (λ (notes : List Happening). notes ++ StepEnded ∷ []) (said-noted found_lines [])

  pub setup-written : (end : EndPlan) → written_in end setup_said ≡ []
  setup-written end = said-written end found_lines []

  pub setup-of-start : AreOfStart setup_said
  setup-of-start = lines-said found_lines [] are-lines tt

  pub setup-history :
      {K : Type 0} (end : EndPlan) (base : ℕ) (e : EndView K) → IsHistoryOf end base [] e
      → IsHistoryOf end base setup_said (with_asked None e)
  setup-history end base e is =
      history-ends end base (said_behind found_lines []) e (said-history end base e found_lines [] are-lines is)

  pub setup-tried : (end : EndPlan) → AreTried end setup_said
  setup-tried end = (tt, said-tried end found_lines [] are-lines tt)

  pub setup-tries : tries_in setup_said ≡ []
  setup-tries = said-tries found_lines [] are-lines
