-- Setups that are kept, and runs in which they aren't, in notes that can be followed by hand. The newest comes first.
use Rattle.std.specs.Prelude.{◌≡◌, true, false, List, [], ◌∷◌, Option, Some, None}
use Rattle.message_flow.specs.declared.message.Message.{Message}
use Rattle.setup_store.specs.Entries.{Entry, bytes_of, has_room}
use Rattle.setup_store.specs.Kept.{kept}
use Rattle.trace_log.specs.Log.{Happening, Past}
use Rattle.equipment_tables.specs.declared.plan.EquipmentPlan.{EquipmentPlan}
use Rattle.equipment_tables.specs.Past.{tables_at}
use Rattle.equipment_tables.specs.Setup.{accepts_primary, asked_of, primary_of}
use Rattle.setup_law.specs.Setup.{KeepsSetup}

-- a start over a file that holds nothing
abbrev pub started : List Happening
started = Happening.StepEnded ∷ Happening.Setup (Some []) ∷ Happening.EquipmentStarted [] 0 ∷ []

-- the host asks for something that counts; it is being kept, and is kept
abbrev pub heard : Message → List Happening → List Happening
heard request before = Happening.Recorded (Past.Asked request) ∷ Happening.Received request ∷ before

abbrev pub keeping : Message → List Happening → List Happening
keeping request before = Happening.Keeping request ∷ heard request before

abbrev pub kept_then : Message → List Happening → List Happening
kept_then request before = Happening.Kept request ∷ keeping request before

-- power is lost, and a start finds this list
abbrev pub found_then : Option (List Entry) → List Happening → List Happening
found_then list before = Happening.Setup list ∷ Happening.EquipmentStarted [] 0 ∷ Happening.Power ∷ before

-- the request changes the setup, and isn't refused, by the plan alone; it is kept as one entry more, for which there is
-- room
pub record IsChange (plan : EquipmentPlan) (request : Message) : Type 0 where
  pub accepted : accepts_primary (tables_at plan []) (primary_of request) ≡ true
  pub kept_is : kept [] (primary_of request) ≡ primary_of request ∷ []
  pub room : has_room (bytes_of (primary_of request ∷ [])) ≡ true

abbrev pub list_of : Message → List Entry
list_of request = primary_of request ∷ []

-- ---- runs that keep the law

-- it is kept and answered; the next start finds it, and carries it out
abbrev pub carried_again : Message → Message → List Happening
carried_again request reply =
    Happening.StepEnded ∷ Happening.Recorded (asked_of (primary_of request))
    ∷ found_then (Some (list_of request)) (Happening.StepEnded ∷ Happening.Sent reply ∷ kept_then request started)

-- it was being kept as power was lost, and counts or doesn't
abbrev pub counted : Message → List Happening
counted request = found_then (Some (list_of request)) (keeping request started)

abbrev pub not_counted : Message → List Happening
not_counted request = Happening.StepEnded ∷ found_then (Some []) (keeping request started)

-- a list of an earlier run is found; its first entry is refused by this plan, and the other one counts
abbrev pub refused_first : Entry → Entry → List Happening
refused_first first second =
    Happening.StepEnded ∷ Happening.Recorded (asked_of second) ∷ Happening.Refused
    ∷ Happening.Setup (Some (first ∷ second ∷ [])) ∷ Happening.EquipmentStarted [] 0 ∷ []

-- in a file without an area all is answered at once
abbrev pub without_area : Message → Message → List Happening
without_area request reply =
    Happening.StepEnded ∷ Happening.Sent reply
    ∷ heard request (Happening.StepEnded ∷ Happening.Setup None ∷ Happening.EquipmentStarted [] 0 ∷ [])

pub record RunsThatKeepIt : Type 0 where
  pub carried :
      (plan : EquipmentPlan) (request reply : Message) → IsChange plan request
      → KeepsSetup plan (Some []) (carried_again request reply)
  pub counts :
      (plan : EquipmentPlan) (request : Message) → IsChange plan request → KeepsSetup plan (Some []) (counted request)
  pub counts_not :
      (plan : EquipmentPlan) (request : Message) → IsChange plan request
      → KeepsSetup plan (Some []) (not_counted request)
  pub refused :
      (plan : EquipmentPlan) (first second : Entry) → accepts_primary (tables_at plan []) first ≡ false
      → accepts_primary (tables_at plan []) second ≡ true
      → KeepsSetup plan (Some (first ∷ second ∷ [])) (refused_first first second)
  pub no_area :
      (plan : EquipmentPlan) (request reply : Message) → KeepsSetup plan None (without_area request reply)

-- ---- runs that don't

-- nothing of what is found is carried out; or a later entry before it
abbrev pub carried_nothing : Entry → List Happening
carried_nothing entry =
    Happening.StepEnded ∷ Happening.Setup (Some (entry ∷ [])) ∷ Happening.EquipmentStarted [] 0 ∷ []

abbrev pub carried_late : Entry → Entry → List Happening
carried_late first second =
    Happening.Recorded (asked_of second) ∷ Happening.Setup (Some (first ∷ second ∷ []))
    ∷ Happening.EquipmentStarted [] 0 ∷ []

-- a start that says nothing of its setup
abbrev pub untold : List Happening
untold = Happening.StepEnded ∷ Happening.EquipmentStarted [] 0 ∷ []

pub record RunsThatDont : Type 0 where
  pub nothing : (plan : EquipmentPlan) (entry : Entry) → KeepsSetup plan (Some (entry ∷ [])) (carried_nothing entry) → ⊥
  pub late :
      (plan : EquipmentPlan) (first second : Entry) → (asked_of first ≡ asked_of second → ⊥)
      → KeepsSetup plan (Some (first ∷ second ∷ [])) (carried_late first second) → ⊥
  pub silent : (plan : EquipmentPlan) (held : Option (List Entry)) → KeepsSetup plan held untold → ⊥
  -- a list is found without its last entry, as links that are forgotten
  pub forgotten :
      (plan : EquipmentPlan) (first last : Entry)
      → KeepsSetup plan (Some (first ∷ last ∷ []))
      (Happening.Setup (Some (first ∷ [])) ∷ Happening.EquipmentStarted [] 0 ∷ []) → ⊥
  -- what was kept is lost, and the area is
  pub lost :
      (plan : EquipmentPlan) (request : Message) → IsChange plan request
      → KeepsSetup plan (Some []) (found_then (Some []) (Happening.StepEnded ∷ kept_then request started)) → ⊥
  pub no_area_left :
      (plan : EquipmentPlan) → KeepsSetup plan (Some []) (found_then None started) → ⊥
  -- the answer, or the end of the step, comes before the keep; and the answer within it
  pub answered :
      (plan : EquipmentPlan) (request reply : Message) → IsChange plan request
      → KeepsSetup plan (Some []) (Happening.Sent reply ∷ heard request started) → ⊥
  pub ended :
      (plan : EquipmentPlan) (request : Message) → IsChange plan request
      → KeepsSetup plan (Some []) (Happening.StepEnded ∷ heard request started) → ⊥
  pub answered_within :
      (plan : EquipmentPlan) (request reply : Message) → KeepsSetup plan (Some [])
      (Happening.Sent reply ∷ keeping request started) → ⊥
  -- a request for whose list there is no room counts
  pub roomless :
      (plan : EquipmentPlan) (request : Message) → accepts_primary (tables_at plan []) (primary_of request) ≡ true
      → has_room (bytes_of (kept [] (primary_of request))) ≡ false
      → KeepsSetup plan (Some []) (heard request started) → ⊥
  -- what was being kept counts twice; another one counts
  pub twice :
      (plan : EquipmentPlan) (request : Message) → IsChange plan request
      → KeepsSetup plan (Some [])
      (found_then (Some (primary_of request ∷ list_of request)) (keeping request started)) → ⊥
  pub other :
      (plan : EquipmentPlan) (request : Message) (entry : Entry) → IsChange plan request
      → (entry ≡ primary_of request → ⊥)
      → KeepsSetup plan (Some []) (found_then (Some (entry ∷ [])) (keeping request started)) → ⊥
  -- one that nobody has asked for is kept
  pub unasked :
      (plan : EquipmentPlan) (request : Message)
      → KeepsSetup plan (Some []) (Happening.Keeping request ∷ started) → ⊥

pub record SetupsAreKeptAsWorked : Type 0 where
  pub keep : RunsThatKeepIt
  pub dont : RunsThatDont
