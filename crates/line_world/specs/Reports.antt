-- What the reports of the equipment tell of, over all its starts.
use Rattle.std.specs.Prelude.{◌≡◌, true, ℕ, List, [], ◌∷◌, Option, Some, None}
use Rattle.tool_reports.specs.Reported.{Happened, IsTextOf, is_event_report, is_of, item_of, past_in, was_enabled}
use Rattle.equipment_tables.specs.declared.plan.EquipmentPlan.{EquipmentPlan}
use Rattle.message_end.specs.Own.{Has}
use Rattle.trace_log.specs.Log.{Happening, Past}

-- an event that is noted, its CEID and DATAID
abbrev pub event_of : Happening → Option (ℕ × ℕ)
event_of (Happening.Event ceid dataid) = Some (ceid, dataid)
event_of _ = None

abbrev pub with_event : Option (ℕ × ℕ) → List Past → List Happened → List Happened
with_event (Some event) past events = record { ceid = event.0; dataid = event.1; past = past } ∷ events
with_event None past events = events

-- the events of all starts, each with what counted before it in its own start
abbrev pub all_events_in : List Happening → List Happened
all_events_in [] = []
all_events_in (what ∷ before) = with_event (event_of what) (past_in before) (all_events_in before)

-- a text tells of one of them, which was enabled as it happened: with its CEID and DATAID, and with what the variables
-- of its reports held as it happened (SEMI E5, S6F11)
pub record TellsOfEvent (plan : EquipmentPlan) (body : List ℕ) (before : List Happening) : Type 0 where
  pub event : Happened
  pub happened : Has (all_events_in before) event
  pub enabled : was_enabled plan event ≡ true
  pub text : IsTextOf (item_of plan event) body

-- so does that of each S6F11 that the equipment sends, whether as its event happens or later, out of the spool and
-- perhaps in another start; and of each that it puts into the spool
abbrev pub TellsOf : EquipmentPlan → Happening → List Happening → Type 0
TellsOf plan (Happening.Sent message) before = is_of 6 11 message ≡ true → TellsOfEvent plan message.body before
TellsOf plan (Happening.Storing number message) before =
    is_event_report message ≡ true → TellsOfEvent plan message.body before
TellsOf plan _ before = Unit {0}

abbrev pub TellOfEvents : EquipmentPlan → List Happening → Type 0
TellOfEvents plan [] = Unit {0}
TellOfEvents plan (what ∷ before) = TellsOf plan what before × TellOfEvents plan before
