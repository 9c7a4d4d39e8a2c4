-- What is said of the S6F1 of the equipment: each holds what its variables held at its samples, and comes of a trace
-- that the host has asked for and that ran (SEMI E30, trace data collection). When a sample is due, moments tell, which
-- no note has; so it is said over the steps of a start. The newest comes first.
use Rattle.std.specs.Prelude.{◌≡◌, ◌≤◌, ◌&&◌, ℕ, Bool, not, nat_eq, bytes_eq, is_some, true, List, [], ◌∷◌, ◌++◌, filter, flat_map, length, Option, Some, None, if◌then◌else◌}
use Rattle.std.specs.List.{cons_option, list_any}
use Rattle.gem_shapes.specs.declared.request.Request.{Request}
use Rattle.gem_shapes.specs.declared.request.Request.TheVariants as request
use Rattle.gem_trace.specs.declared.request.Tiaack.{Tiaack}
use Rattle.gem_trace.specs.declared.request.Tiaack.TheVariants as tiaack
use Rattle.gem_trace.specs.declared.request.TraceRequest.{TraceRequest}
use Rattle.gem_trace.specs.History.{Look, TraceEntry, bodies_at, traces_at}
use Rattle.gem_trace.specs.History.TraceEntry.{Set, Step}
use Rattle.gem_trace.specs.Settings.{tiaack_of}
use Rattle.gem_trace.specs.Traces.{Running}
use Rattle.message_flow.specs.declared.message.Message.{Message}
use Rattle.secs_items.specs.declared.item.Item.{Item}
use Rattle.secs_items.specs.Encoding.{encode_fault}
use Rattle.secs_items.specs.Spelling.{shortest_spelling}
use Rattle.trace_log.specs.Log.{Happening, Past}
use Rattle.spool_law.specs.Listing.{AllStoredAreSpoolable}
use Rattle.message_end.specs.Own.{Has}
use Rattle.equipment_tables.specs.declared.plan.EquipmentPlan.{EquipmentPlan}
use Rattle.equipment_tables.specs.Requests.{request_of}
use Rattle.tool_reports.specs.Reported.{IsTextOf, count_of, is_of, tables_in, tries_in}

-- a step: its moment; what was noted before it, the newest first; and what was noted in it, the oldest first
pub record Stepped : Type 0 where
  pub now : ℕ
  pub before : List Happening
  pub notes : List Happening

-- its samples are of the variables as they were set before it
abbrev pub look_at_step : EquipmentPlan → Stepped → Look
look_at_step plan step = record { vars = (tables_in plan step.before).vars; now = step.now }

-- ---- which traces ran

-- an S2F23 counts where it is accepted, by what runs then (SEMI E5, TIAACK)
abbrev pub setting_by : Tiaack → TraceRequest → ℕ → Option TraceEntry
setting_by tiaack.Done asked now = Some (Set asked now)
setting_by _ asked now = None

abbrev pub setting_of : Option Request → Look → List Running → Option TraceEntry
setting_of (Some (request.Trace trid dsper total group svids)) look running =
    let asked : TraceRequest =
    record { trid = trid; dsper = dsper; total = total; group = group; svids = svids } in
    setting_by (tiaack_of look.vars running asked) asked look.now
setting_of _ look running = None

-- what the host has asked for, and it counts; a step has one at most
abbrev pub setting_in : Look → List Running → Happening → List TraceEntry
setting_in look running (Happening.Recorded (Past.Asked message)) =
    cons_option (setting_of (request_of message.stream message.function message.body) look running) []
setting_in look running _ = []

abbrev pub settings_in : List Happening → Look → List Running → List TraceEntry
settings_in notes look running = flat_map (setting_in look running) notes

-- a step more: its samples, and behind them what the host asks for in it
abbrev pub with_entries : Look → List Happening → List TraceEntry → List TraceEntry
with_entries look notes past = past ++ Step look ∷ settings_in notes look (traces_at (past ++ Step look ∷ []))

-- the history of the traces; its oldest entry stands first
abbrev pub history_of : EquipmentPlan → List Stepped → List TraceEntry
history_of plan [] = []
history_of plan (step ∷ earlier) = with_entries (look_at_step plan step) step.notes (history_of plan earlier)

-- ---- which S6F1 were due

abbrev pub due_in : EquipmentPlan → List Stepped → List Item
due_in plan [] = []
due_in plan (step ∷ earlier) = bodies_at (history_of plan earlier) (look_at_step plan step) ++ due_in plan earlier

-- an item has this text
abbrev pub is_text_of : List ℕ → Item → Bool
is_text_of body item = not (is_some (encode_fault item)) && bytes_eq body (shortest_spelling item)

abbrev pub count_due : EquipmentPlan → List ℕ → List Stepped → ℕ
count_due plan body steps = length (filter (is_text_of body) (due_in plan steps))

-- ---- which were sent

-- an S6F1 that was sent, and not out of the spool (SEMI E5, S6F1)
abbrev pub is_data : Message → List Happening → Bool
is_data message before = is_of 6 1 message && not (list_any (nat_eq message.system) (tries_in before))

-- the texts of these, since the newest start
abbrev pub datas_in : List Happening → List (List ℕ)
datas_in [] = []
datas_in (Happening.EquipmentStarted found base ∷ before) = []
datas_in (Happening.Sent message ∷ before) =
    if is_data message before then message.body ∷ datas_in before else datas_in before
datas_in (_ ∷ before) = datas_in before

-- each of them has W (SEMI E5, S6F1)
abbrev pub HaveWait : List Happening → Type 0
HaveWait [] = Unit {0}
HaveWait (Happening.Sent message ∷ before) = (is_data message before ≡ true → message.wait ≡ true) × HaveWait before
HaveWait (_ ∷ before) = HaveWait before

-- ---- what is said of them

-- it was due in one of these steps
pub record IsOfTrace (plan : EquipmentPlan) (body : List ℕ) (steps : List Stepped) : Type 0 where
  pub item : Item
  pub due : Has (due_in plan steps) item
  pub text : IsTextOf item body

-- each S6F1 that was sent has W, and was due by then; no more were sent with one text than were due with it; and none
-- was put into the spool
pub record AreSampled (plan : EquipmentPlan) (notes : List Happening) (steps : List Stepped) : Type 0 where
  pub wait : HaveWait notes
  pub each : (body : List ℕ) → Has (datas_in notes) body → IsOfTrace plan body steps
  pub once : (body : List ℕ) → count_of body (datas_in notes) ≤ count_due plan body steps
  pub spoolable : AllStoredAreSpoolable notes
