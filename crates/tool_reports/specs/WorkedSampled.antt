-- What is said of S6F1, in one example that can be followed by hand: a trace of two samples.
use Rattle.std.specs.Prelude.{◌≡◌, ℕ, true, false, List, [], ◌∷◌, ◌++◌, Some, None}
use Rattle.secs_items.specs.declared.item.Item.TheVariants as item
use Rattle.secs_items.specs.Spelling.{shortest_spelling}
use Rattle.gem_shapes.specs.declared.request.Request.TheVariants.{Trace}
use Rattle.message_flow.specs.declared.message.Message.{Message}
use Rattle.trace_log.specs.declared.commands.ToolCommand.TheVariants.{Set}
use Rattle.trace_log.specs.Log.{Happening, Past}
use Rattle.trace_log.specs.Names.{Spooled}
use Rattle.message_end.specs.Course.{noted_behind}
use Rattle.equipment_tables.specs.declared.plan.EquipmentPlan.{EquipmentPlan}
use Rattle.equipment_tables.specs.Requests.{request_of}
use Rattle.tool_step.specs.WorkedSpool.{plan_with}
use Rattle.tool_step.specs.WorkedTraces.{each_second, seven_and_nine}
use Rattle.tool_reports.specs.Reported.{IsTextOf, is_of}
use Rattle.tool_reports.specs.Sampled.{AreSampled, Stepped, due_in}

-- steps since a start, the oldest first, each with its moment and its notes
abbrev pub StepNotes : Type 0
StepNotes = List (ℕ × List Happening)

abbrev pub steps_behind : StepNotes → List Happening → List Stepped → List Stepped
steps_behind [] before steps = steps
steps_behind (made ∷ rest) before steps =
    steps_behind rest (noted_behind made.1 before) (record { now = made.0; before = before; notes = made.1 } ∷ steps)

abbrev pub notes_behind : StepNotes → List Happening → List Happening
notes_behind [] before = before
notes_behind (made ∷ rest) before = notes_behind rest (noted_behind made.1 before)

abbrev pub start : List Happening
start = Happening.StepEnded ∷ Happening.Setup None ∷ Happening.EquipmentStarted [] 0 ∷ []

-- variable 1 is 7 as planned
abbrev pub the_plan : EquipmentPlan
the_plan = plan_with 1 0

abbrev pub steps_of : StepNotes → List Stepped
steps_of made = steps_behind made start []

abbrev pub Are : StepNotes → Type 0
Are made = AreSampled the_plan (notes_behind made start) (steps_of made)

-- a trace of two samples each second, and one S6F1 of both
abbrev pub IsAsking : Message → Type 0
IsAsking message =
    request_of message.stream message.function message.body ≡ Some (Trace 1 each_second 2 2 (1 ∷ []))

-- S6F1 W
pub record IsData (message : Message) : Type 0 where
  pub named : is_of 6 1 message ≡ true
  pub wait : message.wait ≡ true

-- the first sample is taken, the variable is set to 9, and the second is taken, with this S6F1
abbrev pub without_asking : Message → StepNotes
without_asking s6f1 =
    (1000, Happening.StepEnded ∷ [])
    ∷ (
      1000,
      Happening.Recorded (Past.Commanded (Set 1 (item.U4 (9 ∷ [])))) ∷ Happening.Set 1 ∷ Happening.StepEnded ∷ [],
    )
    ∷ (2000, Happening.Sent s6f1 ∷ Happening.StepEnded ∷ []) ∷ []

-- the host has asked for it
abbrev pub asked : Message → Message → StepNotes
asked message s6f1 =
    (0, Happening.Received message ∷ Happening.Recorded (Past.Asked message) ∷ Happening.StepEnded ∷ [])
    ∷ without_asking s6f1

-- and another goes out behind it
abbrev pub again : Message → Message → Message → StepNotes
again message s6f1 other = asked message s6f1 ++ (3000, Happening.Sent other ∷ Happening.StepEnded ∷ []) ∷ []

-- one goes out with the first sample, before it is due
abbrev pub too_early : Message → Message → StepNotes
too_early message s6f1 =
    (0, Happening.Received message ∷ Happening.Recorded (Past.Asked message) ∷ Happening.StepEnded ∷ [])
    ∷ (1000, Happening.Sent s6f1 ∷ Happening.StepEnded ∷ []) ∷ []

-- three samples were to come in each S6F1, and two in all: that is refused
abbrev pub IsAskingTooMuch : Message → Type 0
IsAskingTooMuch message =
    request_of message.stream message.function message.body ≡ Some (Trace 1 each_second 2 3 (1 ∷ []))

-- it was asked for before a start
abbrev pub started_behind : Message → List Happening
started_behind message =
    Happening.EquipmentStarted [] 0 ∷ Happening.Power ∷ Happening.StepEnded ∷ Happening.Recorded (Past.Asked message)
    ∷ Happening.Received message ∷ start

abbrev pub AreOverStart : Message → Message → Type 0
AreOverStart message s6f1 =
    AreSampled the_plan (notes_behind (without_asking s6f1) (started_behind message))
    (steps_behind (without_asking s6f1) (started_behind message) [])

-- one is put into the spool
abbrev pub spooled_data : List ℕ → Spooled
spooled_data body = record { stream = 6; function = 1; body = body }

abbrev pub putting : List ℕ → StepNotes
putting body =
    (0, Happening.Storing 0 (spooled_data body) ∷ Happening.Stored 0 ∷ Happening.StepEnded ∷ []) ∷ []

-- one S6F1 is due, with what the variable held at each of its samples; one with that may go out, and none with another
-- text; none goes where nobody has asked for it, or before a start, or where that was refused; none before it is due,
-- none without W, and no second one; and none is put into the spool
pub record SamplesAreWorked : Type 0 where
  pub due : (message s6f1 : Message) → IsAsking message
      → due_in the_plan (steps_of (asked message s6f1)) ≡ seven_and_nine ∷ []
  pub holds : (message s6f1 : Message) → IsAsking message → IsData s6f1 → Are (asked message s6f1)
      → s6f1.body ≡ shortest_spelling seven_and_nine
  pub is :
      (message s6f1 : Message) → IsAsking message → IsData s6f1 → IsTextOf seven_and_nine s6f1.body
      → Are (asked message s6f1)
  pub unawaited : (s6f1 : Message) → is_of 6 1 s6f1 ≡ true → s6f1.wait ≡ false → Are (without_asking s6f1) → ⊥
  pub unasked : (s6f1 : Message) → IsData s6f1 → Are (without_asking s6f1) → ⊥
  pub early : (message s6f1 : Message) → IsAsking message → IsData s6f1 → Are (too_early message s6f1) → ⊥
  pub refused : (message s6f1 : Message) → IsAskingTooMuch message → IsData s6f1 → Are (asked message s6f1) → ⊥
  pub over_start : (message s6f1 : Message) → IsData s6f1 → AreOverStart message s6f1 → ⊥
  pub unspooled : (body : List ℕ) → Are (putting body) → ⊥
  pub once : (message s6f1 other : Message) → IsAsking message → IsData s6f1 → IsData other
      → Are (again message s6f1 other) → ⊥
