-- Trace data in logs that can be followed by hand: which steps they tell of, and some that no plans make safe.
use Rattle.std.specs.Prelude.{◌≡◌, ℕ, true, List, [], ◌∷◌, None}
use Rattle.end_pair.specs.Noted.{TimedNotes}
use Rattle.equipment_tables.specs.declared.plan.Plans.{Plans}
use Rattle.gl_base.specs.declared.side.Side.TheVariants.{Equipment}
use Rattle.message_flow.specs.declared.message.Message.{Message}
use Rattle.secs_items.specs.declared.item.Item.TheVariants as item
use Rattle.trace_log.specs.declared.commands.ToolCommand.TheVariants.{Set}
use Rattle.trace_log.specs.Log.{Entry, Happening, Past}
use Rattle.trace_log.specs.Log.Entry.{Noted}
use Rattle.tool_reports.specs.Reported.{is_of}
use Rattle.tool_reports.specs.WorkedSampled.{IsAsking, IsData, asked, notes_behind, spooled_data, start, steps_of, the_plan}
use Rattle.line_world.specs.Cuts.{steps_in, untimed}
use Rattle.line_world.specs.Safe.{IsSafe}

-- what the equipment notes of a trace of two samples, with the variable set between them: four steps, of which two are
-- at one moment
abbrev pub timed_asked : Message → Message → TimedNotes
timed_asked message s6f1 =
    (2000, Happening.StepEnded) ∷ (2000, Happening.Sent s6f1) ∷ (1000, Happening.StepEnded) ∷ (1000, Happening.Set 1)
    ∷ (1000, Happening.Recorded (Past.Commanded (Set 1 (item.U4 (9 ∷ []))))) ∷ (1000, Happening.StepEnded)
    ∷ (0, Happening.StepEnded) ∷ (0, Happening.Recorded (Past.Asked message)) ∷ (0, Happening.Received message)
    ∷ (0, Happening.StepEnded) ∷ (0, Happening.Setup None) ∷ (0, Happening.EquipmentStarted [] 0) ∷ []

abbrev pub started : List Entry
started =
    Noted 0 Equipment Happening.StepEnded ∷ Noted 0 Equipment (Happening.Setup None)
    ∷ Noted 0 Equipment (Happening.EquipmentStarted [] 0) ∷ []

-- its S6F1 goes out with the first sample
abbrev pub early : Message → Message → List Entry
early message s6f1 =
    Noted 1000 Equipment Happening.StepEnded ∷ Noted 1000 Equipment (Happening.Sent s6f1)
    ∷ Noted 0 Equipment Happening.StepEnded ∷ Noted 0 Equipment (Happening.Recorded (Past.Asked message))
    ∷ Noted 0 Equipment (Happening.Received message) ∷ started

-- nobody has asked for it
abbrev pub unasked : Message → List Entry
unasked s6f1 = Noted 1000 Equipment (Happening.Sent s6f1) ∷ started

-- it is put into the spool
abbrev pub put : List ℕ → List Entry
put body = Noted 1000 Equipment (Happening.Storing 0 (spooled_data body)) ∷ started

pub record DataOutOfTurn : Type 0 where
  pub cut : (message s6f1 : Message) → steps_in (timed_asked message s6f1) ≡ steps_of (asked message s6f1)
  pub notes :
      (message s6f1 : Message) → untimed (timed_asked message s6f1) ≡ notes_behind (asked message s6f1) start
  pub too_early :
      (plans : Plans) (message s6f1 : Message) → plans.equipment ≡ the_plan → IsAsking message → IsData s6f1
      → IsSafe plans (early message s6f1) → ⊥
  pub asked_by_none :
      (plans : Plans) (s6f1 : Message) → is_of 6 1 s6f1 ≡ true → IsSafe plans (unasked s6f1) → ⊥
  pub spooled : (plans : Plans) (body : List ℕ) → IsSafe plans (put body) → ⊥
