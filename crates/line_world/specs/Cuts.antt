-- The steps that the equipment has made since its newest start, read off its notes and their moments: each ends where
-- it has noted its end, as the start does, of which none is a step. And what is said of S6F1, at each note. The newest
-- comes first.
use Rattle.std.specs.Prelude.{ℕ, List, [], ◌∷◌, ◌++◌, map}
use Rattle.trace_log.specs.Log.{Happening}
use Rattle.equipment_tables.specs.declared.plan.EquipmentPlan.{EquipmentPlan}
use Rattle.tool_reports.specs.Sampled.{AreSampled, Stepped}
use Rattle.tool_traces.specs.Steps.{stepped}
use Rattle.end_pair.specs.Noted.{TimedNotes}

abbrev pub untimed : TimedNotes → List Happening
untimed timed = map (λ (note : ℕ × Happening). note.1) timed

-- ---- what is under way

-- a start, which notes what it finds of its setup; neither start nor step; or a step
pub data Stage : Type 0 where
  Starting : Stage
  Between : Stage
  Stepping : Stage

-- behind a note that begins or ends neither
abbrev pub stage_within : Stage → Stage
stage_within Starting = Starting
stage_within _ = Stepping

-- a note more: it is a start, the end of one or of a step, none of the equipment's own, or of what is under way
abbrev pub stage_with : Happening → Stage → Stage
stage_with (Happening.EquipmentStarted found base) stage = Starting
stage_with Happening.StepEnded stage = Between
stage_with (Happening.Wrote characters) stage = Between
stage_with Happening.Power stage = Between
stage_with _ stage = stage_within stage

abbrev pub stage_behind : TimedNotes → Stage
stage_behind [] = Between
stage_behind (note ∷ before) = stage_with note.1 (stage_behind before)

-- ---- the steps

-- a note more of the step that is under way
abbrev pub with_note : Happening → List Stepped → List Stepped
with_note what [] = []
with_note what (step ∷ steps) = record step { notes = step.notes ++ what ∷ [] } ∷ steps

-- the note of a start is of no step; another is of the step that is under way, or begins one at its moment
abbrev pub steps_by : Stage → ℕ → Happening → TimedNotes → List Stepped → List Stepped
steps_by Starting now what before steps = steps
steps_by Between now what before steps = stepped now (untimed before) (what ∷ []) ∷ steps
steps_by Stepping now what before steps = with_note what steps

-- a note more; a start leaves none
abbrev pub steps_with : ℕ → Happening → TimedNotes → List Stepped → List Stepped
steps_with now (Happening.EquipmentStarted found base) before steps = []
steps_with now (Happening.Wrote characters) before steps = steps
steps_with now Happening.Power before steps = steps
steps_with now what before steps = steps_by (stage_behind before) now what before steps

abbrev pub steps_in : TimedNotes → List Stepped
steps_in [] = []
steps_in (note ∷ before) = steps_with note.0 note.1 before (steps_in before)

-- at each of these notes, by all up to that one: so no S6F1 goes out before it is due
abbrev pub AreSampledSoFar : EquipmentPlan → TimedNotes → Type 0
AreSampledSoFar plan [] = Unit {0}
AreSampledSoFar plan (note ∷ before) =
    AreSampled plan (untimed (note ∷ before)) (steps_in (note ∷ before)) × AreSampledSoFar plan before
