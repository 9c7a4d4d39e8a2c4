-- A start is no step of those that are read off the notes, up to its end, and nothing is said of S6F1 there.
use Rattle.std.proofs.Common.{◌≡◌, refl, sym, ap, subst, ◌∙◌, arith, ℕ, List, [], ◌∷◌, ◌++◌}
use Rattle.spool_file.specs.File.{SpoolFile}
use Rattle.trace_log.specs.Log.{Happening, Past}
use Rattle.end_pair.specs.Noted.{TimedNotes, timed_behind}
use Rattle.message_end.specs.Starts.{IsOfSetup}
use Rattle.equipment_tables.specs.declared.plan.EquipmentPlan.{EquipmentPlan}
use Rattle.spool_works.specs.Found.{found_in}
use Rattle.tool_step.specs.Equipment.{started_on}
use Rattle.tool_step.specs.Setup.{setup_in}
use Rattle.tool_law.proofs.SetupStarts.{AreLines, are-lines, found_lines}
use Rattle.tool_reports.specs.Sampled.{AreSampled, Stepped}
use Rattle.tool_traces.proofs.IdleNotes.{AreSound, IsAmid}
use Rattle.tool_traces.proofs.TracedCourses.{AreFew, sampled-so}
use Rattle.line_world.specs.Cuts.{AreSampledSoFar, Stage, stage_behind, stage_within, steps_by, steps_in, untimed}
use Rattle.line_world.specs.Cuts.Stage.{Between, Starting}
use Rattle.line_world.proofs.CutSteps.{amid-stage, amid-with, timed-end}

setup-amid : (what : Happening) → IsOfSetup what → IsAmid what
setup-amid (Happening.Setup found) of = tt
setup-amid (Happening.Recorded past) of = tt
setup-amid Happening.Refused of = tt
setup-amid what of = absurd of

module _ (plan : EquipmentPlan) where
  -- a start is under way, and has left no step
  record IsStarting (timed : TimedNotes) : Type 0 where
    stage : stage_behind timed ≡ Starting
    none : steps_in timed ≡ []
    few : AreFew plan [] (untimed timed)
    so_far : AreSampledSoFar plan timed

  -- it has come to its end
  pub record IsStarted (timed : TimedNotes) : Type 0 where
    pub between : stage_behind timed ≡ Between
    pub none : steps_in timed ≡ []
    pub so_far : AreSampledSoFar plan timed

  noted-so : (now : ℕ) (what : Happening) (timed : TimedNotes) → steps_in ((now, what) ∷ timed) ≡ []
      → AreFew plan [] (what ∷ untimed timed) → AreSampledSoFar plan timed
      → AreSampledSoFar plan ((now, what) ∷ timed)
  noted-so now what timed none few so_far = (
    subst (λ (all : List Stepped). AreSampled plan (what ∷ untimed timed) all) (sym none)
        (sampled-so plan [] (what ∷ untimed timed) few),
    so_far,
  )

  begun-so : (now : ℕ) (what : Happening) (timed : TimedNotes) → stage_behind ((now, what) ∷ timed) ≡ Starting
      → steps_in ((now, what) ∷ timed) ≡ [] → AreFew plan [] (what ∷ untimed timed) → AreSampledSoFar plan timed
      → IsStarting ((now, what) ∷ timed)
  begun-so now what timed stage none few so_far =
      record { stage = stage; none = none; few = few; so_far = noted-so now what timed none few so_far }

  setup-few : (what : Happening) (notes : List Happening) → IsOfSetup what → AreFew plan [] notes
      → AreFew plan [] (what ∷ notes)
  setup-few (Happening.Setup found) notes of few = record { sound = few.sound; few = few.few }
  setup-few (Happening.Recorded past) notes of few = record { sound = few.sound; few = few.few }
  setup-few Happening.Refused notes of few = record { sound = few.sound; few = few.few }
  setup-few what notes of few = absurd of

  -- what it notes of its setup
  setup-so : (now : ℕ) (lines : List Happening) (timed : TimedNotes) → AreLines lines → IsStarting timed
      → IsStarting (timed_behind now lines timed)
  setup-so now [] timed are so = so
  setup-so now (what ∷ lines) timed are so =
      let amid = setup-amid what are.0 in
      setup-so now lines ((now, what) ∷ timed) are.1
      (begun-so now what timed (amid-stage what (stage_behind timed) amid ∙ ap stage_within so.stage)
      (amid-with now what timed (steps_in timed) amid
      ∙ ap (λ (stage : Stage). steps_by stage now what timed (steps_in timed)) so.stage ∙ so.none)
      (setup-few what (untimed timed) are.0 so.few) so.so_far)

  ended-so : (now : ℕ) (timed : TimedNotes) → IsStarting timed → IsStarted ((now, Happening.StepEnded) ∷ timed)
  ended-so now timed so =
      let none : steps_in ((now, Happening.StepEnded) ∷ timed) ≡ [] =
      ap (λ (stage : Stage). steps_by stage now Happening.StepEnded timed (steps_in timed)) so.stage ∙ so.none in
      record {
        between = refl;
        none = none;
        so_far =
            noted-so now Happening.StepEnded timed none (record { sound = so.few.sound; few = so.few.few }) so.so_far;
      }

  -- all that it notes
  pub start-so : (other : EquipmentPlan) (file : SpoolFile) (now : ℕ) (before : TimedNotes)
      → AreSound (untimed before) → AreSampledSoFar plan before
      → IsStarted (timed_behind now (started_on other file).notes before)
  start-so other file now before sound so_far =
      subst IsStarted (sym (timed-end now lines Happening.StepEnded ((now, first) ∷ before)))
      (ended-so now (timed_behind now lines ((now, first) ∷ before))
      (setup-so now lines ((now, first) ∷ before) (are-lines other (setup_in file))
      (begun-so now first before refl refl (record { sound = sound; few = λ body. omega (arith) }) so_far)))
    where
      first : Happening
      first = Happening.EquipmentStarted (found_in file.list) file.mark.value

      lines : List Happening
      lines = found_lines other (setup_in file)
