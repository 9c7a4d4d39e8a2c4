-- What is said of S6F1 at each entry of the equipment: its steps are those of its course, at their moments.
use Rattle.std.proofs.Common.{◌≡◌, refl, sym, ap, subst, ◌∙◌, Bool, true, false, ℕ, List, [], ◌∷◌, ◌++◌, Option, Some, None, if◌then◌else◌}
use Rattle.disk_base.specs.declared.cut.CutChoice.{CutChoice}
use Rattle.gem_trace.specs.Laws.{FewTracesRun, WhatRunsIsLookedBackFor}
use Rattle.spool_file.specs.File.{SpoolFile}
use Rattle.trace_log.specs.Log.{Happening}
use Rattle.trace_log.specs.declared.commands.ToolCommand.{ToolCommand}
use Rattle.message_end.specs.Core.{at_first, step_in}
use Rattle.message_end.specs.Core.Went.{Goes, Spent}
use Rattle.message_end.specs.Course.{Course, Meeting, broken_at, course_of, filled_at, noted_behind, notes_of, went_on, with_meeting}
use Rattle.message_end.specs.Course.Course.{Reached, Stopped}
use Rattle.message_end.specs.Course.Meeting.{Acts, Breaks, Fills, LosesPower, Restarts, Writes}
use Rattle.message_end.specs.Ends.{Input, Loss, call_of}
use Rattle.message_end.proofs.Parts.{OnEither}
use Rattle.end_pair.specs.Noted.{AreTimesOf, IsBrokenThen, IsFilledThen, IsMetThen, IsNotedThen, TimedNotes, timed_behind}
use Rattle.equipment_tables.specs.declared.plan.EquipmentPlan.{EquipmentPlan}
use Rattle.equipment_tables.specs.Laws.{TablesAreLookedBackFor}
use Rattle.equipment_tables.specs.Plan.{EquipmentPlanFits}
use Rattle.tool_step.specs.End.{machine}
use Rattle.tool_step.specs.Equipment.{EquipmentView, act, is_marked_out, restarts, started_on, starts, unstarted}
use Rattle.tool_step.specs.Losses.{losses}
use Rattle.tool_law.specs.Sound.{AllCanBeSent}
use Rattle.tool_reports.specs.LookedBack.{HasWhatWasSet}
use Rattle.tool_reports.specs.Reported.{tables_in}
use Rattle.tool_reports.specs.Sampled.{AreSampled, Stepped}
use Rattle.tool_reports.proofs.Reporting.{tables-so}
use Rattle.tool_traces.specs.Steps.{stepped, steps_behind, steps_broken, steps_filled, steps_met, steps_started, with_step}
use Rattle.tool_traces.proofs.IdleNotes.{AreSound}
use Rattle.tool_traces.proofs.TracedCourses.{AreFew, FileWent, IsCourseSo, IsFewAmid, IsReachedSo, NotesFew, NotesWhole, act-notes, course-so, few-so, few-with, lost-so, power-so, sampled-so, whole-step}
use Rattle.line_world.specs.Cuts.{AreSampledSoFar, stage_behind, steps_in, untimed}
use Rattle.line_world.specs.Cuts.Stage.{Between}
use Rattle.line_world.proofs.CutStarts.{IsStarted, start-so}
use Rattle.line_world.proofs.CutSteps.{amid-so-far, amid-steps, timed-end, untimed-behind, whole-so-far, whole-steps}

-- between two steps, where it goes on
abbrev BeginsAt : Course EquipmentView → TimedNotes → Type 0
BeginsAt (Reached s notes) timed = stage_behind timed ≡ Between
BeginsAt (Stopped notes) timed = Unit {0}

module _ (plan : EquipmentPlan) where
  -- the notes are those of the course, cut into its steps; and what is said of S6F1 holds at each of them
  record AreCut (steps : List Stepped) (course : Course EquipmentView) (timed : TimedNotes) : Type 0 where
    notes : untimed timed ≡ notes_of course
    steps_are : steps_in timed ≡ steps
    between : BeginsAt course timed
    so_far : AreSampledSoFar plan timed

  -- ---- a step

  module _ (now : ℕ) (steps : List Stepped) (notes : List Happening) (before : TimedNotes)
      (same_notes : untimed before ≡ notes) (same_steps : steps_in before ≡ steps)
      (begins : stage_behind before ≡ Between) (so_far : AreSampledSoFar plan before) where
    read-off : (front : List Happening) → IsFewAmid plan steps notes now front
        → IsFewAmid plan (steps_in before) (untimed before) now front
    read-off front so =
        subst (λ (all : List Stepped). IsFewAmid plan all (untimed before) now front) (sym same_steps)
        (subst (λ (all : List Happening). IsFewAmid plan steps all now front) (sym same_notes) so)

    same-behind : (noted : List Happening) → untimed (timed_behind now noted before) ≡ noted_behind noted notes
    same-behind noted =
        untimed-behind now noted before ∙ ap (λ (all : List Happening). noted_behind noted all) same_notes

    -- some notes of it, with which it stops
    front-steps : (front : List Happening) → IsFewAmid plan steps notes now front
        → steps_in (timed_behind now front before) ≡ with_step now notes front steps
    front-steps front so =
        amid-steps now front before so.amid begins
        ∙ ap (λ (all : List Happening). with_step now all front (steps_in before)) same_notes
        ∙ ap (λ (all : List Stepped). with_step now notes front all) same_steps

    front-cut : (front : List Happening) → IsFewAmid plan steps notes now front
        → AreCut (with_step now notes front steps) (Stopped (noted_behind front notes)) (timed_behind now front before)
    front-cut front so = record {
      notes = same-behind front;
      steps_are = front-steps front so;
      between = tt;
      so_far = amid-so-far plan now front before begins (read-off front so) so_far;
    }

    -- and all of it, where it goes on
    whole-cut :
        (s : EquipmentView) (front noted : List Happening) → noted ≡ front ++ Happening.StepEnded ∷ []
        → IsFewAmid plan steps notes now front
        → AreCut (with_step now notes noted steps) (Reached s (noted_behind noted notes))
        (timed_behind now noted before)
    whole-cut s front noted is so = record {
      notes = same-behind noted;
      steps_are =
          ap (λ (all : TimedNotes). steps_in all) timed_is ∙ whole-steps now front before so.amid begins
          ∙ ap
          (λ (all : List Happening). stepped now all (front ++ Happening.StepEnded ∷ []) ∷ steps_in before) same_notes
          ∙ ap
          (λ (all : List Stepped). stepped now notes (front ++ Happening.StepEnded ∷ []) ∷ all) same_steps
          ∙ ap (λ (ns : List Happening). stepped now notes ns ∷ steps) (sym is)
          ∙ sym (whole-step now notes noted front steps is);
      between = ap (λ (all : TimedNotes). stage_behind all) timed_is;
      so_far =
          subst (λ (all : TimedNotes). AreSampledSoFar plan all) (sym timed_is)
          (whole-so-far plan now front before begins (read-off front so) so_far);
    }
      where
        timed_is : timed_behind now noted before ≡ (now, Happening.StepEnded) ∷ timed_behind now front before
        timed_is =
            ap (λ (ns : List Happening). timed_behind now ns before) is
            ∙ timed-end now front Happening.StepEnded before

    went-cut : (went : FileWent) (timed : TimedNotes)
        → OnEither (NotesWhole plan steps notes now) (NotesFew plan steps notes now) went
        → timed ≡ timed_behind now (step_in went).notes before
        → AreCut (with_step now notes (step_in went).notes steps) (went_on went notes) timed
    went-cut (Goes step) timed whole is =
        subst (λ (all : TimedNotes). AreCut (with_step now notes step.notes steps)
        (Reached step.next (noted_behind step.notes notes)) all) (sym is)
        (whole-cut step.next whole.front step.notes whole.is whole.so)
    went-cut (Spent step) timed few is =
        subst (λ (all : TimedNotes). AreCut (with_step now notes step.notes steps)
        (Stopped (noted_behind step.notes notes)) all) (sym is) (front-cut step.notes few)

  -- ---- a start

  -- where there are numbers left, it leaves no step behind it
  started-cut :
      (other : EquipmentPlan) (file : SpoolFile) (now : ℕ) (steps : List Stepped)
      (notes : List Happening) (before timed : TimedNotes)
      → untimed before ≡ notes → steps_in before ≡ steps → AreSampledSoFar plan before → AreSound notes
      → timed ≡ timed_behind now (step_in (starts other file)).notes before
      → AreCut (steps_started (starts other file) steps) (went_on (starts other file) notes) timed
  started-cut other file now steps notes before timed same_notes same_steps so_far sound is =
      go (is_marked_out file.mark.value) is
    where
      went : Bool → FileWent
      went spent = if spent then Spent (at_first (unstarted other file)) else Goes (started_on other file)

      here : TimedNotes
      here = timed_behind now (started_on other file).notes before

      started : IsStarted plan here
      started = start-so plan other file now before (subst AreSound (sym same_notes) sound) so_far

      go : (spent : Bool) → timed ≡ timed_behind now (step_in (went spent)).notes before
          → AreCut (steps_started (went spent) steps) (went_on (went spent) notes) timed
      go true is =
          subst (λ (all : TimedNotes). AreCut steps (Stopped notes) all) (sym is)
          (record { notes = same_notes; steps_are = same_steps; between = tt; so_far = so_far })
      go false is =
          subst (λ (all : TimedNotes). AreCut [] (went_on (went false) notes) all) (sym is)
          (record {
            notes =
                untimed-behind now (started_on other file).notes before
                ∙ ap (λ (all : List Happening). noted_behind (started_on other file).notes all) same_notes;
            steps_are = started.none;
            between = started.between;
            so_far = started.so_far;
          })

  -- ---- the world notes something

  -- of S6F1 nothing is said anew
  noted-cut :
      (what : Happening) (steps : List Stepped) (s : EquipmentView) (notes : List Happening)
      (before timed : TimedNotes) → AreCut steps (Reached s notes) before → IsNotedThen what before timed
      → ((moment : ℕ) → steps_in ((moment, what) ∷ before) ≡ steps_in before)
      → ((moment : ℕ) → stage_behind ((moment, what) ∷ before) ≡ Between) → AreFew plan steps (what ∷ notes)
      → AreCut steps (Reached s (what ∷ notes)) timed
  noted-cut what steps s notes before timed cut noted stay begin few =
      subst (λ (all : TimedNotes). AreCut steps (Reached s (what ∷ notes)) all) (sym noted.is)
      (record {
        notes = ap (λ (all : List Happening). what ∷ all) cut.notes;
        steps_are = stay noted.moment ∙ cut.steps_are;
        between = begin noted.moment;
        so_far = (
          subst (λ (all : List Stepped). AreSampled plan (what ∷ untimed before) all)
              (sym (stay noted.moment ∙ cut.steps_are))
              (subst (λ (all : List Happening). AreSampled plan (what ∷ all) steps) (sym cut.notes)
              (sampled-so plan steps (what ∷ notes) few)),
          cut.so_far,
        );
      })

  -- ---- over all that it meets

  module _ (looked : WhatRunsIsLookedBackFor) (bound : FewTracesRun) where
    -- its power goes at a call of its disk
    broken-cut :
        (input : Input ToolCommand) (now call : ℕ) (choice : CutChoice) (steps : List Stepped) (s : EquipmentView)
        (notes : List Happening) (before timed : TimedNotes) → s.node.own.tables ≡ tables_in plan notes
        → IsReachedSo plan steps s notes → AreCut steps (Reached s notes) before
        → (found : Option (Loss EquipmentView)) → call_of call (losses s input now) ≡ found
        → IsBrokenThen restarts now choice found before timed
        → AreCut
        (steps_broken (λ (loss : Loss EquipmentView). restarts (loss.left choice) now) now notes found steps)
        (broken_at machine now choice s notes found) timed
    broken-cut input now call choice steps s notes before timed tables so cut None lost is =
        subst (λ (all : TimedNotes). AreCut steps (Reached s notes) all) (sym is) cut
    broken-cut input now call choice steps s notes before timed tables so cut (Some loss) lost is =
        started-cut (loss.left choice).node.own.plan (loss.left choice).file now (with_step now notes loss.front steps)
        (Happening.Power ∷ noted_behind loss.front notes)
        ((now, Happening.Power) ∷ timed_behind now loss.front before) timed
        (ap (λ (all : List Happening). Happening.Power ∷ all) front.notes) front.steps_are (
          subst
              (λ (all : List Stepped). AreSampled plan
              (Happening.Power ∷ untimed (timed_behind now loss.front before)) all) (sym front.steps_are)
              (subst
              (λ (all : List Happening). AreSampled plan (Happening.Power ∷ all)
              (with_step now notes loss.front steps)) (sym front.notes)
              (sampled-so plan (with_step now notes loss.front steps)
              (Happening.Power ∷ noted_behind loss.front notes) few)),
          front.so_far,
        ) few.sound is
      where
        amid : IsFewAmid plan steps notes now loss.front
        amid = lost-so plan looked bound input now call steps s notes loss lost tables so

        front : AreCut (with_step now notes loss.front steps) (Stopped (noted_behind loss.front notes))
            (timed_behind now loss.front before)
        front =
            front-cut now steps notes before cut.notes cut.steps_are cut.between cut.so_far loss.front amid

        few : AreFew plan (with_step now notes loss.front steps) (Happening.Power ∷ noted_behind loss.front notes)
        few =
            power-so plan (with_step now notes loss.front steps) (noted_behind loss.front notes)
            (few-with plan steps notes now loss.front (few-so plan steps s notes so) amid.few)

    -- or there is no room for it
    filled-cut :
        (input : Input ToolCommand) (now call : ℕ) (steps : List Stepped) (s : EquipmentView) (notes : List Happening)
        (before timed : TimedNotes) → s.node.own.tables ≡ tables_in plan notes → IsReachedSo plan steps s notes
        → AreCut steps (Reached s notes) before
        → (found : Option (Loss EquipmentView)) → call_of call (losses s input now) ≡ found
        → IsFilledThen now found before timed
        → AreCut (steps_filled now notes found steps) (filled_at s notes found) timed
    filled-cut input now call steps s notes before timed tables so cut None lost is =
        subst (λ (all : TimedNotes). AreCut steps (Reached s notes) all) (sym is) cut
    filled-cut input now call steps s notes before timed tables so cut (Some loss) lost is =
        subst
        (λ (all : TimedNotes). AreCut (with_step now notes loss.front steps) (Stopped (noted_behind loss.front notes))
        all) (sym is)
        (front-cut now steps notes before cut.notes cut.steps_are cut.between cut.so_far loss.front
        (lost-so plan looked bound input now call steps s notes loss lost tables so))

    meeting-cut :
        (meeting : Meeting ToolCommand) (steps : List Stepped) (course : Course EquipmentView)
        → HasWhatWasSet plan course → IsCourseSo plan steps course
        → (before timed : TimedNotes) → AreCut steps course before → IsMetThen machine meeting course before timed
        → AreCut (steps_behind meeting course steps) (with_meeting machine meeting course) timed
    meeting-cut meeting steps (Stopped notes) tables so before timed cut is =
        subst (λ (all : TimedNotes). AreCut steps (Stopped notes) all) (sym is) cut
    meeting-cut (Acts input now) steps (Reached s notes) tables so before timed cut is =
        went-cut now steps notes before cut.notes cut.steps_are cut.between cut.so_far (act s input now) timed
        (act-notes plan looked bound steps notes now input s tables so) is
    meeting-cut (Restarts now) steps (Reached s notes) tables so before timed cut is =
        started-cut s.node.own.plan s.file now steps notes before timed cut.notes
        cut.steps_are cut.so_far so.sound is
    meeting-cut (Writes characters) steps (Reached s notes) tables so before timed cut is =
        noted-cut (Happening.Wrote characters) steps s notes before timed cut is (λ moment. refl) (λ moment. refl)
        (with-noted (few-so plan steps s notes so))
      where
        with-noted : AreFew plan steps notes → AreFew plan steps (Happening.Wrote characters ∷ notes)
        with-noted few = record { sound = few.sound; few = few.few }
    meeting-cut LosesPower steps (Reached s notes) tables so before timed cut is =
        noted-cut Happening.Power steps s notes before timed cut is (λ moment. refl) (λ moment. refl)
        (power-so plan steps notes (few-so plan steps s notes so))
    meeting-cut (Breaks input now call choice) steps (Reached s notes) tables so before timed cut is =
        broken-cut input now call choice steps s notes before timed tables so cut (call_of call (losses s input now))
        refl is
    meeting-cut (Fills input now call) steps (Reached s notes) tables so before timed cut is =
        filled-cut input now call steps s notes before timed tables so cut (call_of call (losses s input now)) refl is

    course-cut :
        (fits : EquipmentPlanFits plan) (tables : TablesAreLookedBackFor) (file : SpoolFile)
        → AllCanBeSent file.list → (meetings : List (Meeting ToolCommand)) (timed : TimedNotes)
        → AreTimesOf (started_on plan file) machine meetings timed
        → AreCut (steps_met (started_on plan file) meetings)
        (course_of (started_on plan file) machine meetings) timed
    course-cut fits tables file can [] timed is =
        subst
        (λ (all : TimedNotes). AreCut [] (course_of (started_on plan file) machine []) all) (sym is)
        (record {
          notes = untimed-behind 0 (started_on plan file).notes [];
          steps_are = started.none;
          between = started.between;
          so_far = started.so_far;
        })
      where
        started : IsStarted plan (timed_behind 0 (started_on plan file).notes [])
        started = start-so plan plan file 0 [] (tt, tt) tt
    course-cut fits tables file can (meeting ∷ meetings) timed is =
        meeting-cut meeting (steps_met (started_on plan file) meetings)
        (course_of (started_on plan file) machine meetings)
        (tables-so plan fits tables file can meetings)
        (course-so plan looked bound fits tables file can meetings) is.0 timed
        (course-cut fits tables file can meetings is.0 is.1.0) is.1.1

    -- so it is of every log that has the notes of a course at their moments
    pub sampled-log :
        (fits : EquipmentPlanFits plan) (tables : TablesAreLookedBackFor) (file : SpoolFile)
        → AllCanBeSent file.list → (meetings : List (Meeting ToolCommand)) (timed : TimedNotes)
        → AreTimesOf (started_on plan file) machine meetings timed → AreSampledSoFar plan timed
    sampled-log fits tables file can meetings timed is =
        (course-cut fits tables file can meetings timed is).so_far
