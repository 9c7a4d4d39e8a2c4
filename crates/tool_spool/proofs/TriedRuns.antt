-- That runs of the equipment try the messages of its spool in turn.
use Rattle.std.proofs.Common.{◌≡◌, refl, sym, ap, subst, ◌∙◌, ℕ, List, [], ◌∷◌, ◌++◌, Option, Some, None}
use Rattle.disk_base.specs.declared.cut.CutChoice.{CutChoice}
use Rattle.disk_base.specs.declared.cut.CutChoice.TheVariants.{Old}
use Rattle.message_end.specs.Core.{Step, Went}
use Rattle.message_end.specs.Core.Went.{Goes, Spent}
use Rattle.message_end.specs.Course.{Course, Meeting, broken_at, course_of, filled_at, noted_behind, notes_of, went_on, with_meeting}
use Rattle.message_end.specs.Course.Course.{Reached, Stopped}
use Rattle.message_end.specs.Course.Meeting.{Acts, Breaks, Fills, LosesPower, Restarts, Writes}
use Rattle.message_end.specs.Doings.{Doing, IsInTurn}
use Rattle.message_end.specs.Doings.Doing.{Says}
use Rattle.message_end.specs.Ends.{DoesStep, GoesSoFar, HasRestarted, HasStarted, Input, IsOfWorld, KeepsLaw, Loss, LosesAt, MayTake, OnStart, call_of}
use Rattle.message_end.specs.Ends.IsOfWorld.{of_power, of_wrote}
use Rattle.message_end.specs.History.{noted_in}
use Rattle.message_flow.specs.declared.message.Message.{Message}
use Rattle.spool_works.proofs.LossCounts.{has-call}
use Rattle.trace_log.specs.Commands.{ToolCommandFits}
use Rattle.trace_log.specs.declared.commands.ToolCommand.{ToolCommand}
use Rattle.trace_log.specs.Log.{Happening}
use Rattle.trace_log.specs.Names.{Spooled}
use Rattle.equipment_tables.specs.declared.plan.EquipmentPlan.{EquipmentPlan}
use Rattle.tool_law.specs.Laws.{DidOf, EquipmentKeepsItsLaw}
use Rattle.tool_law.specs.Tried.{AreTried}
use Rattle.message_end.proofs.Growing.{behind-both}
use Rattle.message_end.proofs.Starts.{equipment-start}
use Rattle.tool_step.specs.End.{machine}
use Rattle.tool_step.specs.Equipment.{EquipmentView, act, restarts, starts}
use Rattle.tool_step.specs.Losses.{losses}
use Rattle.tool_step.specs.Step.{end_plan}
use Rattle.tool_spool.specs.TriedRuns.{HasTriedInTurn, MayMeet, MayMeetAll, RunsTryInTurn}

module _ (plan : EquipmentPlan) (start : Went EquipmentView Happening)
    (law : KeepsLaw (end_plan plan) (DidOf plan) ToolCommandFits start machine) where
  -- ---- what a run has come to

  -- what was noted since a start is of these doings
  abbrev NotedBy : ℕ → List (ℕ × Spooled) → List Happening → List Doing → List Happening → Type 0
  NotedBy base found before doings notes =
      notes ≡ noted_behind (noted_in doings) (Happening.EquipmentStarted found base ∷ before)

  record IsRunSo (s : EquipmentView) (notes : List Happening) : Type 0 where
    base : ℕ
    found : List (ℕ × Spooled)
    before : List Happening
    doings : List Doing
    noted : NotedBy base found before doings notes
    did : DidOf plan base doings s

  abbrev IsCourseSo : Course EquipmentView → Type 0
  IsCourseSo (Reached s notes) = IsRunSo s notes
  IsCourseSo (Stopped notes) = HasTriedInTurn plan notes

  in-turn : (s : EquipmentView) (notes : List Happening) → IsRunSo s notes → HasTriedInTurn plan notes
  in-turn s notes so = record {
    base = so.base;
    found = so.found;
    before = so.before;
    doings = so.doings;
    noted = so.noted;
    lawful = so.did.is.lawful;
    tried = so.did.tried;
  }

  -- more is noted, by more doings
  more-noted :
      (base : ℕ) (found : List (ℕ × Spooled)) (before : List Happening) (doings all : List Doing)
      (notes front : List Happening) → noted_in all ≡ noted_in doings ++ front → NotedBy base found before doings notes
      → NotedBy base found before all (noted_behind front notes)
  more-noted base found before doings all notes front more noted =
      ap (λ (ns : List Happening). noted_behind front ns) noted
      ∙ sym (behind-both (noted_in doings) front (Happening.EquipmentStarted found base ∷ before))
      ∙ ap (λ (ns : List Happening). noted_behind ns (Happening.EquipmentStarted found base ∷ before)) (sym more)

  -- ---- starts

  start-so :
      (least : ℕ) (step : Step EquipmentView Happening) (notes : List Happening)
      → HasStarted (end_plan plan) (DidOf plan) least step
      → IsRunSo step.next (noted_behind step.notes notes)
  start-so least step notes started =
      let starts = equipment-start _ started.note started.base started.of_side refl in
      record {
        base = started.base;
        found = starts.found;
        before = notes;
        doings = started.said;
        noted =
            ap (λ (ns : List Happening). noted_behind ns notes)
            (started.notes ∙ ap (λ (what : Happening). what ∷ noted_in started.said) starts.is);
        did = started.is;
      }

  restart-so :
      (base : ℕ) (doings : List Doing) (went : Went EquipmentView Happening) (notes : List Happening)
      → HasTriedInTurn plan notes → OnStart (HasRestarted (end_plan plan) (DidOf plan) base doings) went
      → IsCourseSo (went_on went notes)
  restart-so base doings (Goes step) notes turn at = start-so at.least step notes at.started
  restart-so base doings (Spent step) notes turn none =
      subst (λ (ns : List Happening). HasTriedInTurn plan (noted_behind ns notes)) (sym none) turn

  -- ---- steps

  step-so :
      (s : EquipmentView) (notes : List Happening) (input : Input ToolCommand) (now : ℕ)
      (went : Went EquipmentView Happening) (so : IsRunSo s notes)
      → DoesStep (end_plan plan) (DidOf plan) so.base so.doings input now went → IsCourseSo (went_on went notes)
  step-so s notes input now (Goes step) so does = record {
    base = so.base;
    found = so.found;
    before = so.before;
    doings = does.done ++ so.doings;
    noted =
        more-noted so.base so.found so.before so.doings (does.done ++ so.doings) notes step.notes does.notes so.noted;
    did = does.is;
  }
  step-so s notes input now (Spent step) so does = record {
    base = so.base;
    found = so.found;
    before = so.before;
    doings = does.done ++ so.doings;
    noted =
        more-noted so.base so.found so.before so.doings (does.done ++ so.doings) notes step.notes does.notes so.noted;
    lawful = does.is.is.lawful;
    tried = does.is.tried;
  }

  -- the world notes something
  said-so : (s : EquipmentView) (notes : List Happening) (what : Happening) → IsOfWorld what → IsRunSo s notes
      → IsRunSo s (what ∷ notes)
  said-so s notes what of so = record {
    base = so.base;
    found = so.found;
    before = so.before;
    doings = Says what ∷ so.doings;
    noted =
        more-noted so.base so.found so.before so.doings (Says what ∷ so.doings) notes (what ∷ []) refl so.noted;
    did = law.says so.base so.doings s what so.did of;
  }

  -- ---- a step that is stopped, or whose power is lost

  tail-tried : (later doings : List Doing) → AreTried (end_plan plan) (later ++ doings)
      → AreTried (end_plan plan) doings
  tail-tried [] doings tried = tried
  tail-tried (doing ∷ later) doings tried = tail-tried later doings tried.1

  front-so :
      (s : EquipmentView) (notes front : List Happening) (input : Input ToolCommand) (now : ℕ) (so : IsRunSo s notes)
      → GoesSoFar {S = EquipmentView} (end_plan plan) (DidOf plan) so.base so.doings input now front
      → HasTriedInTurn plan (noted_behind front notes)
  front-so s notes front input now so far = record {
    base = so.base;
    found = so.found;
    before = so.before;
    doings = far.done ++ so.doings;
    noted = more-noted so.base so.found so.before so.doings (far.done ++ so.doings) notes front far.notes so.noted;
    lawful = far.lawful;
    tried = tail-tried far.later (far.done ++ so.doings) far.could.tried;
  }

  -- the loss of power is noted behind it
  power-so :
      (s : EquipmentView) (notes front : List Happening) (input : Input ToolCommand) (now : ℕ) (so : IsRunSo s notes)
      → GoesSoFar {S = EquipmentView} (end_plan plan) (DidOf plan) so.base so.doings input now front
      → HasTriedInTurn plan (Happening.Power ∷ noted_behind front notes)
  power-so s notes front input now so far = record {
    base = so.base;
    found = so.found;
    before = so.before;
    doings = Says Happening.Power ∷ (far.done ++ so.doings);
    noted =
        more-noted so.base so.found so.before (far.done ++ so.doings)
        (Says Happening.Power ∷ (far.done ++ so.doings)) (noted_behind front notes) (Happening.Power ∷ []) refl
        (more-noted so.base so.found so.before so.doings (far.done ++ so.doings) notes front far.notes so.noted);
    lawful = (
      (
        subst (λ (whole : Option Message). IsInTurn whole (Says Happening.Power)) (sym far.received) tt,
        tt,
      ),
      far.lawful,
    );
    tried = (tt, tail-tried far.later (far.done ++ so.doings) far.could.tried);
  }

  lost-at :
      (s : EquipmentView) (notes : List Happening) (input : Input ToolCommand) (now call : ℕ)
      (loss : Loss EquipmentView) (choice : CutChoice) (so : IsRunSo s notes) → MayTake ToolCommandFits input
      → call_of call (losses s input now) ≡ Some loss
      → LosesAt (end_plan plan) (DidOf plan) so.base so.doings input now loss.front
      (restarts (loss.left choice) now)
  lost-at s notes input now call loss choice so may is =
      law.loses so.base so.doings s input now so.did may loss (has-call call (losses s input now) loss is) choice

  broken-so :
      (s : EquipmentView) (notes : List Happening) (input : Input ToolCommand) (now call : ℕ) (choice : CutChoice)
      (found : Option (Loss EquipmentView)) → call_of call (losses s input now) ≡ found → MayTake ToolCommandFits input
      → IsRunSo s notes → IsCourseSo (broken_at machine now choice s notes found)
  broken-so s notes input now call choice None is may so = so
  broken-so s notes input now call choice (Some loss) is may so =
      let lost = lost-at s notes input now call loss choice so may is in
      restart-so so.base (lost.so_far.done ++ so.doings) (restarts (loss.left choice) now)
      (Happening.Power ∷ noted_behind loss.front notes) (power-so s notes loss.front input now so lost.so_far)
      lost.starts

  filled-so :
      (s : EquipmentView) (notes : List Happening) (input : Input ToolCommand) (now call : ℕ)
      (found : Option (Loss EquipmentView)) → call_of call (losses s input now) ≡ found → MayTake ToolCommandFits input
      → IsRunSo s notes → IsCourseSo (filled_at s notes found)
  filled-so s notes input now call None is may so = so
  filled-so s notes input now call (Some loss) is may so =
      front-so s notes loss.front input now so (lost-at s notes input now call loss Old so may is).so_far

  -- ---- all of a run

  meeting-so :
      (meeting : Meeting ToolCommand) (course : Course EquipmentView) → MayMeet meeting → IsCourseSo course
      → IsCourseSo (with_meeting machine meeting course)
  meeting-so meeting (Stopped notes) may so = so
  meeting-so (Acts input now) (Reached s notes) may so =
      step-so s notes input now (act s input now) so (law.goes_on so.base so.doings s input now so.did may)
  meeting-so (Restarts now) (Reached s notes) may so =
      restart-so so.base so.doings (restarts s now) notes (in-turn s notes so)
      (law.restarts so.base so.doings s now so.did)
  meeting-so (Writes characters) (Reached s notes) may so = said-so s notes (Happening.Wrote characters) (of_wrote characters) so
  meeting-so LosesPower (Reached s notes) may so = said-so s notes Happening.Power of_power so
  meeting-so (Breaks input now call choice) (Reached s notes) may so =
      broken-so s notes input now call choice (call_of call (losses s input now)) refl may so
  meeting-so (Fills input now call) (Reached s notes) may so =
      filled-so s notes input now call (call_of call (losses s input now)) refl may so

  module _ (first : Step EquipmentView Happening) (is : start ≡ Goes first) where
    first-started : HasStarted (end_plan plan) (DidOf plan) 0 first
    first-started = subst (OnStart (HasStarted (end_plan plan) (DidOf plan) 0)) is law.starts

    course-so : (meetings : List (Meeting ToolCommand)) → MayMeetAll meetings
        → IsCourseSo (course_of first machine meetings)
    course-so [] may = start-so 0 first [] first-started
    course-so (meeting ∷ meetings) may =
        meeting-so meeting (course_of first machine meetings) may.0 (course-so meetings may.1)

    pub run-so : (meetings : List (Meeting ToolCommand)) → MayMeetAll meetings
        → HasTriedInTurn plan (notes_of (course_of first machine meetings))
    run-so meetings may = go (course_of first machine meetings) (course-so meetings may)
      where
        go : (course : Course EquipmentView) → IsCourseSo course → HasTriedInTurn plan (notes_of course)
        go (Reached s notes) so = in-turn s notes so
        go (Stopped notes) so = so

pub runs-in-turn : EquipmentKeepsItsLaw → RunsTryInTurn
runs-in-turn keeps plan file fits can first is meetings may =
    run-so plan (starts plan file) (keeps plan file fits can) first is meetings may
