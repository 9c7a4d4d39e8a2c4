-- That what the equipment has noted in a course keeps its laws, with a closing behind it and at each front.
use Rattle.std.proofs.Common.{◌≡◌, ◌⊎◌, refl, sym, ap, subst, ◌∙◌, ◌<◌, ◌^◌, ℕ, List, [], ◌∷◌, ◌++◌, drop, inl, inr, Option, Some, None}
use Rattle.std.specs.Option.{unwrap_or}
use Rattle.message_end.specs.Core.{Went}
use Rattle.message_end.specs.Core.Went.{Goes, Spent}
use Rattle.message_end.specs.Course.{Course, Meeting, broken_at, course_of, filled_at, noted_behind, notes_of, went_on, with_meeting}
use Rattle.message_end.specs.Course.Course.{Reached, Stopped}
use Rattle.message_end.specs.Course.Meeting.{Acts, Breaks, Fills, LosesPower, Restarts, Writes}
use Rattle.message_end.specs.Ends.{Loss, call_of}
use Rattle.disk_base.specs.declared.cut.CutChoice.{CutChoice}
use Rattle.setup_law.specs.Setup.{Due, IsNext, KeepsSetup, due_behind_entry, due_behind_past, due_in, to_keep}
use Rattle.setup_law.specs.Setup.Due.{Anything, Entries}
use Rattle.setup_store.specs.Entries.{Entry}
use Rattle.spool_law.specs.Shelf.{KeepsSpoolFrom, Policy}
use Rattle.spool_file.specs.File.{SpoolFile}
use Rattle.spool_works.specs.Found.{found_in}
use Rattle.trace_log.specs.Log.{Happening, Past}
use Rattle.trace_log.specs.Names.{Spooled}
use Rattle.trace_log.specs.declared.commands.ToolCommand.{ToolCommand}
use Rattle.equipment_tables.specs.declared.plan.EquipmentPlan.{EquipmentPlan}
use Rattle.equipment_tables.specs.Plan.{EquipmentPlanFits}
use Rattle.tool_reports.specs.Laws.{ReportsAreOfTheirEvents}
use Rattle.tool_reports.specs.Reported.{Reported, due_behind, to_carry}
use Rattle.tool_reports.proofs.QuietNotes.{in-place}
use Rattle.tool_spool.specs.LeavesInStep.{LeaveInTheirSteps, MessagesLeaveInStep}
use Rattle.tool_spool.specs.MadeRoom.{IsRoomUsed, LeavesNoRoom, MakesRoomForPuts, OverwritesForPuts}
use Rattle.tool_spool.specs.SetupKept.{OwesNothing, SetupIsKept}
use Rattle.tool_spool.specs.SpoolKept.{MayHold, SpoolIsKeptFrom, policy_of}
use Rattle.tool_step.specs.End.{machine}
use Rattle.tool_step.specs.Equipment.{EquipmentView, setup_lines, started_on}
use Rattle.tool_step.specs.Losses.{losses}
use Rattle.tool_step.specs.Setup.{found_list, setup_in}
use Rattle.end_run.specs.declared.ending.Ending.{Ending}
use Rattle.end_run.specs.declared.ending.Ending.TheVariants as ending
use Rattle.link_courses.specs.Courses.{ComesTo, with_closing}
use Rattle.link_courses.specs.Equipment.{KeepsLaws}

-- ---- something is noted

abbrev HasAny : List Happening → Type 0
HasAny [] = ⊥
HasAny (what ∷ before) = Unit {0}

behind-any : (front notes : List Happening) → HasAny notes → HasAny (noted_behind front notes)
behind-any [] notes any = any
behind-any (what ∷ front) notes any = behind-any front (what ∷ notes) tt

went-any : (went : Went EquipmentView Happening) (notes : List Happening) → HasAny notes
    → HasAny (notes_of (went_on went notes))
went-any (Goes step) notes any = behind-any step.notes notes any
went-any (Spent step) notes any = behind-any step.notes notes any

broken-any :
    (now : ℕ) (choice : CutChoice) (s : EquipmentView) (notes : List Happening) (loss : Option (Loss EquipmentView))
    → HasAny notes → HasAny (notes_of (broken_at machine now choice s notes loss))
broken-any now choice s notes None any = any
broken-any now choice s notes (Some loss) any =
    went-any (machine.restart (loss.left choice) now) (Happening.Power ∷ noted_behind loss.front notes) tt

filled-any : (s : EquipmentView) (notes : List Happening) (loss : Option (Loss EquipmentView)) → HasAny notes
    → HasAny (notes_of (filled_at s notes loss))
filled-any s notes None any = any
filled-any s notes (Some loss) any = behind-any loss.front notes any

meeting-any : (meeting : Meeting ToolCommand) (course : Course EquipmentView) → HasAny (notes_of course)
    → HasAny (notes_of (with_meeting machine meeting course))
meeting-any meeting (Stopped notes) any = any
meeting-any (Acts input now) (Reached s notes) any = went-any (machine.act s input now) notes any
meeting-any (Restarts now) (Reached s notes) any = went-any (machine.restart s now) notes any
meeting-any (Writes characters) (Reached s notes) any = tt
meeting-any LosesPower (Reached s notes) any = tt
meeting-any (Breaks input now call choice) (Reached s notes) any =
    broken-any now choice s notes (call_of call (losses s input now)) any
meeting-any (Fills input now call) (Reached s notes) any =
    filled-any s notes (call_of call (losses s input now)) any

course-any :
    (plan : EquipmentPlan) (file : SpoolFile) (met : List (Meeting ToolCommand))
    → HasAny (notes_of (course_of (started_on plan file) machine met))
course-any plan file [] =
    behind-any (setup_lines plan (setup_in file))
    (Happening.EquipmentStarted (found_in file.list) file.mark.value ∷ []) tt
course-any plan file (meeting ∷ met) =
    meeting-any meeting (course_of (started_on plan file) machine met)
    (course-any plan file met)

-- ---- of all that is noted, what comes first

first-reported : (plan : EquipmentPlan) (later first : List Happening) → Reported plan (later ++ first)
    → Reported plan first
first-reported plan [] first all = all
first-reported plan (what ∷ later) first all = first-reported plan later first all.1

first-spooled :
    (policy : Policy) (held : List (ℕ × Spooled)) (later first : List Happening)
    → KeepsSpoolFrom policy held (later ++ first) → KeepsSpoolFrom policy held first
first-spooled policy held [] first all = all
first-spooled policy held (what ∷ later) first all = first-spooled policy held later first all.1

first-leaves : (policy : Policy) (later first : List Happening) → LeaveInTheirSteps policy (later ++ first)
    → LeaveInTheirSteps policy first
first-leaves policy [] first all = all
first-leaves policy (what ∷ later) first all = first-leaves policy later first all.1

first-room : (later first : List Happening) → MakesRoomForPuts (later ++ first) → MakesRoomForPuts first
first-room [] first all = all
first-room (what ∷ later) first all = first-room later first all.1

first-set-up :
    (plan : EquipmentPlan) (held : Option (List Entry)) (later first : List Happening)
    → KeepsSetup plan held (later ++ first) → KeepsSetup plan held first
first-set-up plan held [] first all = all
first-set-up plan held (what ∷ later) first all = first-set-up plan held later first all.1

pub first-keeps :
    (plan : EquipmentPlan) (file : SpoolFile) (whole later first : List Happening) → whole ≡ later ++ first
    → KeepsLaws plan file whole → KeepsLaws plan file first
first-keeps plan file whole later first is all =
    let keeps = subst (KeepsLaws plan file) is all in
    record {
      reported = first-reported plan later first keeps.reported;
      spooled = first-spooled (policy_of plan file.slots) (found_in file.list) later first keeps.spooled;
      leaves = first-leaves (policy_of plan file.slots) later first keeps.leaves;
      room = first-room later first keeps.room;
      set_up = first-set-up plan (setup_in file) later first keeps.set_up;
    }

-- ---- what is left to be carried out of a setup is due

found-due : (found : Option (List Entry)) → unwrap_or found [] ≡ found_list found
found-due None = refl
found-due (Some list) = refl

counted-due :
    (past : Past) (list : Option (List Entry)) (left : List Entry) (due : Due) → due ≡ Entries left
    → (drop 1 left ≡ []) ⊎ (due_behind_past past list due ≡ Entries (drop 1 left))
counted-due past list [] due is = inl refl
counted-due past list (entry ∷ left) due is = inr (ap (due_behind_past past list) is)

refused-due :
    (left : List Entry) (due : Due) → due ≡ Entries left
    → (drop 1 left ≡ []) ⊎ (due_behind_entry due ≡ Entries (drop 1 left))
refused-due [] due is = inl refl
refused-due (entry ∷ left) due is = inr (ap due_behind_entry is)

module _ (plan : EquipmentPlan) (held : Option (List Entry)) where
  abbrev IsLeftDue : List Happening → Type 0
  IsLeftDue notes = (to_carry notes ≡ []) ⊎ (due_in plan held notes ≡ Entries (to_carry notes))

  counted-left : (past : Past) (before : List Happening) → IsLeftDue before
      → IsLeftDue (Happening.Recorded past ∷ before)
  counted-left past before (inl none) = inl (ap (λ (left : List Entry). drop 1 left) none)
  counted-left past before (inr is) =
      counted-due past (to_keep plan held before past) (to_carry before) (due_in plan held before) is

  refused-left : (before : List Happening) → IsLeftDue before → IsLeftDue (Happening.Refused ∷ before)
  refused-left before (inl none) = inl (ap (λ (left : List Entry). drop 1 left) none)
  refused-left before (inr is) = refused-due (to_carry before) (due_in plan held before) is

  left-due : (notes : List Happening) → IsLeftDue notes
  left-due [] = inl refl
  left-due (Happening.Setup found ∷ before) = inr (ap Entries (found-due found))
  left-due (Happening.Recorded past ∷ before) = counted-left past before (left-due before)
  left-due (Happening.Refused ∷ before) = refused-left before (left-due before)
  left-due (what ∷ before) = inl refl

  -- so none is where nothing is due
  none-left : (notes : List Happening) → due_in plan held notes ≡ Anything → to_carry notes ≡ []
  none-left notes nothing = go (left-due notes)
    where
      unlike : (left : List Entry) → Entries left ≡ Anything → ⊥
      unlike left is = cc

      go : IsLeftDue notes → to_carry notes ≡ []
      go (inl none) = none
      go (inr is) = absurd (unlike (to_carry notes) (sym is ∙ nothing))

-- ---- a closing behind the notes

closed-keeps :
    (plan : EquipmentPlan) (file : SpoolFile) (notes : List Happening) → HasAny notes → due_behind plan notes ≡ None
    → IsRoomUsed notes → due_in plan (setup_in file) notes ≡ Anything → KeepsLaws plan file notes
    → KeepsLaws plan file (Happening.Closed ∷ notes)
closed-keeps plan file [] any none used nothing keeps = absurd any
closed-keeps plan file (what ∷ before) any none used nothing keeps = record {
  reported = (
    in-place plan Happening.Closed (what ∷ before) (none-left plan (setup_in file) (what ∷ before) nothing) (sym none)
        tt,
    keeps.reported,
  );
  spooled = (tt, keeps.spooled);
  leaves = (tt, keeps.leaves);
  room = (inl used, keeps.room);
  set_up = (
    subst (λ (due : Due). IsNext plan (setup_in file) (what ∷ before) due Happening.Closed) (sym nothing) tt,
    keeps.set_up,
  );
}

used-so : (left : EquipmentView) (course : Course EquipmentView) → course ≡ Reached left (notes_of course)
    → LeavesNoRoom course → IsRoomUsed (notes_of course)
used-so left (Reached s notes) is none = none
used-so left (Stopped notes) is none = absurd (cc)

nothing-so : (plan : EquipmentPlan) (held : Option (List Entry)) (left : EquipmentView) (course : Course EquipmentView)
    → course ≡ Reached left (notes_of course) → OwesNothing plan held course
    → due_in plan held (notes_of course) ≡ Anything
nothing-so plan held left (Reached s notes) is nothing = nothing
nothing-so plan held left (Stopped notes) is nothing = absurd (cc)

module _ (reports : ReportsAreOfTheirEvents) (spool : SpoolIsKeptFrom) (leaves : MessagesLeaveInStep)
    (room : OverwritesForPuts) (set_up : SetupIsKept) (plan : EquipmentPlan) (fits : EquipmentPlanFits plan) (file : SpoolFile)
    (some : 0 < file.slots) (most : file.slots < 2 ^ 16) (may : MayHold file)
    (met : List (Meeting ToolCommand)) where
  abbrev course : Course EquipmentView
  course = course_of (started_on plan file) machine met

  course-keeps : KeepsLaws plan file (notes_of course)
  course-keeps = record {
    reported = (reports plan file fits may.sent met).reported;
    spooled = spool plan file fits some most may met;
    leaves = leaves plan file fits some most may met;
    room = (room plan file fits some most may met).puts;
    set_up = (set_up plan file fits some most may met).keeps;
  }

  pub closing-keeps : (ended : Option Ending) (left : EquipmentView) → ComesTo ended left course
      → KeepsLaws plan file (with_closing ended (notes_of course))
  closing-keeps None left comes = course-keeps
  closing-keeps (Some ending.Closed) left comes =
      closed-keeps plan file (notes_of course) (course-any plan file met)
      (reports plan file fits may.sent met).done
      (used-so left course comes (room plan file fits some most may met).none)
      (nothing-so plan (setup_in file) left course comes (set_up plan file fits some most may met).rests)
      course-keeps
  closing-keeps (Some other) left comes = course-keeps
