-- That reports are of their events, over all starts.
use Rattle.std.proofs.lemmas.List.Elements.{All-nil}
use Rattle.std.specs.Prelude.{IfSome, map}
use Rattle.spool_file.specs.Slot.{width}
use Rattle.spool_ledger.specs.Ledger.{carried_out}
use Rattle.spool_file.specs.File.{SpoolFile}
use Rattle.tool_step.specs.Grants.{GrantView}
use Rattle.tool_step.specs.Live.{ReportView}
use Rattle.std.proofs.Common.{◌≡◌, refl, sym, ap, subst, ◌∙◌, ◌%◌, ◌==◌, arith, Bool, true, false, ℕ, List, [], ◌∷◌, ◌++◌, Option, Some, None, if◌then◌else◌}
use Rattle.disk_base.specs.declared.cut.CutChoice.{CutChoice}
use Rattle.trace_log.specs.declared.commands.ToolCommand.{ToolCommand}
use Rattle.trace_log.specs.Log.{Happening}
use Rattle.trace_log.specs.Names.{Spooled}
use Rattle.message_end.specs.Core.{IsText, Step, Went, and_then, at_first, step_in}
use Rattle.message_end.specs.Core.Went.{Goes, Spent}
use Rattle.message_end.specs.Course.{Course, Meeting, broken_at, course_of, filled_at, noted_behind, went_on, with_meeting}
use Rattle.message_end.specs.Course.Course.{Reached, Stopped}
use Rattle.message_end.specs.Course.Meeting.{Acts, Breaks, Fills, LosesPower, Restarts, Writes}
use Rattle.message_end.specs.Ends.{Input, IsFront, Loss, call_of}
use Rattle.message_end.specs.Own.{Has}
use Rattle.message_end.specs.Parts.{Node, after_parts}
use Rattle.equipment_tables.specs.declared.plan.EquipmentPlan.{EquipmentPlan}
use Rattle.equipment_tables.specs.Laws.{TablesAreLookedBackFor}
use Rattle.equipment_tables.specs.Plan.{EquipmentPlanFits}
use Rattle.equipment_tables.specs.Tables.{planned_tables}
use Rattle.setup_law.proofs.Notes.{Rests}
use Rattle.setup_store.specs.Entries.{Entry}
use Rattle.tool_step.specs.declared.kind.Kind.{Kind}
use Rattle.tool_step.specs.declared.owed.Owed.{Owed}
use Rattle.tool_step.specs.Own.{OwnView}
use Rattle.tool_step.specs.Disk.{standing_in, stops, works_of}
use Rattle.tool_reports.specs.Histories.{ReportsHold, commands_behind, commands_broken, commands_met, with_command}
use Rattle.tool_step.specs.End.{machine}
use Rattle.tool_step.specs.Equipment.{unstarted, EquipmentView, act, begun_step, done_step, ended_step, is_marked_out, needs_numbers, node_step, oldest_of, parts_done, reserved, restarts, settled, settled_own, settled_went, started_on, starts, went_with_file}
use Rattle.spool_works.specs.Found.{first_in, found_in}
use Rattle.spool_works.specs.DiskWorks.{fronts_of}
use Rattle.tool_law.proofs.Lawful.{IsGoodView, act-good, begun-good, each-stop, fronts-are, kept-view-good, oldest-good, settled-view-good}
use Rattle.tool_law.proofs.LawfulLosses.{LeavesWell, all-well}
use Rattle.tool_step.proofs.LossCalls.{IsAtCall, at-call, losses-counted}
use Rattle.spool_works.proofs.LossCounts.{has-call}
use Rattle.tool_step.specs.Losses.{losses}
use Rattle.tool_reports.specs.LookedBack.{HasSetSoFar, HasWhatWasKept, HasWhatWasSet, SetsInSteps}
use Rattle.tool_reports.specs.Reported.{Reported, count_of}
use Rattle.tool_law.specs.Sound.{AllCanBeSent, CanBeSent}
use Rattle.tool_law.proofs.SpoolSound.{new-good}
use Rattle.tool_step.specs.Setup.{carried_lines, found_list, set_up, setup_in}
use Rattle.tool_step.specs.Step.{first_parts, last_parts}
use Rattle.tool_reports.proofs.QuietReports.{Holds, count_of_reports, holds-as, setup-is}
use Rattle.tool_reports.proofs.FoundSetups.{IsCarrying, start-carried}
use Rattle.tool_reports.proofs.OwedReplies.{HoldsOwing, booked-owing, served-owing}
use Rattle.tool_reports.proofs.PlainTurns.{owing_none}
use Rattle.tool_reports.proofs.SetupStarts.{found-rests}
use Rattle.tool_reports.proofs.QuietNotes.{AreInPlace, AreSettled, IsQuietNote, one-behind, placed-more, quiet-note}
use Rattle.message_end.proofs.Parts.{OnEither}
use Rattle.message_end.proofs.Growing.{behind-both}
use Rattle.tool_reports.proofs.ReportedParts.{reported-before, front-due, front-left, NodeEnds, NodeOwes, first-keeps, last-keeps}

module _ (plan : EquipmentPlan) (fits : EquipmentPlanFits plan) (looked : TablesAreLookedBackFor) where
  module _ (start : List Happening) where
    -- ---- the whole step

    abbrev FileStep : Type 0
    FileStep = Step EquipmentView Happening

    abbrev HoldsFile : List ToolCommand → List Happening → FileStep → Type 0
    HoldsFile said before step =
        Holds plan start said step.next.node.own step.next.node.core.drawn (noted_behind step.notes before)

    abbrev FileIsRight : List Happening → FileStep → Type 0
    FileIsRight before step = AreSettled plan start (noted_behind step.notes before)

    abbrev OwesFile : List ToolCommand → List Happening → FileStep → Type 0
    OwesFile said before step =
        HoldsOwing plan start said step.next.node.own step.next.node.core (noted_behind step.notes before)

    abbrev FileOwes : List ToolCommand → List Happening → Went EquipmentView Happening → Type 0
    FileOwes said before went = OnEither (OwesFile said before) (FileIsRight before) went

    abbrev FileEnds : List ToolCommand → List Happening → Went EquipmentView Happening → Type 0
    FileEnds said before went = OnEither (HoldsFile said before) (FileIsRight before) went

    with-file :
        (said : List ToolCommand) (before : List Happening) (s : EquipmentView)
        (went : Went (Node OwnView Kind) Happening)
        → (NodeEnds plan fits looked start) said before went → FileEnds said before (went_with_file s went)
    with-file said before s (Goes step) at = at
    with-file said before s (Spent step) at = at

    owing-file :
        (said : List ToolCommand) (before : List Happening) (s : EquipmentView)
        (went : Went (Node OwnView Kind) Happening)
        → (NodeOwes plan fits looked start) said before went → FileOwes said before (went_with_file s went)
    owing-file said before s (Goes step) at = at
    owing-file said before s (Spent step) at = at

    settled-so :
        (said : List ToolCommand) (before : List Happening) (went : Went EquipmentView Happening)
        → FileOwes said before went → FileOwes said before (settled_went went)
    settled-so said before (Goes step) at =
        served-owing plan start said (settled_own step.next.node.own) step.next.recipes step.next.node.core
        (noted_behind step.notes before)
        (booked-owing plan start said step.next.node.own (carried_out step.next.node.own.ledger) step.next.node.core
        (noted_behind step.notes before) at)
    settled-so said before (Spent step) at = at

    pub odd-of : (oldest : Option Spooled) → IfSome oldest CanBeSent
        → IfSome oldest (λ message. (message.function % 2 == 1) ≡ true)
    odd-of None can = tt
    odd-of (Some message) can = can.odd

    -- all that is noted up to the works of the disk
    pub begun-keeps :
        (said : List ToolCommand) (before : List Happening) (input : Input ToolCommand) (now : ℕ) (s : EquipmentView)
        → Holds plan start said s.node.own s.node.core.drawn before
        → FileOwes (with_command input said) before (begun_step s input now)
    begun-keeps said before input now s holds = begun (needs_numbers s) (is_marked_out s.file.mark.value)
      where
        to : List ToolCommand
        to = with_command input said

        begun : (needs spent : Bool)
            → FileOwes to before
            (and_then
            (if needs then if spent then Spent (at_first s) else Goes (at_first (reserved s)) else Goes (at_first s))
            (parts_done (first_parts input now)))
        begun true true = holds.settled
        begun true false =
            owing-file to before (reserved s) (after_parts Some (first_parts input now) (at_first (reserved s).node))
            ((first-keeps plan fits looked start) said before input now (at_first (reserved s).node) holds)
        begun false spent =
            owing-file to before s (after_parts Some (first_parts input now) (at_first s.node))
            ((first-keeps plan fits looked start) said before input now (at_first s.node) holds)

    pub step-keeps :
        (said : List ToolCommand) (before : List Happening) (input : Input ToolCommand) (now : ℕ) (s : EquipmentView)
        → Holds plan start said s.node.own s.node.core.drawn before → IsGoodView plan fits s
        → FileEnds (with_command input said) before (act s input now)
    step-keeps said before input now s holds good =
        ends (begun_step s input now) (begun-keeps said before input now s holds)
        (begun-good plan fits s input now good)
      where
        to : List ToolCommand
        to = with_command input said

        ends : (went : Went EquipmentView Happening) → FileOwes to before went
            → IsGoodView plan fits (step_in went).next
            → FileEnds to before (and_then (settled_went went) (ended_step now))
        ends (Spent step) at so = at
        ends (Goes step) at so =
            with-file to before (done_step step).next
            (after_parts Some (last_parts (oldest_of (done_step step).next) now) (node_step (done_step step)))
            ((last-keeps plan fits looked start) to before (oldest_of (done_step step).next)
            (odd-of (oldest_of (done_step step).next)
            (oldest-good plan fits (done_step step).next.file.list
            (kept-view-good plan fits (settled step.next) (settled-view-good plan fits step.next so)).list)) now
            (node_step (done_step step)) (settled-so to before (Goes step) at))

    -- ---- up to a call of the disk

    settled-of : (said : List ToolCommand) (before : List Happening) (went : Went EquipmentView Happening)
        → FileOwes said before went → AreSettled plan start (noted_behind (step_in went).notes before)
    settled-of said before (Goes step) at = at.holds.settled
    settled-of said before (Spent step) at = at

    -- what is noted at a loss is settled
    front-so :
        (said : List ToolCommand) (before : List Happening) (input : Input ToolCommand) (now : ℕ) (s : EquipmentView)
        (front : List Happening) → Holds plan start said s.node.own s.node.core.drawn before
        → Has (stops s input now) front
        → AreInPlace plan (noted_behind front before)
    front-so said before input now s front holds has =
        each-stop (λ ns. AreInPlace plan (noted_behind ns before)) s input now at-work all front has
      where
        notes : List Happening
        notes = (step_in (begun_step s input now)).notes

        all : AreInPlace plan (noted_behind notes before)
        all =
            (settled-of (with_command input said) before (begun_step s input now)
            (begun-keeps said before input now s holds)).placed

        at-work : (ns : List Happening) → Has (fronts_of [] (works_of s input now) notes) ns
            → AreInPlace plan (noted_behind ns before)
        at-work ns at =
            let first : IsFront ns notes = fronts-are (works_of s input now) [] notes ns at in
            record {
              reported =
                  reported-before plan first.rest (noted_behind ns before)
                  (subst (Reported plan)
                  (ap (λ (all : List Happening). noted_behind all before) first.whole
                  ∙ behind-both ns first.rest before)
                  all.reported);
              none_due =
                  front-due plan before (works_of s input now) [] notes ns holds.settled.placed.none_due all.none_due
                  at;
              none_left =
                  front-left before (works_of s input now) [] notes ns holds.settled.placed.none_left all.none_left at;
            }

  -- ---- over all starts

  -- the notes up to what a start has found; and what it notes behind that
  abbrev pub found_behind : SpoolFile → List Happening → List Happening
  found_behind file notes =
      Happening.Setup (setup_in file) ∷ Happening.EquipmentStarted (found_in file.list) file.mark.value ∷ notes

  abbrev carried_behind : EquipmentPlan → SpoolFile → List Happening
  carried_behind other file =
      carried_lines (planned_tables other) (found_list (setup_in file)) ++ Happening.StepEnded ∷ []

  pub starts-so :
      (other : EquipmentPlan) (file : SpoolFile) (notes : List Happening) → other ≡ plan → AreInPlace plan notes
      → Holds plan (found_behind file notes) [] (started_on other file).next.node.own None
      (noted_behind (started_on other file).notes notes)
  starts-so other file notes same so =
      subst
      (λ (p : EquipmentPlan).
      Holds plan (found_behind file notes) [] (started_on p file).next.node.own None
      (noted_behind (started_on p file).notes notes))
      (sym same)
      (record {
        plan_is = refl;
        kept_is = λ held. ap owing_none (sym (carried.kept held));
        tables_are = sym carried.tables_are;
        events_are = sym carried.next;
        commanded = carried.commands;
        waits = λ body.
            let none : count_of_reports body noted ≡ 0 =
            ap (λ (sent : List (List ℕ)). count_of body sent) carried.reports in
            omega (arith, none);
        live = λ one has is. absurd has;
        tried = λ number is. absurd (cc);
        settled = record {
          placed = record {
            reported = carried.reported;
            none_due = carried.none_due;
            none_left = carried.to_do;
          };
          rests = λ held keeps.
              subst (λ (list : Option (List Entry)). Rests plan held list noted) (sym (carried.kept held))
              ((found-rests plan fits looked held) (setup_in file) (found_in file.list) file.mark.value notes keeps);
        };
      })
    where
      noted : List Happening
      noted = noted_behind (started_on plan file).notes notes

      carried : (IsCarrying plan fits looked) (setup_in file) []
          (set_up (planned_tables plan) (found_list (setup_in file))) noted
      carried =
          (start-carried plan fits looked) (setup_in file) (found_in file.list) file.mark.value notes so

  -- since a start, behind what this has found
  pub record IsReachedSo (said : List ToolCommand) (s : EquipmentView) (notes : List Happening) : Type 0 where
    pub start : List Happening
    pub since : List Happening
    pub from : notes ≡ noted_behind since start
    pub holds : Holds plan start said s.node.own s.node.core.drawn notes
    pub good : IsGoodView plan fits s

  abbrev pub IsCourseSo : List ToolCommand → Course EquipmentView → Type 0
  IsCourseSo said (Reached s notes) = IsReachedSo said s notes
  IsCourseSo said (Stopped notes) = AreInPlace plan notes

  went-so :
      (start since : List Happening) (said : List ToolCommand) (before : List Happening)
      (went : Went EquipmentView Happening) → before ≡ noted_behind since start
      → FileEnds start said before went → IsGoodView plan fits (step_in went).next
      → IsCourseSo said (went_on went before)
  went-so start since said before (Goes step) from at good = record {
    start = start;
    since = since ++ step.notes;
    from = ap (noted_behind step.notes) from ∙ sym (behind-both since step.notes start);
    holds = at;
    good = good;
  }
  went-so start since said before (Spent step) from at good = at.placed

  started-so :
      (other : EquipmentPlan) (file : SpoolFile) (notes : List Happening) → other ≡ plan → AllCanBeSent file.list
      → AreInPlace plan notes → IsCourseSo [] (went_on (starts other file) notes)
  started-so other file notes same can so = go (is_marked_out file.mark.value)
    where
      go : (spent : Bool)
          → IsCourseSo []
          (went_on
          (if spent then Spent (at_first (unstarted other file))
          else Goes (started_on other file)) notes)
      go true = so
      go false = record {
        start = found_behind file notes;
        since = carried_behind other file;
        from = refl;
        holds = starts-so other file notes same so;
        good = record {
          own = record {
            plan_is = same;
            texts = All-nil (λ (one : GrantView). IsText one.body);
            traced = All-nil (λ (one : GrantView). IsText one.body);
            reports = All-nil (λ (one : ReportView). CanBeSent one.message);
            ledger = new-good file.slots (first_in file) (map width file.list);
          };
          list = can;
        };
      }

  -- power is lost at a call of the disk
  broken-keeps :
      (input : Input ToolCommand) (now call : ℕ) (choice : CutChoice) (said : List ToolCommand) (s : EquipmentView)
      (notes : List Happening) (found : Option (Loss EquipmentView)) → call_of call (losses s input now) ≡ found
      → IsReachedSo said s notes
      → IsCourseSo (commands_broken found said) (broken_at machine now choice s notes found)
  broken-keeps input now call choice said s notes None is so = so
  broken-keeps input now call choice said s notes (Some loss) is so =
      subst
      (λ (left : EquipmentView).
      IsCourseSo [] (went_on (restarts left now) (Happening.Power ∷ noted_behind loss.front notes)))
      (ap (λ (one : Loss EquipmentView). one.left choice) (sym at.is))
      (started-so s.node.own.plan (at.left choice)
      (Happening.Power ∷ noted_behind loss.front notes) so.holds.plan_is (at.at choice).can
      (placed-more plan Happening.Power (noted_behind loss.front notes) tt refl tt refl
      (front-so so.start said notes input now s loss.front so.holds ((losses-counted s input now).1 loss has))))
    where
      has : Has (losses s input now) loss
      has = has-call call (losses s input now) loss is

      at : IsAtCall (LeavesWell s.file (step_in (act s input now)).next.file.mark.value) s loss
      at =
          at-call (LeavesWell s.file (step_in (act s input now)).next.file.mark.value) s
          (works_of s input now) (standing_in s) [] (step_in (begun_step s input now)).notes loss
          (all-well plan fits s input now so.good) has

  -- there is no room for one
  filled-keeps :
      (input : Input ToolCommand) (now call : ℕ) (said : List ToolCommand) (s : EquipmentView) (notes : List Happening)
      (found : Option (Loss EquipmentView)) → call_of call (losses s input now) ≡ found → IsReachedSo said s notes
      → IsCourseSo said (filled_at s notes found)
  filled-keeps input now call said s notes None is so = so
  filled-keeps input now call said s notes (Some loss) is so =
      front-so so.start said notes input now s loss.front so.holds
      ((losses-counted s input now).1 loss (has-call call (losses s input now) loss is))

  -- a note of which nothing is said
  noted-more :
      (what : Happening) → IsQuietNote what → (said : List ToolCommand) (s : EquipmentView) (notes : List Happening)
      → IsReachedSo said s notes → IsReachedSo said s (what ∷ notes)
  noted-more what quiet said s notes so = record {
    start = so.start;
    since = so.since ++ what ∷ [];
    from = ap (λ (ns : List Happening). what ∷ ns) so.from ∙ sym (one-behind so.since what so.start);
    holds = holds-as plan so.start said s.node.own notes (what ∷ notes) so.holds (quiet-note what quiet notes);
    good = so.good;
  }

  meeting-keeps :
      (meeting : Meeting ToolCommand) (said : List ToolCommand) (course : Course EquipmentView)
      → IsCourseSo said course
      → IsCourseSo (commands_behind meeting course said) (with_meeting machine meeting course)
  meeting-keeps meeting said (Stopped notes) so = so
  meeting-keeps (Acts input now) said (Reached s notes) so =
      went-so so.start so.since (with_command input said) notes (act s input now) so.from
      (step-keeps so.start said notes input now s so.holds so.good)
      (act-good plan fits s input now so.good)
  meeting-keeps (Restarts now) said (Reached s notes) so =
      started-so s.node.own.plan s.file notes so.holds.plan_is so.good.list so.holds.settled.placed
  meeting-keeps (Writes characters) said (Reached s notes) so =
      noted-more (Happening.Wrote characters) tt said s notes so
  meeting-keeps LosesPower said (Reached s notes) so = noted-more Happening.Power tt said s notes so
  meeting-keeps (Breaks input now call choice) said (Reached s notes) so =
      broken-keeps input now call choice said s notes (call_of call (losses s input now)) refl so
  meeting-keeps (Fills input now call) said (Reached s notes) so =
      filled-keeps input now call said s notes (call_of call (losses s input now)) refl so

  pub course-so :
      (file : SpoolFile) → AllCanBeSent file.list → (meetings : List (Meeting ToolCommand))
      → IsCourseSo (commands_met (started_on plan file) meetings)
      (course_of (started_on plan file) machine meetings)
  course-so file can [] = record {
    start = found_behind file [];
    since = carried_behind plan file;
    from = refl;
    holds = starts-so plan file [] refl (record { reported = tt; none_due = refl; none_left = refl });
    good = record {
      own = record {
        plan_is = refl;
        texts = All-nil (λ (one : GrantView). IsText one.body);
        traced = All-nil (λ (one : GrantView). IsText one.body);
        reports = All-nil (λ (one : ReportView). CanBeSent one.message);
        ledger = new-good file.slots (first_in file) (map width file.list);
      };
      list = can;
    };
  }
  course-so file can (meeting ∷ meetings) =
      meeting-keeps meeting (commands_met (started_on plan file) meetings)
      (course_of (started_on plan file) machine meetings) (course-so file can meetings)

  pub reports-so :
      (file : SpoolFile) → AllCanBeSent file.list → (meetings : List (Meeting ToolCommand))
      → ReportsHold plan (course_of (started_on plan file) machine meetings)
      (commands_met (started_on plan file) meetings)
  reports-so file can meetings =
      go (course_of (started_on plan file) machine meetings) (course-so file can meetings)
    where
      said : List ToolCommand
      said = commands_met (started_on plan file) meetings

      go : (course : Course EquipmentView) → IsCourseSo said course → ReportsHold plan course said
      go (Reached s notes) so = record {
        reported = so.holds.settled.placed.reported;
        counted = so.holds.commanded;
        done = so.holds.settled.placed.none_due;
      }
      go (Stopped notes) so = record { reported = so.reported; counted = tt; done = so.none_due }

  pub tables-so :
      (file : SpoolFile) → AllCanBeSent file.list → (meetings : List (Meeting ToolCommand))
      → HasWhatWasSet plan (course_of (started_on plan file) machine meetings)
  tables-so file can meetings =
      go (course_of (started_on plan file) machine meetings) (course-so file can meetings)
    where
      go : (course : Course EquipmentView) → IsCourseSo (commands_met (started_on plan file) meetings) course
          → HasWhatWasSet plan course
      go (Reached s notes) so = so.holds.tables_are
      go (Stopped notes) so = tt

  -- and the setup
  pub setup-so :
      (file : SpoolFile) → AllCanBeSent file.list → (meetings : List (Meeting ToolCommand))
      → HasWhatWasKept (setup_in file) (course_of (started_on plan file) machine meetings)
  setup-so file can meetings =
      go (course_of (started_on plan file) machine meetings) (course-so file can meetings)
    where
      go : (course : Course EquipmentView) → IsCourseSo (commands_met (started_on plan file) meetings) course
          → HasWhatWasKept (setup_in file) course
      go (Reached s notes) so = (
        setup-is s.node.own notes so.holds (setup_in file),
        ap (λ (kept : Option Owed × Option (List Entry)). kept.0) (so.holds.kept_is None),
      )
      go (Stopped notes) so = tt

  -- also within a step
  pub steps-so :
      (file : SpoolFile) → AllCanBeSent file.list → (meetings : List (Meeting ToolCommand))
      → SetsInSteps plan (course_of (started_on plan file) machine meetings)
  steps-so file can meetings =
      go (course_of (started_on plan file) machine meetings) (course-so file can meetings)
    where
      said : List ToolCommand
      said = commands_met (started_on plan file) meetings

      so-far : (start : List Happening) (all : List ToolCommand) (notes : List Happening)
          (went : Went EquipmentView Happening)
          → FileOwes start all notes went → HasSetSoFar plan notes went
      so-far start all notes (Goes step) at = at.holds.tables_are
      so-far start all notes (Spent step) at = tt

      go : (course : Course EquipmentView) → IsCourseSo said course → SetsInSteps plan course
      go (Reached s notes) so = λ input now.
          so-far so.start (with_command input said) notes (begun_step s input now)
          (begun-keeps so.start said notes input now s so.holds)
      go (Stopped notes) so = tt
