-- That the spool is kept, over all starts.
use Rattle.std.proofs.Common.{◌≡◌, refl, sym, ap, subst, ◌∙◌, inl, inr, arith, ◌<◌, ◌≤◌, ◌+◌, ◌^◌, ◌&&◌, not, Bool}
use Rattle.std.proofs.Common.{true, false, ℕ, List, [], ◌∷◌, ◌++◌, length, Option, Some, None, if◌then◌else◌}
use Rattle.std.proofs.lemmas.List.Elements.{All-nil}
use Rattle.trace_log.specs.declared.commands.ToolCommand.{ToolCommand}
use Rattle.trace_log.specs.Log.{Happening}
use Rattle.message_end.specs.Core.{Went, at_first, step_in, EndView, noted}
use Rattle.transact.specs.Numbers.{numbers_from}
use Rattle.message_end.specs.Core.Went.{Goes, Spent}
use Rattle.message_end.specs.Course.{Course, Meeting, broken_at, course_of, filled_at, noted_behind, notes_of, went_on}
use Rattle.message_end.specs.Course.{with_meeting}
use Rattle.message_end.specs.Course.Course.{Reached, Stopped}
use Rattle.message_end.specs.Course.Meeting.{Acts, Breaks, Fills, LosesPower, Restarts, Writes}
use Rattle.message_end.specs.Ends.{Input, IsFront, Loss, call_of}
use Rattle.message_end.specs.Laws.{new_end}
use Rattle.message_end.specs.Own.{Has}
use Rattle.disk_base.specs.declared.cut.CutChoice.{CutChoice}
use Rattle.spool_law.specs.Shelf.{KeepsSpoolFrom, change_of, shelf_of}
use Rattle.spool_law.specs.Shelf.Change.{Other}
use Rattle.spool_ledger.specs.Ledger.{LedgerView, decided_count, new_ledger, next_of, stood_count}
use Rattle.spool_ledger.specs.Ledger.{Numbered}
use Rattle.spool_ledger.specs.Sizes.{AreSizedBy, all_sizes_after}
use Rattle.spool_file.specs.Run.{IsChainFrom}
use Rattle.std.specs.Prelude.{map, sum, sum_by}
use Rattle.spool_file.specs.File.{SpoolFile}
use Rattle.spool_file.specs.Format.{empty_file}
use Rattle.spool_file.specs.Slot.{Message as Put, width}
use Rattle.gem_spool.specs.Standing.{count_in}
use Rattle.gem_spool.specs.Works.{AreDue, AreSized, counts_after, lists_after, reserved as marked, standings_after}
use Rattle.gem_spool.specs.declared.count.Count.{Count}
use Rattle.gem_spool.specs.declared.works.Work.{Work}
use Rattle.equipment_tables.specs.declared.plan.EquipmentPlan.{EquipmentPlan}
use Rattle.equipment_tables.specs.Laws.{TablesAreLookedBackFor}
use Rattle.equipment_tables.specs.Plan.{EquipmentPlanFits}
use Rattle.tool_step.specs.End.{machine}
use Rattle.tool_step.specs.Equipment.{unstarted, EquipmentView, act, begun_step, is_marked_out, needs_numbers, new_own, restarts}
use Rattle.tool_step.specs.Equipment.{settled_list, setup_lines, started_on}
use Rattle.tool_step.specs.Setup.{setup_in}
use Rattle.spool_works.specs.Found.{first_in, found_in, spooled_of}
use Rattle.tool_step.specs.Disk.{owed_in, standing_in, works_behind, works_of as step_works}
use Rattle.spool_works.specs.DiskWorks.DiskWork.{Reserve}
use Rattle.tool_reports.specs.Histories.{commands_met, with_command}
use Rattle.tool_step.proofs.LossCalls.{AtEach, IsAtCall, at-call, losses-counted}
use Rattle.spool_works.proofs.LossCounts.{has-call}
use Rattle.tool_step.specs.Losses.{losses}
use Rattle.tool_law.proofs.Lawful.{IsGoodView, begun-stood, each-stop, stopped-front}
use Rattle.tool_spool.proofs.FromStarts.{KeepsOn, begins-course, kept-before, kept-empty, kept-from, left-in-steps}
use Rattle.tool_spool.proofs.FromStarts.{room-used, some-behind, some-kept}
use Rattle.tool_spool.proofs.UsedRoom.{fronts-used}
use Rattle.tool_spool.proofs.Interrupted.{FoundAt, IsFoundAt, StandsWell, WhereGoes, after-reserve, all-well}
use Rattle.tool_spool.proofs.Interrupted.{reserve-found, where-as, works-found}
use Rattle.tool_law.specs.Sound.{CanBeSent}
use Rattle.tool_spool.specs.InPairs.{AreInPairs, ArePairsOfStep, TellsWorks, WorksAreInPairs, changes_in}
use Rattle.tool_spool.specs.LeavesInStep.{LeaveInTheirSteps, MessagesLeaveInStep}
use Rattle.tool_spool.specs.MadeRoom.{IsRoomUsed, LeavesNoRoom, OverwritesForPuts, UsesRoom}
use Rattle.tool_spool.specs.SpoolKept.{MayHold, SpoolIsKept, SpoolIsKeptFrom, policy_of, used_in}
use Rattle.tool_step.specs.Step.{end_plan}
use Rattle.tool_step.specs.declared.kind.Kind.{Kind}
use Rattle.tool_step.proofs.StepFiles.{act-slots, act-version, begun-file, ended-file, works-same}
use Rattle.tool_reports.proofs.QuietReports.{Holds}
use Rattle.tool_reports.proofs.Reporting.{IsCourseSo as IsReported, course-so as course-reported}
use Rattle.tool_spool.proofs.ShelvedTurns.{Shelves}
use Rattle.message_end.proofs.Growing.{behind-both}
use Rattle.tool_law.proofs.WorkLines.{Walks, same-lines}
use Rattle.message_end.proofs.Parts.{OnEither}
use Rattle.spool_ledger.proofs.Widths.{sized-by, used-is, widths-long}
use Rattle.tool_spool.proofs.KeptSetups.{AreAside, over-note, setup-aside}
use Rattle.tool_spool.proofs.RestedShelves.{finds-all, rebased, started-shelves}
use Rattle.tool_spool.proofs.KeptStarts.{begun-both, IsBegunSo, begun-so, IsDone, IsKeptFile, step-both}
use Rattle.tool_spool.proofs.KeptStarts.{step-lines}
use Rattle.tool_spool.proofs.Chained.{first-chain, first-most}

module _ (plan : EquipmentPlan) (fits : EquipmentPlanFits plan) (looked : TablesAreLookedBackFor) (slots : ℕ) where
  -- ---- over all starts

  pub record IsSpoolSo (s : EquipmentView) (notes : List Happening) : Type 0 where
    pub shelves : Shelves plan slots s.file.list notes notes s.node.own s.node.core notes
    pub none : s.node.own.ledger.works ≡ []
    pub slots_are : s.file.slots ≡ slots
    pub version : s.file.version ≡ 2
    pub floor : s.file.floor.value ≤ 2 ^ 63 + 65535

  abbrev pub IsCourseKept : Course EquipmentView → Type 0
  IsCourseKept (Reached s notes) = IsSpoolSo s notes
  IsCourseKept (Stopped notes) = KeepsOn (policy_of plan slots) notes

  went-so :
      (start : List Happening) (said : List ToolCommand) (before : List Happening) (went : Went EquipmentView Happening)
      → OnEither ((IsDone plan fits looked start slots) said before) ((IsKeptFile plan fits looked start slots) before)
      went
      → (step_in went).next.file.slots ≡ slots → (step_in went).next.file.version ≡ 2
      → (step_in went).next.file.floor.value ≤ 2 ^ 63 + 65535 → IsCourseKept (went_on went before)
  went-so start said before (Goes step) at same version low = record {
    shelves =
        rebased plan slots step.next.file.list at.base before (noted_behind step.notes before)
        step.next.node.own step.next.node.core
        (noted_behind step.notes before) at.none at.both.1;
    none = at.none;
    slots_are = same;
    version = version;
    floor = low;
  }
  went-so start said before (Spent step) at same version low = at

  -- the list as the file has it
  file-list : (v : LedgerView) (list : List Put) → v.works ≡ [] → settled_list v list ≡ list
  file-list v list none = ap (λ (works : List Work). lists_after (stood_count v).next list works) none

  module _ (some : 0 < slots) (most : slots < 2 ^ 16) where
    noted-so :
        (s : EquipmentView) (notes : List Happening) (what : Happening) → change_of what ≡ Other → IsSpoolSo s notes
        → IsSpoolSo s (what ∷ notes)
    noted-so s notes what other so = record {
      shelves =
          rebased plan slots s.file.list (what ∷ notes) notes (what ∷ notes) s.node.own s.node.core (what ∷ notes)
          so.none (over-note plan slots s.file.list notes notes s.node.own s.node.core what notes other so.none
          so.shelves);
      none = so.none;
      slots_are = so.slots_are;
      version = so.version;
      floor = so.floor;
    }

    -- lines of a setup
    setup-so :
        (s : EquipmentView) (lines notes : List Happening) → AreAside lines → IsSpoolSo s notes
        → IsSpoolSo s (noted_behind lines notes)
    setup-so s [] notes are so = so
    setup-so s (what ∷ lines) notes are so =
        setup-so s lines (what ∷ notes) are.1 (noted-so s notes what are.0 so)

    started-so :
        (other : EquipmentPlan) (file : SpoolFile) (notes : List Happening) → other ≡ plan → file.slots ≡ slots
        → KeepsOn (policy_of plan slots) (Happening.EquipmentStarted (found_in file.list) file.mark.value ∷ notes)
        → IsChainFrom (first_in file) (first_in file + used_in file) file.list → used_in file ≤ slots
        → first_in file + used_in file ≤ 2 ^ 63 + 65535 → file.floor.value ≤ 2 ^ 63 + 65535
        → IsSpoolSo (started_on other file).next (noted_behind (started_on other file).notes notes)
    started-so other file notes same all kept chain room bound low =
        subst
        (λ (p : EquipmentPlan). IsSpoolSo (started_on p file).next (noted_behind (started_on p file).notes notes))
        (sym same)
        (setup-so (started_on plan file).next (setup_lines plan (setup_in file)) started
        (setup-aside plan (setup_in file)) (record {
          shelves =
              subst
              (λ (n : ℕ).
              Shelves plan slots file.list started started
              (new_own plan (setup_in file) (new_ledger n (first_in file) (map width file.list))) core started)
              (sym all)
              (started-shelves plan slots (setup_in file) file.list (first_in file) file.mark.value
              started notes some most kept chain room bound);
          none = refl;
          slots_are = all;
          version = refl;
          floor = low;
        }))
      where
        started : List Happening
        started = Happening.EquipmentStarted (found_in file.list) file.mark.value ∷ notes

        core : EndView Kind
        core = new_end (end_plan plan) (numbers_from file.mark.value 4096)

    -- ---- power is lost at a call of the disk

    module _ (start : List Happening) (said : List ToolCommand) (before : List Happening) (input : Input ToolCommand)
        (now : ℕ) (s : EquipmentView) (holds : Holds plan start said s.node.own s.node.core.drawn before)
        (good : IsGoodView plan fits s) (so : IsSpoolSo s before)
      where
        abbrev went : Went EquipmentView Happening
        went = begun_step s input now

        abbrev notes : List Happening
        notes = (step_in went).notes

        -- the ledger as the step begins, and at its works
        abbrev w : LedgerView
        w = s.node.own.ledger

        abbrev v : LedgerView
        v = (step_in went).next.node.own.ledger

        begun-is : (IsBegunSo plan fits looked start slots) before went
        begun-is =
            (begun-so plan fits looked start slots) (with_command input said) before went
            ((begun-both plan fits looked start slots) said before input now s holds so.shelves)

        same : settled_list w s.file.list ≡ s.file.list
        same = file-list w s.file.list so.none

        sizes : map width s.file.list ≡ w.sizes
        sizes = ap (map width) (sym same) ∙ so.shelves.shelved.sizes

        well : StandsWell slots (standing_in s)
        well = record {
          first = w.first;
          chain = subst (IsChainFrom w.first (next_of w)) same so.shelves.shelved.chain;
          room =
              let is = so.shelves.is.room in
              let all = so.shelves.all in
              let used = ap (λ (ns : List ℕ). sum ns) sizes in
              omega (arith, is, all, used);
          bound = so.shelves.is.bound;
          floor = so.floor;
          slots_are = so.slots_are;
        }

        stands : (shelf_of before).stands ≡ found_in s.file.list
        stands = so.shelves.shelved.stands ∙ ap found_in same

        stays : ((step_in went).next.file.list ≡ s.file.list) × (v.stood ≡ w.stood)
        stays = begun-stood plan fits s input now good

        -- the disk has what was decided before the step
        stood-is : stood_count w ≡ decided_count w
        stood-is =
            ap (λ (works : List Work). counts_after (stood_count w) works) (sym so.none) ∙ so.shelves.is.come_to

        next-is : v.stood.first + sum v.stood.sizes ≡ next_of w
        next-is =
            ap (λ (at : Numbered). at.first + sum at.sizes) stays.1 ∙ ap (λ (c : Count). c.next) stood-is

        stood-sizes : v.stood.sizes ≡ map width s.file.list
        stood-sizes =
            ap (λ (at : Numbered). at.sizes) stays.1
            ∙ ap (λ (works : List Work). all_sizes_after w.stood.sizes works) (sym so.none)
            ∙ so.shelves.is.leave
            ∙ sym sizes

        sized : AreSized (next_of w) s.file.list v.works
        sized =
            sized-by (next_of w) s.file.list v.works
            (subst (λ (ns : List ℕ). AreSizedBy ns v.works) stood-sizes begun-is.sized)

        abbrev counted : (version slots next len used : ℕ) → Count
        counted version all next len used =
            record { version = version; slots = all; next = next; len = len; used = used }

        due : AreDue (count_in (standing_in s)) v.works
        due =
            let long = ap (λ (ns : List ℕ). length ns) stood-sizes ∙ widths-long s.file.list in
            let used = ap (λ (ns : List ℕ). sum ns) stood-sizes ∙ sym (used-is s.file.list) in
            subst
            (λ (n : ℕ). AreDue (counted n s.file.slots (next_of w) (length s.file.list) (sum_by width s.file.list)) v.works)
            (sym so.version)
            (subst
            (λ (n : ℕ). AreDue (counted 2 n (next_of w) (length s.file.list) (sum_by width s.file.list)) v.works)
            (sym so.slots_are)
            (subst (λ (n : ℕ). AreDue (counted 2 slots (next_of w) (length s.file.list) n) v.works) used
            (subst (λ (n : ℕ). AreDue (counted 2 slots (next_of w) n (sum v.stood.sizes)) v.works) long
            (subst (λ (n : ℕ). AreDue (counted 2 slots n (length v.stood.sizes) (sum v.stood.sizes)) v.works) next-is
            begun-is.due))))

        -- the lines of the list, and those of a setup that is kept
        abbrev lines : List Happening
        lines = begun-is.lines.lines

        abbrev tail : List Happening
        tail = begun-is.lines.tail

        whole : notes ≡ lines ++ tail
        whole = same-lines notes (lines ++ tail) before begun-is.lines.noted

        walks : Walks (next_of w) s.file.list before v.works lines
        walks =
            subst (λ (list : List Put). Walks (next_of w) list before v.works lines) stays.0
            (subst (λ (n : ℕ). Walks n (step_in went).next.file.list before v.works lines) next-is
            begun-is.lines.walks)

        ended : WhereGoes slots before went
            ((shelf_of (noted_behind (lines ++ tail) before)).stands
            ≡ found_in (lists_after (next_of w) s.file.list v.works))
        ended =
            where-as slots before went _ _
            (λ is.
            ap (λ (ns : List Happening). (shelf_of (noted_behind ns before)).stands) (sym whole)
            ∙ is ∙ ap (λ (n : ℕ). found_in (lists_after n (step_in went).next.file.list v.works)) next-is
            ∙ ap (λ (list : List Put). found_in (lists_after (next_of w) list v.works)) stays.0)
            begun-is.stands

        -- all that is noted in a step up to its works keeps the law, and what is left at each call is what a start may
        -- find
        lost-so : KeepsOn (policy_of plan slots) (noted_behind notes before)
            × AtEach (FoundAt slots before) (standing_in s) [] (step_works s input now) notes
        lost-so = (
          begun-is.kept,
          subst (AtEach (FoundAt slots before) (standing_in s) [] (step_works s input now)) (sym whole)
              (go (needs_numbers s && not (is_marked_out s.file.mark.value))),
        )
          where
            go : (reserves : Bool)
                → AtEach (FoundAt slots before) (standing_in s) []
                ((if reserves then Reserve ∷ [] else []) ++ works_behind went) (lines ++ tail)
            go true =
                reserve-found slots before (standing_in s) (works_behind went) (lines ++ tail) stands well
                (works-found slots before v.works went (marked (standing_in s)) [] lines tail due sized
                (after-reserve slots (standing_in s) well) walks begun-is.lines.is_tail ended)
            go false =
                works-found slots before v.works went (standing_in s) [] lines tail due sized well walks
                begun-is.lines.is_tail ended

        -- the works leave the spool well, whether system bytes were reserved before them or not
        abbrev EndsWell : SpoolFile → Type 0
        EndsWell file = StandsWell slots (standings_after (record { next = next_of w; file = file }) v.works)

        floor-so : (step_in (act s input now)).next.file.floor.value ≤ 2 ^ 63 + 65535
        floor-so =
            subst (λ (n : ℕ). n ≤ 2 ^ 63 + 65535)
            (sym
            (ap (λ (file : SpoolFile). file.floor.value) (ended-file went now)
            ∙ works-same (λ (file : SpoolFile). file.floor.value) went (λ bytes other. refl)))
            (subst
            (λ (n : ℕ).
            (standings_after (record { next = n; file = (step_in went).next.file }) v.works).file.floor.value
            ≤ 2 ^ 63 + 65535)
            (sym next-is)
            (begun-file EndsWell s input now (all-well slots v.works (standing_in s) due sized well)
            (all-well slots v.works (marked (standing_in s)) due sized (after-reserve slots (standing_in s) well))).floor)

        -- the lines of a step up to its works tell of these: each work stands between its two lines
        told-so : AreInPairs (standing_in s).next s.file.list v.works (changes_in notes)
        told-so =
            subst (λ (list : List Put). AreInPairs (next_of w) list v.works (changes_in notes)) stays.0
            (subst (λ (n : ℕ). AreInPairs n (step_in went).next.file.list v.works (changes_in notes)) next-is
            begun-is.pairs)

        -- and so do the lines of all of it
        pairs-of-step : ArePairsOfStep s input now
        pairs-of-step = record {
          by_then = told-so;
          in_all =
              subst (AreInPairs (standing_in s).next s.file.list (owed_in (begun_step s input now)))
              (sym ((step-lines plan fits looked start slots) said before input now s holds so.shelves good)) told-so;
        }

    -- so do those at a call of the disk
    kept-at-call :
        (input : Input ToolCommand) (now : ℕ) (start : List Happening) (said : List ToolCommand) (s : EquipmentView)
        (notes : List Happening) (loss : Loss EquipmentView) → Has (losses s input now) loss
        → Holds plan start said s.node.own s.node.core.drawn notes → IsGoodView plan fits s → IsSpoolSo s notes
        → KeepsOn (policy_of plan slots) (noted_behind loss.front notes)
    kept-at-call input now start said s notes loss has holds good so =
        kept-before (policy_of plan slots) first.rest (noted_behind loss.front notes)
        (some-behind loss.front notes (some-kept (policy_of plan slots) notes so.shelves.shelved.kept))
        (subst (KeepsOn (policy_of plan slots))
        (ap (λ (ns : List Happening). noted_behind ns notes) first.whole ∙ behind-both loss.front first.rest notes)
        (lost-so start said notes input now s holds good so).0)
      where
        first : IsFront loss.front (step_in (begun_step s input now)).notes
        first = stopped-front s input now loss.front ((losses-counted s input now).1 loss has)

    -- no place is left there that was made for a put
    used-at-call :
        (input : Input ToolCommand) (now : ℕ) (start : List Happening) (said : List ToolCommand) (s : EquipmentView)
        (notes : List Happening) (loss : Loss EquipmentView) → Has (losses s input now) loss
        → Holds plan start said s.node.own s.node.core.drawn notes → IsGoodView plan fits s → IsSpoolSo s notes
        → IsRoomUsed (noted_behind loss.front notes)
    used-at-call input now start said s notes loss has holds good so =
        each-stop (λ ns. IsRoomUsed (noted_behind ns notes)) s input now
        (λ ns at.
        fronts-used notes (step_works s input now) [] (step_in (begun_step s input now)).notes ns
        so.shelves.shelved.closed begun at)
        begun loss.front
        ((losses-counted s input now).1 loss has)
      where
        begun : IsRoomUsed (noted_behind (step_in (begun_step s input now)).notes notes)
        begun =
            ((begun-so plan fits looked start slots) (with_command input said) notes (begun_step s input now)
            ((begun-both plan fits looked start slots) said notes input now s holds so.shelves)).closed

    filled-so :
        (input : Input ToolCommand) (now call : ℕ) (start : List Happening) (said : List ToolCommand)
        (s : EquipmentView) (notes : List Happening) (found : Option (Loss EquipmentView))
        → call_of call (losses s input now) ≡ found
        → Holds plan start said s.node.own s.node.core.drawn notes → IsGoodView plan fits s → IsSpoolSo s notes
        → IsCourseKept (filled_at s notes found)
    filled-so input now call start said s notes None is holds good so = so
    filled-so input now call start said s notes (Some loss) is holds good so =
        kept-at-call input now start said s notes loss (has-call call (losses s input now) loss is) holds good so

    broken-so :
        (input : Input ToolCommand) (now call : ℕ) (choice : CutChoice) (start : List Happening)
        (said : List ToolCommand) (s : EquipmentView) (notes : List Happening) (found : Option (Loss EquipmentView))
        → call_of call (losses s input now) ≡ found
        → Holds plan start said s.node.own s.node.core.drawn notes → IsGoodView plan fits s → IsSpoolSo s notes
        → IsCourseKept (broken_at machine now choice s notes found)
    broken-so input now call choice start said s notes None is holds good so = so
    broken-so input now call choice start said s notes (Some loss) is holds good so =
        subst
        (λ (left : EquipmentView).
        IsCourseKept (went_on (restarts left now) (Happening.Power ∷ noted_behind loss.front notes)))
        (ap (λ (one : Loss EquipmentView). one.left choice) (sym at.is)) (go (is_marked_out file.mark.value))
      where
        has : Has (losses s input now) loss
        has = has-call call (losses s input now) loss is

        lost : KeepsOn (policy_of plan slots) (noted_behind (step_in (begun_step s input now)).notes notes)
            × AtEach (FoundAt slots notes) (standing_in s) [] (step_works s input now)
            (step_in (begun_step s input now)).notes
        lost = lost-so start said notes input now s holds good so

        at : IsAtCall (FoundAt slots notes) s loss
        at =
            at-call (FoundAt slots notes) s (step_works s input now) (standing_in s) []
            (step_in (begun_step s input now)).notes loss lost.1 has

        file : SpoolFile
        file = at.left choice

        is-found : IsFoundAt slots (shelf_of (noted_behind loss.front notes)) file
        is-found = at.at choice

        kept : KeepsOn (policy_of plan slots) (noted_behind loss.front notes)
        kept = kept-at-call input now start said s notes loss has holds good so

        used : IsRoomUsed (noted_behind loss.front notes)
        used = used-at-call input now start said s notes loss has holds good so

        go : (spent : Bool)
            → IsCourseKept
            (went_on
            (if spent then Spent (at_first (unstarted s.node.own.plan file))
            else Goes (started_on s.node.own.plan file))
            (Happening.Power ∷ noted_behind loss.front notes))
        go true = inr (tt, inl used, tt, kept)
        go false =
            started-so s.node.own.plan file (Happening.Power ∷ noted_behind loss.front notes) holds.plan_is
            is-found.well.slots_are
            (inr (is-found.found, inl tt, tt, inr (tt, inl used, tt, kept)))
            (first-chain file.floor.value is-found.well.first is-found.well.next file.list is-found.well.chain)
            is-found.well.room
            (first-most file.floor.value is-found.well.first is-found.well.next (2 ^ 63 + 65535) file.list
            is-found.well.chain is-found.well.bound is-found.well.floor)
            is-found.well.floor

    meeting-so :
        (meeting : Meeting ToolCommand) (said : List ToolCommand) (course : Course EquipmentView)
        → IsReported plan fits looked said course → IsCourseKept course
        → IsCourseKept (with_meeting machine meeting course)
    meeting-so meeting said (Stopped notes) reported so = so
    meeting-so (Acts input now) said (Reached s notes) reported so =
        went-so reported.start (with_command input said) notes (act s input now)
        ((step-both plan fits looked reported.start slots) said notes input now s reported.holds so.shelves
        reported.good)
        (act-slots s input now ∙ so.slots_are) (act-version s input now ∙ so.version)
        (floor-so reported.start said notes input now s reported.holds reported.good so)
    meeting-so (Restarts now) said (Reached s notes) reported so = go (is_marked_out s.file.mark.value)
      where
        v : LedgerView
        v = s.node.own.ledger

        same : settled_list v s.file.list ≡ s.file.list
        same = file-list v s.file.list so.none

        sizes : map width s.file.list ≡ v.sizes
        sizes = ap (map width) (sym same) ∙ so.shelves.shelved.sizes

        chain : IsChainFrom v.first (next_of v) s.file.list
        chain = subst (IsChainFrom v.first (next_of v)) same so.shelves.shelved.chain

        room : used_in s.file ≤ slots
        room =
            let is = so.shelves.is.room in
            let all = so.shelves.all in
            let used = ap (λ (ns : List ℕ). sum ns) sizes in
            omega (arith, is, all, used)

        go : (spent : Bool)
            → IsCourseKept
            (went_on
            (if spent then
            Spent (at_first (unstarted s.node.own.plan s.file))
            else Goes (started_on s.node.own.plan s.file)) notes)
        go true = so.shelves.shelved.kept
        go false =
            started-so s.node.own.plan s.file notes reported.holds.plan_is so.slots_are
            (inr (
              finds-all plan slots notes s.file.list (so.shelves.shelved.stands ∙ ap found_in same),
              inl so.shelves.shelved.closed,
              tt,
              so.shelves.shelved.kept,
            ))
            (first-chain s.file.floor.value v.first (next_of v) s.file.list chain) room
            (first-most s.file.floor.value v.first (next_of v) (2 ^ 63 + 65535) s.file.list chain so.shelves.is.bound
            so.floor) so.floor
    meeting-so (Writes characters) said (Reached s notes) reported so =
        noted-so s notes (Happening.Wrote characters) refl so
    meeting-so LosesPower said (Reached s notes) reported so = noted-so s notes Happening.Power refl so
    meeting-so (Breaks input now call choice) said (Reached s notes) reported so =
        broken-so input now call choice reported.start said s notes (call_of call (losses s input now)) refl
        reported.holds reported.good so
    meeting-so (Fills input now call) said (Reached s notes) reported so =
        filled-so input now call reported.start said s notes (call_of call (losses s input now)) refl reported.holds
        reported.good so

    module _ (file : SpoolFile) (all : file.slots ≡ slots) (may : MayHold file) where
      pub course-kept : (meetings : List (Meeting ToolCommand))
          → IsCourseKept (course_of (started_on plan file) machine meetings)
      course-kept [] =
          started-so plan file [] refl all (inl (record { found = found_in file.list; is = refl; alone = refl }))
          may.chain (subst (λ (n : ℕ). used_in file ≤ n) all may.room) may.bound may.floor
      course-kept (meeting ∷ meetings) =
          meeting-so meeting (commands_met (started_on plan file) meetings)
          (course_of (started_on plan file) machine meetings)
          (course-reported plan fits looked file may.sent meetings) (course-kept meetings)

      pub pairs-so : (meetings : List (Meeting ToolCommand)) (input : Input ToolCommand) (now : ℕ)
          → TellsWorks (course_of (started_on plan file) machine meetings) input now
      pairs-so meetings input now =
          go (course_of (started_on plan file) machine meetings)
          (course-reported plan fits looked file may.sent meetings) (course-kept meetings)
        where
          said : List ToolCommand
          said = commands_met (started_on plan file) meetings

          go : (course : Course EquipmentView) → IsReported plan fits looked said course → IsCourseKept course
              → TellsWorks course input now
          go (Reached s notes) reported so =
              pairs-of-step reported.start said notes input now s reported.holds reported.good so
          go (Stopped notes) reported so = tt

      kept-on : (meetings : List (Meeting ToolCommand))
          → KeepsOn (policy_of plan slots) (notes_of (course_of (started_on plan file) machine meetings))
      kept-on meetings = go (course_of (started_on plan file) machine meetings) (course-kept meetings)
        where
          go : (course : Course EquipmentView) → IsCourseKept course
              → KeepsOn (policy_of plan slots) (notes_of course)
          go (Reached s notes) so = so.shelves.shelved.kept
          go (Stopped notes) so = so

      pub room-so : (meetings : List (Meeting ToolCommand))
          → UsesRoom (course_of (started_on plan file) machine meetings)
      room-so meetings = record {
        puts =
            room-used (policy_of plan slots) (notes_of (course_of (started_on plan file) machine meetings))
            (kept-on meetings);
        none = go (course_of (started_on plan file) machine meetings) (course-kept meetings);
      }
        where
          go : (course : Course EquipmentView) → IsCourseKept course → LeavesNoRoom course
          go (Reached s notes) so = so.shelves.shelved.closed
          go (Stopped notes) so = tt

      pub steps-so : (meetings : List (Meeting ToolCommand))
          → LeaveInTheirSteps (policy_of plan slots)
          (notes_of (course_of (started_on plan file) machine meetings))
      steps-so meetings =
          left-in-steps (policy_of plan slots)
          (notes_of (course_of (started_on plan file) machine meetings)) (kept-on meetings)

      pub kept-so : (meetings : List (Meeting ToolCommand))
          → KeepsSpoolFrom (policy_of plan slots) (found_in file.list)
          (notes_of (course_of (started_on plan file) machine meetings))
      kept-so meetings =
          kept-from (policy_of plan slots) (found_in file.list) file.mark.value
          (notes_of (course_of (started_on plan file) machine meetings))
          (begins-course machine (Happening.EquipmentStarted (found_in file.list) file.mark.value)
          (started_on plan file) (setup_lines plan (setup_in file)) refl meetings)
          (kept-on meetings)

-- whatever it meets, over whatever its file holds
pub spool-is-kept-from : TablesAreLookedBackFor → SpoolIsKeptFrom
spool-is-kept-from looked plan file fits some most may meetings =
    kept-so plan fits looked file.slots some most file refl may meetings

-- over an empty file
pub spool-is-kept : TablesAreLookedBackFor → SpoolIsKept
spool-is-kept looked plan slots fits some most meetings =
    kept-empty (policy_of plan slots) (notes_of (course_of (started_on plan (empty_file slots)) machine meetings))
    (spool-is-kept-from looked plan (empty_file slots) fits some most
    (record {
      chain = omega arith;
      room = omega arith;
      bound = omega arith;
      floor = omega arith;
      sent = All-nil (λ (m : Put). CanBeSent (spooled_of m));
    })
    meetings)

-- whatever it is given next
pub works-in-pairs : TablesAreLookedBackFor → WorksAreInPairs
works-in-pairs looked plan file fits some most may meetings input now =
    pairs-so plan fits looked file.slots some most file refl may meetings input now

-- whatever is overwritten
pub overwrites-for-puts : TablesAreLookedBackFor → OverwritesForPuts
overwrites-for-puts looked plan file fits some most may meetings =
    room-so plan fits looked file.slots some most file refl may meetings

-- whatever leaves
pub messages-leave-in-step : TablesAreLookedBackFor → MessagesLeaveInStep
messages-leave-in-step looked plan file fits some most may meetings =
    steps-so plan fits looked file.slots some most file refl may meetings
