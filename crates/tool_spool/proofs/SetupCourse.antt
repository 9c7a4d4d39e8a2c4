-- That the setup is kept, over all starts.
use Rattle.std.proofs.Common.{◌≡◌, refl, sym, ap, subst, ◌∙◌, inl, inr, ◌<◌, ◌^◌, ◌&&◌, not, Bool, true, false, ℕ, List, [], ◌∷◌, ◌++◌, Option, Some, None, if◌then◌else◌}
use Rattle.std.specs.Option.{option_map, option_map_or}
use Rattle.disk_base.specs.declared.cut.CutChoice.{CutChoice}
use Rattle.gem_spool.specs.Standing.{Standing}
use Rattle.gem_spool.specs.Works.{reserved as marked, standing_after, standings_after}
use Rattle.gem_spool.specs.declared.works.Work.{Work}
use Rattle.setup_law.proofs.Notes.{MayStart, Rests, other-rests}
use Rattle.setup_law.specs.Setup.{IsFoundOf, KeepsSetup, change_of, due_in, keeping_in, list_in, with_kept as behind_kept}
use Rattle.setup_law.specs.Setup.Change.{Other}
use Rattle.setup_store.specs.Copies.{with_kept}
use Rattle.setup_store.specs.Entries.{Entry, bytes_of}
use Rattle.setup_store.specs.Laws.{ListsAreReadAsSpelled}
use Rattle.spool_file.specs.File.{SpoolFile}
use Rattle.spool_file.specs.Setup.{Setup}
use Rattle.spool_ledger.specs.Ledger.{stood_count}
use Rattle.spool_works.specs.DiskWorks.DiskWork.{Keep, Reserve}
use Rattle.spool_works.specs.Found.{found_in}
use Rattle.spool_works.proofs.LossCounts.{has-call}
use Rattle.trace_log.specs.Log.{Happening}
use Rattle.trace_log.specs.declared.commands.ToolCommand.{ToolCommand}
use Rattle.message_end.specs.Core.{Step, Went, and_then, at_first, step_in}
use Rattle.message_end.specs.Core.Went.{Goes, Spent}
use Rattle.message_end.specs.Course.{Course, Meeting, broken_at, course_of, filled_at, noted_behind, went_on, with_meeting}
use Rattle.message_end.specs.Course.Course.{Reached, Stopped}
use Rattle.message_end.specs.Course.Meeting.{Acts, Breaks, Fills, LosesPower, Restarts, Writes}
use Rattle.message_end.specs.Ends.{Input, IsFront, Loss, call_of}
use Rattle.message_end.specs.Own.{Has}
use Rattle.message_end.proofs.Growing.{behind-both}
use Rattle.message_end.proofs.Parts.{OnEither}
use Rattle.equipment_tables.specs.declared.plan.EquipmentPlan.{EquipmentPlan}
use Rattle.equipment_tables.specs.Laws.{TablesAreLookedBackFor}
use Rattle.equipment_tables.specs.Plan.{EquipmentPlanFits}
use Rattle.tool_step.specs.Disk.{standing_in, works_behind, works_of}
use Rattle.tool_step.specs.End.{machine}
use Rattle.tool_step.specs.Equipment.{EquipmentView, act, begun_step, done_step, ended_step, is_marked_out, needs_numbers, restarts, settled, settled_file, settled_went, started_on, starts, unstarted}
use Rattle.tool_step.specs.Losses.{losses}
use Rattle.tool_step.specs.Own.{OwnView}
use Rattle.tool_step.specs.Setup.{list_of, setup_in, to_keep}
use Rattle.tool_step.proofs.LossCalls.{AtEach, IsAtCall, at-call, losses-counted}
use Rattle.tool_step.proofs.StepFiles.{begun-file, ended-file}
use Rattle.tool_law.proofs.Lawful.{IsGoodView, begun-good, stopped-front}
use Rattle.tool_law.proofs.WorkLines.{same-lines}
use Rattle.tool_reports.specs.Histories.{commands_met, with_command}
use Rattle.tool_reports.proofs.OwedReplies.{HoldsOwing}
use Rattle.tool_reports.proofs.QuietNotes.{AreSettled}
use Rattle.tool_reports.proofs.QuietReports.{Holds, setup-is}
use Rattle.tool_reports.proofs.Reporting.{IsCourseSo as IsReported, IsReachedSo, begun-keeps, course-so as course-reported, step-keeps}
use Rattle.tool_reports.proofs.SetupStarts.{found-rests, start-keeps}
use Rattle.tool_spool.specs.SetupKept.{IsSetupKept, SetupIsKept}
use Rattle.tool_spool.specs.SpoolKept.{MayHold}
use Rattle.tool_spool.proofs.Interrupted.{IsTail}
use Rattle.tool_spool.proofs.KeptSpool.{IsCourseKept, IsSpoolSo, course-kept}
use Rattle.tool_spool.proofs.KeptStarts.{AreLinesThen, EndsStill, IsBothOwing, IsRightFile, begun-both, begun-so, ends-still}
use Rattle.tool_spool.proofs.SetupFiles.{kept-in, kinds-in, kinds-with}
use Rattle.tool_spool.proofs.SetupLosses.{GoesToRest, LeftAt, MayLeave, cuts-of, kept-front, reserve-leaves, works-leave}
use Rattle.tool_spool.proofs.StillLines.{list-stays}

-- ---- the file

-- the works of the spool leave it
works-setup : (works : List Work) (st : Standing) → (standings_after st works).file.setup ≡ st.file.setup
works-setup [] st = refl
works-setup (one ∷ works) st = works-setup works (standing_after st one)

-- what is kept in a step is what is to be kept
none-to-keep : (bytes : Option (List ℕ)) → option_map_or (λ (all : List ℕ). Keep all ∷ []) bytes [] ≡ [] → bytes ≡ None
none-to-keep None is = refl
none-to-keep (Some bytes) is = absurd (cc)

some-to-keep : (bytes : Option (List ℕ)) (all : List ℕ)
    → option_map_or (λ (all : List ℕ). Keep all ∷ []) bytes [] ≡ Keep all ∷ [] → bytes ≡ Some all
some-to-keep None all is = absurd (cc)
some-to-keep (Some bytes) all is = ap Some (same is)
  where
    same : Keep bytes ∷ [] ≡ Keep all ∷ [] → bytes ≡ all
    same e = cc

module _ (plan : EquipmentPlan) (fits : EquipmentPlanFits plan) (looked : TablesAreLookedBackFor)
    (lists : ListsAreReadAsSpelled) (slots : ℕ) (some : 0 < slots) (most : slots < 2 ^ 16) (held : Option (List Entry))
  where
    abbrev Kept : List Happening → Type 0
    Kept notes = KeepsSetup plan held notes

    -- the notes keep the law, and the file tells the setup that is kept
    record IsSetSo (s : EquipmentView) (notes : List Happening) : Type 0 where
      keeps : Kept notes
      file_is : setup_in s.file ≡ s.node.own.setup

    abbrev IsCourseSet : Course EquipmentView → Type 0
    IsCourseSet (Reached s notes) = IsSetSo s notes
    IsCourseSet (Stopped notes) = Kept notes

    -- ---- starts

    started-so :
        (other : EquipmentPlan) (file : SpoolFile) (notes : List Happening) → other ≡ plan
        → MayStart plan held (due_in plan held notes) → Kept notes
        → IsFoundOf (list_in held notes) (keeping_in notes) (setup_in file)
        → IsSetSo (started_on other file).next (noted_behind (started_on other file).notes notes)
    started-so other file notes same may keeps is =
        subst
        (λ (p : EquipmentPlan). IsSetSo (started_on p file).next (noted_behind (started_on p file).notes notes))
        (sym same)
        (record {
          keeps =
              ((found-rests plan fits looked held) (setup_in file) (found_in file.list) file.mark.value notes
              ((start-keeps plan fits looked held) (setup_in file) (found_in file.list) file.mark.value notes may keeps
              is)).keeps;
          file_is = refl;
        })

    starts-so :
        (other : EquipmentPlan) (file : SpoolFile) (notes : List Happening) → other ≡ plan
        → MayStart plan held (due_in plan held notes) → Kept notes
        → IsFoundOf (list_in held notes) (keeping_in notes) (setup_in file)
        → IsCourseSet (went_on (starts other file) notes)
    starts-so other file notes same may keeps is = go (is_marked_out file.mark.value)
      where
        go : (spent : Bool)
            → IsCourseSet
            (went_on (if spent then Spent (at_first (unstarted other file)) else Goes (started_on other file)) notes)
        go true = keeps
        go false = started-so other file notes same may keeps is

    -- ---- a step

    module _ (said : List ToolCommand) (s : EquipmentView) (notes : List Happening)
        (reported : IsReachedSo plan fits looked said s notes) (spool : IsSpoolSo plan fits looked slots s notes)
        (so : IsSetSo s notes) where
      start-kept : Kept reported.start
      start-kept = kept-front plan held reported.since reported.start (subst Kept reported.from so.keeps)

      -- the law holds, with the setup that the equipment keeps
      own-rests :
          {from : List Happening} {to : List ToolCommand} {drawn : Option ℕ} (own : OwnView) (at : List Happening)
          → Kept from → Holds plan from to own drawn at → Rests plan held own.setup at
      own-rests own at from holds =
          subst (λ (list : Option (List Entry)). Rests plan held list at) (sym (setup-is own at holds held))
          (holds.settled.rests held from)

      rests : Rests plan held s.node.own.setup notes
      rests = own-rests s.node.own notes start-kept reported.holds

      noted-so : (what : Happening) → change_of what ≡ Other → IsSetSo s (what ∷ notes)
      noted-so what other = record {
        keeps = (other-rests plan held s.node.own.setup what notes other rests).keeps;
        file_is = so.file_is;
      }

      restarts-so : (now : ℕ) → IsCourseSet (went_on (restarts s now) notes)
      restarts-so now =
          starts-so s.node.own.plan s.file notes reported.holds.plan_is
          (subst (MayStart plan held) (sym rests.due_is) tt) so.keeps
          (record { counted = false; is = so.file_is ∙ sym rests.list_is })

      module _ (input : Input ToolCommand) (now : ℕ) where
        abbrev to : List ToolCommand
        to = with_command input said

        abbrev begun : Went EquipmentView Happening
        begun = begun_step s input now

        abbrev first : List Happening
        first = (step_in begun).notes

        both : OnEither (IsBothOwing plan fits looked reported.start slots to notes notes)
            (IsRightFile plan fits looked reported.start slots notes notes) begun
        both = begun-both plan fits looked reported.start slots said notes input now s reported.holds spool.shelves

        lines : AreLinesThen plan fits looked reported.start slots notes begun
        lines = (begun-so plan fits looked reported.start slots to notes begun both).lines

        -- where its works begin, it rests
        begun-kept : Kept (noted_behind first notes) × GoesToRest plan held slots notes begun (noted_behind first notes)
        begun-kept =
            go begun (begun-keeps plan fits looked reported.start said notes input now s reported.holds)
          where
            go : (went : Went EquipmentView Happening)
                → OnEither
                (λ (step : Step EquipmentView Happening).
                HoldsOwing plan reported.start to step.next.node.own step.next.node.core
                (noted_behind step.notes notes))
                (λ (step : Step EquipmentView Happening).
                AreSettled plan reported.start (noted_behind step.notes notes)) went
                → Kept (noted_behind (step_in went).notes notes)
                × GoesToRest plan held slots notes went (noted_behind (step_in went).notes notes)
            go (Goes step) at =
                let resting = own-rests _ (noted_behind step.notes notes) start-kept at.holds in
                (resting.keeps, resting)
            go (Spent step) at = ((at.rests held start-kept).keeps, tt)

        -- ---- up to a call of the disk

        whole : first ≡ lines.lines ++ lines.tail
        whole = same-lines first (lines.lines ++ lines.tail) notes lines.noted

        each-left : AtEach (LeftAt plan held slots notes) (standing_in s) [] (works_of s input now) first
        each-left =
            subst (AtEach (LeftAt plan held slots notes) (standing_in s) [] (works_of s input now)) (sym whole)
            (go (needs_numbers s && not (is_marked_out s.file.mark.value)))
          where
            works : (st : Standing) → setup_in st.file ≡ s.node.own.setup
                → AtEach (LeftAt plan held slots notes) st [] (works_behind begun) (lines.lines ++ lines.tail)
            works st is =
                works-leave plan held slots notes lists s.node.own.setup (step_in begun).next.node.own.ledger.works begun
                st [] lines.lines lines.tail
                (cuts-of (step_in begun).next.node.own.ledger.works
                (stood_count (step_in begun).next.node.own.ledger).next (step_in begun).next.file.list notes lines.lines
                lines.walks)
                lines.still lines.is_tail rests.list_is rests.keeping_is
                (subst (λ (ns : List Happening). Kept (noted_behind ns notes)) whole begun-kept.0)
                (subst (λ (ns : List Happening). GoesToRest plan held slots notes begun (noted_behind ns notes)) whole
                begun-kept.1)
                is

            go : (reserves : Bool)
                → AtEach (LeftAt plan held slots notes) (standing_in s) []
                ((if reserves then Reserve ∷ [] else []) ++ works_behind begun) (lines.lines ++ lines.tail)
            go true =
                reserve-leaves plan held slots notes s.node.own.setup (standing_in s) (works_behind begun)
                (lines.lines ++ lines.tail) rests so.file_is (works (marked (standing_in s)) so.file_is)
            go false = works (standing_in s) so.file_is

        front-kept : (loss : Loss EquipmentView) → Has (losses s input now) loss → Kept (noted_behind loss.front notes)
        front-kept loss has =
            kept-front plan held front.rest (noted_behind loss.front notes)
            (subst Kept
            (ap (λ (ns : List Happening). noted_behind ns notes) front.whole
            ∙ behind-both loss.front front.rest notes) begun-kept.0)
          where
            front : IsFront loss.front first
            front = stopped-front s input now loss.front ((losses-counted s input now).1 loss has)

        filled-so : (found : Option (Loss EquipmentView)) (call : ℕ) → call_of call (losses s input now) ≡ found
            → IsCourseSet (filled_at s notes found)
        filled-so None call is = so
        filled-so (Some loss) call is = front-kept loss (has-call call (losses s input now) loss is)

        broken-so :
            (choice : CutChoice) (found : Option (Loss EquipmentView)) (call : ℕ)
            → call_of call (losses s input now) ≡ found → IsCourseSet (broken_at machine now choice s notes found)
        broken-so choice None call is = so
        broken-so choice (Some loss) call is =
            subst
            (λ (left : EquipmentView).
            IsCourseSet (went_on (restarts left now) (Happening.Power ∷ noted_behind loss.front notes)))
            (ap (λ (one : Loss EquipmentView). one.left choice) (sym at.is))
            (starts-so s.node.own.plan (at.left choice) (Happening.Power ∷ noted_behind loss.front notes)
            reported.holds.plan_is left.may left.keeps left.found)
          where
            at : IsAtCall (LeftAt plan held slots notes) s loss
            at =
                at-call (LeftAt plan held slots notes) s (works_of s input now) (standing_in s) [] first loss each-left
                (has-call call (losses s input now) loss is)

            left : MayLeave plan held (noted_behind loss.front notes) (setup_in (at.left choice))
            left = at.at choice

        -- ---- the whole step

        -- behind its works the file tells the setup that is kept by then
        file-kept : (step : Step EquipmentView Happening) → begun ≡ Goes step
            → setup_in (done_step step).next.file ≡ step.next.node.own.setup
        file-kept step is = go tail rest
          where
            own : OwnView
            own = step.next.node.own

            file : SpoolFile
            file = settled_file own.ledger step.next.file

            tail : IsTail slots notes (Goes step) lines.tail
            tail = subst (λ (went : Went EquipmentView Happening). IsTail slots notes went lines.tail) is lines.is_tail

            rest : Rests plan held own.setup (noted_behind step.notes notes)
            rest =
                subst
                (λ (went : Went EquipmentView Happening).
                GoesToRest plan held slots notes went (noted_behind (step_in went).notes notes)) is begun-kept.1

            -- the notes of the step
            behind-lines : List Happening → List Happening
            behind-lines tail = noted_behind tail (noted_behind lines.lines notes)

            parted : noted_behind step.notes notes ≡ behind-lines lines.tail
            parted =
                subst
                (λ (went : Went EquipmentView Happening).
                noted_behind (step_in went).notes notes ≡ noted_behind (lines.lines ++ lines.tail) notes) is lines.noted
                ∙ behind-both lines.lines lines.tail notes

            lines-list : list_in held (noted_behind lines.lines notes) ≡ s.node.own.setup
            lines-list = list-stays held lines.lines notes lines.still ∙ rests.list_is

            stood : setup_in file ≡ s.node.own.setup
            stood =
                ap (λ (setup : Setup). option_map list_of setup.bytes)
                (works-setup own.ledger.works
                (record { next = (stood_count own.ledger).next; file = step.next.file }))
                ∙ subst (λ (went : Went EquipmentView Happening).
                setup_in (step_in went).next.file ≡ setup_in s.file) is
                (begun-file (λ (file : SpoolFile). setup_in file ≡ setup_in s.file) s input now refl refl)
                ∙ so.file_is

            with-bytes : (bytes : Option (List ℕ)) → to_keep own ≡ bytes
                → setup_in (option_map_or (λ (all : List ℕ). with_kept all file) bytes file) ≡ own.setup
                → setup_in (done_step step).next.file ≡ own.setup
            with-bytes bytes same is =
                subst
                (λ (found : Option (List ℕ)).
                setup_in (option_map_or (λ (all : List ℕ). with_kept all file) found file) ≡ own.setup)
                (sym same) is

            go : IsTail slots notes (Goes step) lines.tail → Rests plan held own.setup (noted_behind step.notes notes)
                → setup_in (done_step step).next.file ≡ own.setup
            go (inl (no_tail, no_works)) at =
                with-bytes None (none-to-keep (to_keep own) no_works)
                (stood ∙ sym lines-list ∙ sym (ap (list_in held) (parted ∙ ap behind-lines no_tail)) ∙ at.list_is)
            go (inr (message, is_tail, kept)) at =
                with-bytes (Some (bytes_of kept.list)) (some-to-keep (to_keep own) (bytes_of kept.list) kept.works)
                (kept-in lists kept.list file
                (kinds-with s.node.own.setup message kept.list
                (λ old same. kinds-in s.file old (so.file_is ∙ same)) kept.kind
                (sym
                (sym at.list_is
                ∙ ap (list_in held)
                (parted ∙ ap behind-lines is_tail)
                ∙ ap (behind_kept message) lines-list)
                ∙ kept.setup)) kept.room
                ∙ sym kept.setup)

        acts-so : IsCourseSet (went_on (act s input now) notes)
        acts-so =
            go (act s input now) refl
            (step-keeps plan fits looked reported.start said notes input now s reported.holds reported.good)
          where
            ends : (went : Went EquipmentView Happening) → begun ≡ went → (last : Step EquipmentView Happening)
                → and_then (settled_went went) (ended_step now) ≡ Goes last
                → Rests plan held last.next.node.own.setup (noted_behind last.notes notes)
                → setup_in last.next.file ≡ last.next.node.own.setup
            ends (Spent step) is last same at = absurd (cc)
            ends (Goes step) is last same at =
                ap setup_in file_is ∙ file-kept step is
                ∙ sym rest.list_is
                ∙ sym (list-stays held still.lines (noted_behind step.notes notes) still.still)
                ∙ sym (ap (list_in held) still.noted)
                ∙ at.list_is
              where
                file_is : last.next.file ≡ (done_step step).next.file
                file_is =
                    ap (λ (went : Went EquipmentView Happening). (step_in went).next.file) (sym same)
                    ∙ ended-file (Goes step) now

                rest : Rests plan held step.next.node.own.setup (noted_behind step.notes notes)
                rest =
                    subst
                    (λ (went : Went EquipmentView Happening).
                    GoesToRest plan held slots notes went (noted_behind (step_in went).notes notes)) is begun-kept.1

                still : EndsStill plan fits looked reported.start slots notes step last
                still =
                    ends-still plan fits looked reported.start slots to notes now step last
                    (subst
                    (OnEither (IsBothOwing plan fits looked reported.start slots to notes notes)
                    (IsRightFile plan fits looked reported.start slots notes notes)) is both)
                    (subst (λ (went : Went EquipmentView Happening). IsGoodView plan fits (step_in went).next) is
                    (begun-good plan fits s input now reported.good)) same

            go : (went : Went EquipmentView Happening) → act s input now ≡ went
                → OnEither
                (λ (step : Step EquipmentView Happening).
                Holds plan reported.start to step.next.node.own step.next.node.core.drawn
                (noted_behind step.notes notes))
                (λ (step : Step EquipmentView Happening).
                AreSettled plan reported.start (noted_behind step.notes notes)) went
                → IsCourseSet (went_on went notes)
            go (Goes step) is at =
                let resting = own-rests step.next.node.own (noted_behind step.notes notes) start-kept at in
                record { keeps = resting.keeps; file_is = ends begun refl step is resting }
            go (Spent step) is at = (at.rests held start-kept).keeps

    -- ---- all meetings

    meeting-so :
        (meeting : Meeting ToolCommand) (said : List ToolCommand) (course : Course EquipmentView)
        → IsReported plan fits looked said course → IsCourseKept plan fits looked slots course → IsCourseSet course
        → IsCourseSet (with_meeting machine meeting course)
    meeting-so meeting said (Stopped notes) reported spool so = so
    meeting-so (Acts input now) said (Reached s notes) reported spool so =
        acts-so said s notes reported spool so input now
    meeting-so (Restarts now) said (Reached s notes) reported spool so = restarts-so said s notes reported spool so now
    meeting-so (Writes characters) said (Reached s notes) reported spool so =
        noted-so said s notes reported spool so (Happening.Wrote characters) refl
    meeting-so LosesPower said (Reached s notes) reported spool so =
        noted-so said s notes reported spool so Happening.Power refl
    meeting-so (Breaks input now call choice) said (Reached s notes) reported spool so =
        broken-so said s notes reported spool so input now choice (call_of call (losses s input now)) call refl
    meeting-so (Fills input now call) said (Reached s notes) reported spool so =
        filled-so said s notes reported spool so input now (call_of call (losses s input now)) call refl

    module _ (file : SpoolFile) (all : file.slots ≡ slots) (may : MayHold file) (is : setup_in file ≡ held) where
      course-set : (meetings : List (Meeting ToolCommand))
          → IsCourseSet (course_of (started_on plan file) machine meetings)
      course-set [] = started-so plan file [] refl tt tt (record { counted = false; is = is })
      course-set (meeting ∷ meetings) =
          meeting-so meeting (commands_met (started_on plan file) meetings)
          (course_of (started_on plan file) machine meetings)
          (course-reported plan fits looked file may.sent meetings)
          (course-kept plan fits looked slots some most file all may meetings) (course-set meetings)

      pub setup-so : (meetings : List (Meeting ToolCommand))
          → IsSetupKept plan held (course_of (started_on plan file) machine meetings)
      setup-so meetings =
          go (course_of (started_on plan file) machine meetings)
          (course-reported plan fits looked file may.sent meetings)
          (course-kept plan fits looked slots some most file all may meetings) (course-set meetings)
        where
          said : List ToolCommand
          said = commands_met (started_on plan file) meetings

          go : (course : Course EquipmentView) → IsReported plan fits looked said course
              → IsCourseKept plan fits looked slots course → IsCourseSet course → IsSetupKept plan held course
          go (Reached s notes) reported spool so =
              record { keeps = so.keeps; rests = (rests said s notes reported spool so).due_is }
          go (Stopped notes) reported spool so = record { keeps = so; rests = tt }

-- whatever it meets, over whatever its file holds
pub setup-is-kept : TablesAreLookedBackFor → ListsAreReadAsSpelled → SetupIsKept
setup-is-kept looked lists plan file fits some most may meetings =
    setup-so plan fits looked lists file.slots some most (setup_in file) file refl may refl meetings
