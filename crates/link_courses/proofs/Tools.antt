-- That each run of the equipment over a link keeps its laws, over a disk that tells its bytes.
use Rattle.std.proofs.Common.{◌≡◌, ◌⊎◌, refl, ap, subst, ◌∙◌, ◌<◌, ◌^◌, ℕ, Bool, true, false, List, [], ◌∷◌, ◌++◌, inl, inr, Option, Some, None, All, if◌then◌else◌, arith}
use Rattle.command_words.specs.Asked.{Asked, Equipment}
use Rattle.disk_base.specs.Story.{Story}
use Rattle.gl_base.specs.Told.{FilesTold, SinkTold, SourceTold}
use Rattle.gl_base.specs.declared.input.Input.TheVariants as input
use Rattle.gl_base.specs.declared.link.LinkIn.{LinkIn}
use Rattle.gl_base.specs.declared.side.Side.TheVariants as side
use Rattle.line_schedule.specs.Lines.{lines_of}
use Rattle.line_schedule.specs.Script.{IsScript, IsToldLine, LineFits, moment_of_line}
use Rattle.line_schedule.proofs.Ranges.{line_fits}
use Rattle.line_schedule.proofs.Telling.{all_fit}
use Rattle.message_end.specs.Core.{Step, Went, at_first}
use Rattle.message_end.specs.Core.Went.{Goes, Spent}
use Rattle.message_end.specs.Course.{Course, Meeting, course_of, notes_of, with_meeting}
use Rattle.message_end.specs.Course.Course.{Reached, Stopped}
use Rattle.message_end.specs.Course.Meeting.{Acts, Breaks, Fills, LosesPower, Restarts, Writes}
use Rattle.message_end.specs.Ends.{Asked as RoomAsked, KeepsLaw}
use Rattle.trace_log.specs.Commands.{ToolCommandFits}
use Rattle.trace_log.specs.Log.{Happening}
use Rattle.trace_log.specs.declared.commands.ToolCommand.{ToolCommand}
use Rattle.equipment_tables.specs.declared.plan.EquipmentPlan.{EquipmentPlan}
use Rattle.equipment_tables.specs.declared.plan.Plans.{Plans}
use Rattle.equipment_tables.specs.Plan.{EquipmentPlanFits}
use Rattle.spool_show.specs.Told.{DiskTold}
use Rattle.spool_file.specs.File.{SpoolFile, file_in, spool_break}
use Rattle.spool_file.proofs.Wholes.{sound_slots}
use Rattle.tool_law.specs.Laws.{DidOf, EquipmentKeepsItsLaw}
use Rattle.tool_law.specs.Tried.{AreTried}
use Rattle.tool_reports.specs.Laws.{ReportsAreOfTheirEvents}
use Rattle.tool_spool.specs.LeavesInStep.{MessagesLeaveInStep}
use Rattle.tool_spool.specs.MadeRoom.{OverwritesForPuts}
use Rattle.tool_spool.specs.SetupKept.{SetupIsKept}
use Rattle.tool_spool.specs.SpoolKept.{MayHold, SpoolIsKeptFrom}
use Rattle.tool_step.specs.End.{machine}
use Rattle.tool_step.specs.Equipment.{EquipmentView, is_marked_out, started_on, starts, unstarted}
use Rattle.tool_step.specs.Step.{end_plan}
use Rattle.end_pair.specs.Noted.{noted_by}
use Rattle.end_run.specs.Acts.{log_of}
use Rattle.end_run.specs.Commands.{Commands}
use Rattle.end_run.specs.Outcome.{RunsOver}
use Rattle.end_run.specs.Pieces.{Piece}
use Rattle.end_run.specs.Run.{commanded_run}
use Rattle.end_run.specs.Scenes.{StopAt}
use Rattle.end_run.specs.Script.{AreTold, ScriptLine, by_script}
use Rattle.end_run.specs.Sides.{told_equipment}
use Rattle.end_run.specs.declared.ending.Ending.{Ending}
use Rattle.end_run.proofs.Sides.{are_told_tool}
use Rattle.gemline_app.specs.Equipment.{EquipmentComes, FileRuns, WasRunOn, equipment_due, equipment_run, linked_machine}
use Rattle.gemline_app.specs.Filed.{bytes_told}
use Rattle.gemline_app.specs.Files.{PlansAre}
use Rattle.gemline_app.specs.Gemline.{RunComes}
use Rattle.gemline_app.specs.Inputs.{WasRead}
use Rattle.gemline_app.specs.LinkTold.{LinkTold}
use Rattle.gemline_app.specs.Linked.{IsIdle, after_run, before_run}
use Rattle.gemline_app.specs.Words.{script_limit}
use Rattle.gemline_app.specs.declared.outcome.Outcome.{Outcome}
use Rattle.gemline_app.proofs.StartBreaks.{spool-sound}
use Rattle.link_courses.specs.Courses.{ComesTo, IsCourse, met_by, with_closing}
use Rattle.link_courses.specs.Equipment.{EquipmentsKeepTheirLaws, KeepsLaws, RanInCourse, RanLawfully}
use Rattle.link_courses.specs.Lawful.{GiveBytes, KeepsLawOfEnd}
use Rattle.link_courses.specs.Noting.{HasDone, NoReply, ReplySo}
use Rattle.link_courses.proofs.Coming.{run-so}
use Rattle.link_courses.proofs.Given.{AreGiven, run-given, script-brings}
use Rattle.link_courses.proofs.Kept.{closing-keeps, first-keeps}
use Rattle.link_courses.proofs.Lawful.{first-done}
use Rattle.link_courses.proofs.Noting.{has-done, there-first}
use Rattle.link_courses.proofs.Numbered.{may-hold}
use Rattle.link_courses.proofs.Replying.{replies-noted}
use Rattle.link_courses.proofs.Writing.{lines-alone, run-writes, script-silent, tool-silent}

-- ---- a course over a link is one of the equipment

-- it asks of its disk alone something else, which no course looks at
meeting-same : (meeting : Meeting ToolCommand) (course : Course EquipmentView)
    → with_meeting linked_machine meeting course ≡ with_meeting machine meeting course
meeting-same meeting (Stopped notes) = refl
meeting-same (Acts input now) (Reached s notes) = refl
meeting-same (Restarts now) (Reached s notes) = refl
meeting-same (Writes characters) (Reached s notes) = refl
meeting-same LosesPower (Reached s notes) = refl
meeting-same (Breaks input now call choice) (Reached s notes) = refl
meeting-same (Fills input now call) (Reached s notes) = refl

course-same : (start : Step EquipmentView Happening) (met : List (Meeting ToolCommand))
    → course_of start linked_machine met ≡ course_of start machine met
course-same start [] = refl
course-same start (meeting ∷ met) =
    ap (λ (c : Course EquipmentView). with_meeting linked_machine meeting c) (course-same start met)
    ∙ meeting-same meeting (course_of start machine met)

abbrev run_by : {Q : Type 0} → Commands Q ToolCommand → Q → ℕ → Step EquipmentView Happening → List LinkIn
    → Piece EquipmentView ToolCommand
run_by commands coming polls start =
    commanded_run linked_machine equipment_due commands side.Equipment start coming polls

is-course :
    {Q : Type 0} (commands : Commands Q ToolCommand) (coming : Q) (polls : ℕ) (start : Step EquipmentView Happening)
    (answers : List LinkIn) → IsCourse machine start side.Equipment (run_by commands coming polls start answers)
is-course commands coming polls start answers =
    let run = run_by commands coming polls start answers in
    let is = run-so linked_machine start side.Equipment equipment_due commands coming polls answers in
    let same = course-same start (met_by run.acts) in
    record {
      notes = is.notes;
      noted = is.noted ∙ ap (λ (c : Course EquipmentView). with_closing run.ended (notes_of c)) same;
      comes = subst (ComesTo run.ended run.end) same is.comes;
    }

-- ---- its start

the-step : (one other : Step EquipmentView Happening) → Goes one ≡ Goes other → one ≡ other
the-step one other same = cc

goes-on :
    (b : Bool) (spent begun start : Step EquipmentView Happening)
    → (if b then Spent spent else Goes begun) ≡ Goes start → begun ≡ start
goes-on true spent begun start is = absurd (cc)
goes-on false spent begun start is = the-step begun start is

-- a start that goes is that over the file
start-is :
    (plan : EquipmentPlan) (file : SpoolFile) (start : Step EquipmentView Happening)
    → starts plan file ≡ Goes start
    → started_on plan file ≡ start
start-is plan file start is =
    goes-on (is_marked_out file.mark.value) (at_first (unstarted plan file)) (started_on plan file) start is

-- ---- a run keeps the laws

module _ (law : EquipmentKeepsItsLaw) (reports : ReportsAreOfTheirEvents) (spool : SpoolIsKeptFrom)
    (leaves : MessagesLeaveInStep) (room : OverwritesForPuts) (set_up : SetupIsKept) where
  module _ (plan : EquipmentPlan) (fits : EquipmentPlanFits plan) (file : SpoolFile) (some : 0 < file.slots)
      (most : file.slots < 2 ^ 16) (may : MayHold file) {Q : Type 0} (commands : Commands Q ToolCommand) (coming : Q)
      (polls : ℕ) where
    module _ (start : Step EquipmentView Happening) (started : starts plan file ≡ Goes start)
        (answers : List LinkIn) where
      abbrev run : Piece EquipmentView ToolCommand
      run = run_by commands coming polls start answers

      abbrev whole : List Happening
      whole = with_closing run.ended (notes_of (course_of start machine (met_by run.acts)))

      whole-keeps : KeepsLaws plan file whole
      whole-keeps =
          subst
          (λ (first : Step EquipmentView Happening).
          ComesTo run.ended run.end (course_of first machine (met_by run.acts))
          → KeepsLaws plan file (with_closing run.ended (notes_of (course_of first machine (met_by run.acts)))))
          (start-is plan file start started)
          (closing-keeps reports spool leaves room set_up plan fits file some most may (met_by run.acts) run.ended
          run.end)
          (is-course commands coming polls start answers).comes

      kept-law : KeepsLaw (end_plan plan) (DidOf plan) ToolCommandFits (Goes start) machine
      kept-law =
          subst
          (λ (went : Went EquipmentView Happening).
          KeepsLaw (end_plan plan) (DidOf plan) ToolCommandFits went machine)
          started (law plan file fits may.sent)

      first-lawful : (later noted : List Happening) → whole ≡ later ++ noted
          → AreGiven ToolCommandFits (met_by run.acts)
          → KeepsLawOfEnd (end_plan plan) (AreTried (end_plan plan)) noted
      first-lawful later noted is given =
          let done =
          first-done (end_plan plan) (DidOf plan) ToolCommandFits start machine kept-law (AreTried (end_plan plan))
          (λ base doings s did. did.tried) (λ doing before tried. tried.1) (λ doings tried. (tt, tried)) run.ended
          (met_by run.acts) later noted given is
          in
          record {
            done = done;
            replies = replies-noted (end_plan plan) (AreTried (end_plan plan)) noted done;
          }

    module _ (Such : List ℕ → Type 0) (none : Such []) (replies : ReplySo Such commands)
        (IsGiven : List LinkIn → Type 0)
        (given :
        (start : Step EquipmentView Happening) (answers : List LinkIn) → IsGiven answers
        → AreGiven ToolCommandFits (met_by (run_by commands coming polls start answers).acts)) where
      run-keeps : (link : LinkTold) (out : SinkTold) (ended : Ending) (start : Step EquipmentView Happening)
          → starts plan file ≡ Goes start → (left : EquipmentView) (room : RoomAsked)
          (stop : Option (StopAt EquipmentView ToolCommand))
          → RunsOver (before_run link out start.next) (after_run link out left room stop)
          (run_by commands coming polls start) ended
          → RanInCourse Such IsGiven plan file (run_by commands coming polls) link out ended
      run-keeps link out ended start started left room stop runs =
          let has : HasDone Such machine start side.Equipment (run_by commands coming polls start)
          (before_run link out start.next) (after_run link out left room stop) ended =
          has-done Such none machine start side.Equipment (run_by commands coming polls start)
          (before_run link out start.next) (after_run link out left room stop)
          (is-course commands coming polls start)
          (run-writes Such none linked_machine equipment_due commands replies side.Equipment start coming polls) ended
          runs
          in
          let noted = noted_by side.Equipment (log_of has.done) in
          let first = there-first ended (whole start started has.answers) noted has.there in
          record {
            start = start;
            started = started;
            left = left;
            room = room;
            stop = stop;
            has = has;
            keeps =
                first-keeps plan file (whole start started has.answers) first.later noted first.is
                (whole-keeps start started has.answers);
            lawful = λ is.
                first-lawful start started has.answers first.later noted first.is (given start has.answers is);
          }

  -- over bytes that stand for a spool
  pub sound-keeps :
      (plan : EquipmentPlan) → EquipmentPlanFits plan → (bytes : List ℕ) → spool_break bytes ≡ None
      → All (λ byte. byte < 256) bytes → {Q : Type 0} (commands : Commands Q ToolCommand) (coming : Q) (polls : ℕ)
      (Such : List ℕ → Type 0) → Such [] → ReplySo Such commands → (IsGiven : List LinkIn → Type 0)
      → ((start : Step EquipmentView Happening) (answers : List LinkIn) → IsGiven answers
      → AreGiven ToolCommandFits (met_by (run_by commands coming polls start answers).acts))
      → (link : LinkTold) (out : SinkTold) (ended : Ending) (start : Step EquipmentView Happening)
      → starts plan (file_in bytes) ≡ Goes start → (left : EquipmentView) (room : RoomAsked)
      (stop : Option (StopAt EquipmentView ToolCommand))
      → RunsOver (before_run link out start.next) (after_run link out left room stop)
      (run_by commands coming polls start) ended
      → RanInCourse Such IsGiven plan (file_in bytes) (run_by commands coming polls) link out ended
  sound-keeps plan fits bytes sound are commands coming polls Such none replies IsGiven given =
      let slots = sound_slots bytes sound in
      run-keeps plan fits (file_in bytes) slots.some (omega (arith, slots.most)) (may-hold bytes sound are) commands
      coming polls Such none replies IsGiven given

  -- ---- by its words

  lines-told : (text : List ℕ) (lines : List ScriptLine) → IsScript side.Equipment text lines
      → AreTold told_equipment ToolCommandFits lines
  lines-told text lines is =
      are_told_tool (lines_of text) 0 lines is.tell
      (all_fit (IsToldLine side.Equipment) moment_of_line LineFits
      (λ least line spelled there. line_fits side.Equipment line spelled there.0) 0 (lines_of text) lines is.tell).0

  module _ (source : SourceTold) (files : FilesTold) (disk : DiskTold) (link : LinkTold) (out : SinkTold) (s : Story)
      (told : disk.before ≡ Some s) (bytes : All (λ byte. byte < 256) s.now.bytes) (plan : List ℕ) (polls : ℕ)
      (outcome : Outcome) where
    abbrev KeptOr : Type 0
    KeptOr = IsIdle link out ⊎ RanLawfully plan polls s.now.bytes source files link out outcome

    run-kept :
        (plans : Plans) → PlansAre plan files plans → (text : List ℕ)
        → WasRead script_limit source (input.Whole text) → (lines : List ScriptLine)
        → IsScript side.Equipment text lines
        → WasRunOn plans.equipment lines polls (bytes_told disk) link out outcome → KeptOr
    run-kept plans are text read lines script was =
        let over = was.ran s told in
        let run : RanInCourse NoReply GiveBytes plans.equipment (file_in s.now.bytes)
        (λ start. equipment_run start lines polls) link out was.ended =
        sound-keeps plans.equipment are.is.fits.equipment s.now.bytes (spool-sound s.now.bytes (was.sound s told)) bytes
        (by_script told_equipment) lines polls NoReply refl (script-silent told_equipment tool-silent) GiveBytes
        (λ start answers given.
        run-given linked_machine equipment_due (by_script told_equipment) side.Equipment ToolCommandFits
        (AreTold told_equipment ToolCommandFits) (script-brings told_equipment ToolCommandFits) start lines polls answers
        (lines-told text lines script) given)
        link out was.ended over.start over.started over.ran.left over.ran.room over.ran.stop over.ran.runs
        in
        inr (record {
          plans = plans;
          plans_are = are;
          text = text;
          read = read;
          lines = lines;
          script = script;
          ended = was.ended;
          outcome_is = was.outcome_is;
          ran = run;
          alone = lines-alone run.has.done run.has.lines;
        })

    file-kept :
        (plans : Plans) → PlansAre plan files plans → (spool text : List ℕ)
        → WasRead script_limit source (input.Whole text) → (lines : List ScriptLine)
        → IsScript side.Equipment text lines
        → FileRuns plans.equipment spool lines polls disk link out outcome → KeptOr
    file-kept plans are spool text read lines script (inl none) = inl none.idle
    file-kept plans are spool text read lines script (inr (is, inl (refuses, idle))) = inl idle
    file-kept plans are spool text read lines script (inr (is, inr was)) =
        run-kept plans are text read lines script was

    comes-kept : (spool : List ℕ) → EquipmentComes plan spool polls source files disk link out outcome → KeptOr
    comes-kept spool (inl (refuses, unread, idle)) = inl idle.1
    comes-kept spool (inr (plans, are, inl (refuses, idle))) = inl idle.1
    comes-kept spool (inr (plans, are, inr (text, read, runs))) = elim runs.because [
      | inl found ↦ file-kept plans are spool text read found.0 found.1 found.2
      | inr fault ↦ inl fault.3.1
    ]

    words-kept : (address spool : List ℕ)
        → RunComes (Some (Equipment plan address spool polls)) source files disk link out outcome → KeptOr
    words-kept address spool (inl none) = inl (record { uncalled = none.uncalled; written = none.written })
    words-kept address spool (inr (comes, connects, tells)) = comes-kept spool comes

  pub tools-keep : EquipmentsKeepTheirLaws
  tools-keep words source files disk link out err status plan address spool polls run asks bytes s told =
      words-kept source files disk link out s told (bytes s told) plan polls run.outcome address spool
      (subst (λ (asked : Option Asked). RunComes asked source files disk link out run.outcome) asks run.comes)
