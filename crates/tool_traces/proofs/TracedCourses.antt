-- What was sent of the traces over all starts, and which run.
use Rattle.std.proofs.Common.{◌≡◌, refl, sym, ap, subst, ◌∙◌, inl, inr, arith, ◌+◌, ◌≤◌, ◌<◌, Bool, true, false, not, ◌&&◌, ℕ, List, [], ◌∷◌, ◌++◌, length, Option, Some, None, if◌then◌else◌}
use Rattle.std.specs.Prelude.{bytes_eq, filter, is_some}
use Rattle.std.proofs.lemmas.Slice.Eq.{bytes_eq-Decides}
use Rattle.disk_base.specs.declared.cut.CutChoice.{CutChoice}
use Rattle.gem_trace.specs.History.{Look, TraceEntry, bodies_at, traces_at}
use Rattle.gem_trace.specs.History.TraceEntry.{Step as Sample}
use Rattle.gem_trace.specs.Laws.{FewTracesRun, WhatRunsIsLookedBackFor}
use Rattle.gem_trace.specs.Traces.{Running}
use Rattle.secs_items.specs.declared.encode_fault.EncodeFault.{EncodeFault}
use Rattle.secs_items.specs.declared.item.Item.{Item}
use Rattle.secs_items.specs.Encoding.{encode_fault}
use Rattle.secs_items.specs.Spelling.{shortest_spelling}
use Rattle.spool_file.specs.File.{SpoolFile}
use Rattle.trace_log.specs.declared.commands.ToolCommand.{ToolCommand}
use Rattle.trace_log.specs.Log.{Happening}
use Rattle.message_end.specs.Core.{Step, Went, and_then, at_first, step_in}
use Rattle.message_end.specs.Core.Went.{Goes, Spent}
use Rattle.message_end.specs.Course.{Course, Meeting, broken_at, course_of, filled_at, noted_behind, went_on, with_meeting}
use Rattle.message_end.specs.Course.Course.{Reached, Stopped}
use Rattle.message_end.specs.Course.Meeting.{Acts, Breaks, Fills, LosesPower, Restarts, Writes}
use Rattle.message_end.specs.Ends.{Input, IsFront, Loss, call_of}
use Rattle.message_end.specs.Own.{Has}
use Rattle.message_end.specs.Parts.{Node, after_parts}
use Rattle.message_end.specs.Starts.{IsOfSetup}
use Rattle.message_end.proofs.Growing.{behind-both}
use Rattle.message_end.proofs.Parts.{OnEither, either-less}
use Rattle.equipment_tables.specs.declared.plan.EquipmentPlan.{EquipmentPlan}
use Rattle.equipment_tables.specs.Laws.{TablesAreLookedBackFor}
use Rattle.equipment_tables.specs.Plan.{EquipmentPlanFits}
use Rattle.equipment_tables.specs.Tables.{TablesState}
use Rattle.spool_works.proofs.LossCounts.{has-call}
use Rattle.spool_works.specs.Found.{found_in}
use Rattle.tool_step.specs.declared.kind.Kind.{Kind}
use Rattle.tool_step.specs.Own.{OwnView}
use Rattle.tool_step.specs.Disk.{stops, works_of}
use Rattle.tool_step.specs.End.{machine}
use Rattle.tool_step.specs.Equipment.{unstarted, EquipmentView, act, begun_step, done_step, ended_step, is_marked_out, needs_numbers, node_step, oldest_of, parts_done, reserved, restarts, settled_went, started_on, starts, went_with_file}
use Rattle.tool_step.specs.Losses.{losses}
use Rattle.tool_step.specs.Setup.{setup_in}
use Rattle.tool_step.specs.Step.{first_parts, last_parts}
use Rattle.tool_step.proofs.LossCalls.{losses-counted}
use Rattle.tool_law.specs.Sound.{AllCanBeSent}
use Rattle.spool_works.specs.DiskWorks.{fronts_of}
use Rattle.tool_law.proofs.Lawful.{each-stop, fronts-are}
use Rattle.tool_law.proofs.SetupStarts.{AreLines, are-lines, found_lines}
use Rattle.tool_reports.specs.LookedBack.{HasWhatWasSet}
use Rattle.tool_reports.specs.Reported.{IsTextOf, count_of, tables_in}
use Rattle.tool_reports.specs.Sampled.{AreSampled, Stepped, datas_in, due_in, history_of, is_text_of, look_at_step}
use Rattle.tool_reports.proofs.PlainTurns.{count_waiting}
use Rattle.tool_reports.proofs.QuietNotes.{counted, one, one-behind, some-passes}
use Rattle.tool_reports.proofs.QuietReports.{equal-bytes}
use Rattle.tool_reports.proofs.Reporting.{tables-so}
use Rattle.tool_traces.specs.Laws.{TracesHold}
use Rattle.tool_traces.specs.Steps.{stepped, steps_behind, steps_broken, steps_filled, steps_met, steps_started, with_step}
use Rattle.tool_traces.proofs.IdleCommands.{IsOdd}
use Rattle.tool_traces.proofs.IdleNotes.{AreAmid, AreSound, ReadsWhole, datas-grow, reads-ended, reads-none, sound-before}
use Rattle.tool_traces.proofs.TracedMessages.{run}
use Rattle.tool_traces.proofs.TracedParts.{AtClosed, AtEnd, AtFirst, AtSpent, all_due, first-keeps, last-keeps}
use Rattle.tool_traces.proofs.TracedTurns.{count_items, counted-both}

abbrev pub FileStep : Type 0
FileStep = Step EquipmentView Happening

abbrev pub FileWent : Type 0
FileWent = Went EquipmentView Happening

counted-more : {X : Type 0} (test : X → Bool) (xs ys : List X)
    → length (filter test ys) ≤ length (filter test (xs ++ ys))
counted-more test xs ys = let both = counted-both test xs ys in omega (arith, both)

rest-amid : (front rest : List Happening) → AreAmid (front ++ rest) → AreAmid rest
rest-amid [] rest are = are
rest-amid (what ∷ front) rest are = rest-amid front rest are.1

front-amid : (front rest : List Happening) → AreAmid (front ++ rest) → AreAmid front
front-amid [] rest are = tt
front-amid (what ∷ front) rest are = (are.0, front-amid front rest are.1)

-- a step that goes on has noted something
pub whole-step : (now : ℕ) (before notes last : List Happening) (steps : List Stepped)
    → notes ≡ last ++ Happening.StepEnded ∷ [] → with_step now before notes steps ≡ stepped now before notes ∷ steps
whole-step now before notes last steps is =
    ap (λ (ns : List Happening). with_step now before ns steps) is ∙ go last
    ∙ ap (λ (ns : List Happening). stepped now before ns ∷ steps) (sym is)
  where
    go : (last : List Happening)
        → with_step now before (last ++ Happening.StepEnded ∷ []) steps
        ≡ stepped now before (last ++ Happening.StepEnded ∷ []) ∷ steps
    go [] = refl
    go (what ∷ last) = refl

-- ---- what a start notes

-- no S6F1 was sent in it yet, and what was said stays
record IsStartNoted (before notes : List Happening) : Type 0 where
  datas : datas_in notes ≡ []
  sound : AreSound before → AreSound notes

setup-datas : (lines before : List Happening) → AreLines lines → datas_in (noted_behind lines before) ≡ datas_in before
setup-datas [] before are = refl
setup-datas (what ∷ lines) before are = setup-datas lines (what ∷ before) are.1 ∙ same what are.0
  where
    same : (what : Happening) → IsOfSetup what → datas_in (what ∷ before) ≡ datas_in before
    same (Happening.Setup found) of = refl
    same (Happening.Recorded past) of = refl
    same Happening.Refused of = refl
    same what of = absurd of

setup-sound : (lines before : List Happening) → AreLines lines → AreSound before → AreSound (noted_behind lines before)
setup-sound [] before are so = so
setup-sound (what ∷ lines) before are so = setup-sound lines (what ∷ before) are.1 (same what are.0)
  where
    same : (what : Happening) → IsOfSetup what → AreSound (what ∷ before)
    same (Happening.Setup found) of = so
    same (Happening.Recorded past) of = so
    same Happening.Refused of = so
    same what of = absurd of

start-noted : (plan : EquipmentPlan) (file : SpoolFile) (before : List Happening)
    → IsStartNoted before (noted_behind (started_on plan file).notes before)
start-noted plan file before =
    subst (IsStartNoted before) (sym (one-behind lines Happening.StepEnded first)) (record {
      datas = setup-datas lines first are;
      sound = λ so. setup-sound lines first are so;
    })
  where
    first : List Happening
    first = Happening.EquipmentStarted (found_in file.list) file.mark.value ∷ before

    lines : List Happening
    lines = found_lines plan (setup_in file)

    are : AreLines lines
    are = are-lines plan (setup_in file)

-- ---- where it has come to

module _ (plan : EquipmentPlan) where
  -- the traces that run are those of the history, 16 at most; each S6F1 that was due has had its turn; and no more were
  -- sent, or wait, than were due
  pub record IsReachedSo (steps : List Stepped) (s : EquipmentView) (notes : List Happening) : Type 0 where
    pub runs : s.node.own.tracing.running ≡ traces_at (history_of plan steps)
    pub most : length s.node.own.tracing.running ≤ 16
    pub all : s.node.own.tracing.made ≡ []
    pub odd : IsOdd s.node.core.asked
    pub sound : AreSound notes
    pub few :
        (body : List ℕ)
        → count_of body (datas_in notes)
        + (count_waiting body s.node.own.tracing.for_grant + count_items body s.node.own.tracing.made)
        ≤ count_items body (due_in plan steps)

  pub record AreFew (steps : List Stepped) (notes : List Happening) : Type 0 where
    pub sound : AreSound notes
    pub few : (body : List ℕ) → count_of body (datas_in notes) ≤ count_items body (due_in plan steps)

  abbrev pub IsCourseSo : List Stepped → Course EquipmentView → Type 0
  IsCourseSo steps (Reached s notes) = IsReachedSo steps s notes
  IsCourseSo steps (Stopped notes) = AreFew steps notes

  pub few-so : (steps : List Stepped) (s : EquipmentView) (notes : List Happening) → IsReachedSo steps s notes
      → AreFew steps notes
  few-so steps s notes so =
      record { sound = so.sound; few = λ body. let all = so.few body in omega (arith, all) }

  -- some notes of a step, in its order, without its end
  pub record IsFewAmid (steps : List Stepped) (notes : List Happening) (now : ℕ) (front : List Happening) : Type 0 where
    pub amid : AreAmid front
    pub few : AreFew (stepped now notes front ∷ steps) (noted_behind front notes)

  -- all notes of one that goes on
  pub record IsWholeAmid (steps : List Stepped) (notes : List Happening) (now : ℕ) (whole : List Happening)
      : Type 0 where
    pub front : List Happening
    pub is : whole ≡ front ++ Happening.StepEnded ∷ []
    pub so : IsFewAmid steps notes now front

  abbrev pub NotesWhole : List Stepped → List Happening → ℕ → FileStep → Type 0
  NotesWhole steps notes now step = IsWholeAmid steps notes now step.notes

  abbrev pub NotesFew : List Stepped → List Happening → ℕ → FileStep → Type 0
  NotesFew steps notes now step = IsFewAmid steps notes now step.notes

  -- with that step, where it has noted something
  pub few-with : (steps : List Stepped) (notes : List Happening) (now : ℕ) (front : List Happening)
      → AreFew steps notes → AreFew (stepped now notes front ∷ steps) (noted_behind front notes)
      → AreFew (with_step now notes front steps) (noted_behind front notes)
  few-with steps notes now [] none some = none
  few-with steps notes now (what ∷ front) none some = some

  -- ---- one step

  module _ (looked : WhatRunsIsLookedBackFor) (bound : FewTracesRun) (steps : List Stepped) (notes : List Happening)
      (now : ℕ) where
    abbrev look : Look
    look = look_at_step plan (stepped now notes [])

    abbrev past : List TraceEntry
    past = history_of plan steps

    abbrev due : List Item
    due = due_in plan steps

    abbrev the_run : List Running
    the_run = run notes look past (all_due notes look past due looked bound) looked bound

    abbrev WellEnds : FileStep → Type 0
    WellEnds step = AtEnd notes look past due looked bound (node_step step)

    abbrev WellCloses : FileStep → Type 0
    WellCloses step = AtClosed notes look past due looked bound (node_step step)

    abbrev FewEnds : FileStep → Type 0
    FewEnds step = AtSpent notes look past due looked bound (node_step step)

    at-start : (s : EquipmentView) → s.node.own.tables ≡ tables_in plan notes → IsReachedSo steps s notes
        → AtFirst notes look past due looked bound (at_first s.node)
    at-start s tables so = record {
      so = record {
        sent = datas_in notes;
        asked = [];
        reads = reads-none notes look the_run so.sound;
        runs = record { none = refl; runs = so.runs; most = so.most };
        odd = so.odd;
        few = so.few;
      };
      vars = ap (λ (t : TablesState). t.vars) tables;
    }

    none-sent : (s : EquipmentView) → IsReachedSo steps s notes → FewEnds (at_first s)
    none-sent s so = record {
      sent = datas_in notes;
      asked = [];
      reads = reads-none notes look the_run so.sound;
      few = λ body.
          let few = (few-so steps s notes so).few body in
          let more = counted-more (is_text_of body) (bodies_at past look) due in
          omega (arith, few, more);
    }

    with-file : (s : EquipmentView) (went : Went (Node OwnView Kind) Happening)
        → OnEither (AtEnd notes look past due looked bound) (AtSpent notes look past due looked bound) went
        → OnEither WellEnds FewEnds (went_with_file s went)
    with-file s (Goes step) at = at
    with-file s (Spent step) at = at

    closed-file : (s : EquipmentView) (went : Went (Node OwnView Kind) Happening)
        → OnEither (AtClosed notes look past due looked bound) (AtSpent notes look past due looked bound) went
        → OnEither WellCloses FewEnds (went_with_file s went)
    closed-file s (Goes step) at = record { last = at.last; is = at.is; notes = at.notes; asked = at.asked }
    closed-file s (Spent step) at = at

    begun-keeps : (input : Input ToolCommand) (s : EquipmentView) → s.node.own.tables ≡ tables_in plan notes
        → IsReachedSo steps s notes → OnEither WellEnds FewEnds (begun_step s input now)
    begun-keeps input s tables so = go (needs_numbers s) (is_marked_out s.file.mark.value)
      where
        -- more numbers change nothing of that
        reserved_so : IsReachedSo steps (reserved s) notes
        reserved_so = record {
          runs = so.runs;
          most = so.most;
          all = so.all;
          odd = so.odd;
          sound = so.sound;
          few = so.few;
        }

        go : (needs spent : Bool)
            → OnEither WellEnds FewEnds
            (and_then
            (if needs then if spent then Spent (at_first s) else Goes (at_first (reserved s)) else Goes (at_first s))
            (parts_done (first_parts input now)))
        go true true = none-sent s so
        go true false =
            with-file (reserved s) (after_parts Some (first_parts input now) (at_first (reserved s).node))
            (first-keeps notes look past due looked bound input (at_first (reserved s).node)
            (at-start (reserved s) tables reserved_so))
        go false spent =
            with-file s (after_parts Some (first_parts input now) (at_first s.node))
            (first-keeps notes look past due looked bound input (at_first s.node) (at-start s tables so))

    act-keeps : (input : Input ToolCommand) (s : EquipmentView) → s.node.own.tables ≡ tables_in plan notes
        → IsReachedSo steps s notes → OnEither WellCloses FewEnds (act s input now)
    act-keeps input s tables so = go (begun_step s input now) (begun-keeps input s tables so)
      where
        go : (went : FileWent) → OnEither WellEnds FewEnds went
            → OnEither WellCloses FewEnds (and_then (settled_went went) (ended_step now))
        go (Spent step) at = at
        go (Goes step) at =
            closed-file (done_step step).next
            (after_parts Some (last_parts (oldest_of (done_step step).next) now) (node_step (done_step step)))
            (last-keeps notes look past due looked bound (oldest_of (done_step step).next) now
            (node_step (done_step step))
            (record {
              sent = at.sent;
              asked = at.asked;
              reads = at.reads;
              runs = at.runs;
              odd = at.odd;
              few = at.few;
            }))

    -- what is read off the notes of the step, as of all
    few-behind : (step : FileStep) → FewEnds step → AreFew (stepped now notes step.notes ∷ steps)
        (noted_behind step.notes notes)
    few-behind step few = record {
      sound = few.reads.sound;
      few = λ body.
          let all = few.few body in
          let same = ap (λ (sent : List (List ℕ)). count_of body sent) few.reads.datas in
          omega (arith, all, same);
    }

    well-behind : (step : FileStep) → WellCloses step
        → IsReachedSo (stepped now notes step.notes ∷ steps) step.next (noted_behind step.notes notes)
    well-behind step at = record {
      runs =
          at.is.runs.runs
          ∙ ap (λ (asked : List TraceEntry). traces_at (past ++ Sample look ∷ asked)) (sym whole.asks);
      most = at.is.runs.most;
      all = at.is.runs.all;
      odd = subst IsOdd (sym at.asked) tt;
      sound = whole.sound;
      few = λ body.
          let all = at.is.few body in
          let same = ap (λ (sent : List (List ℕ)). count_of body sent) whole.datas in
          omega (arith, all, same);
    }
      where
        whole : ReadsWhole notes look the_run at.is.sent at.is.asked step.notes
        whole =
            subst (λ (ns : List Happening). ReadsWhole notes look the_run at.is.sent at.is.asked ns) (sym at.notes)
            (reads-ended notes look the_run at.is.sent at.is.asked at.last.notes at.is.reads)

    step-so : (went : FileWent) → OnEither WellCloses FewEnds went → AreFew steps notes
        → IsCourseSo (with_step now notes (step_in went).notes steps) (went_on went notes)
    step-so (Goes step) at none =
        subst (λ (steps : List Stepped). IsReachedSo steps step.next (noted_behind step.notes notes))
        (sym (whole-step now notes step.notes at.last.notes steps at.notes)) (well-behind step at)
    step-so (Spent step) at none = few-with steps notes now step.notes none (few-behind step at)

    few-amid : (step : FileStep) → FewEnds step → IsFewAmid steps notes now step.notes
    few-amid step few = record { amid = few.reads.amid; few = few-behind step few }

    -- what a step notes
    pub act-notes : (input : Input ToolCommand) (s : EquipmentView) → s.node.own.tables ≡ tables_in plan notes
        → IsReachedSo steps s notes
        → OnEither (NotesWhole steps notes now) (NotesFew steps notes now) (act s input now)
    act-notes input s tables so =
        either-less WellCloses FewEnds (NotesWhole steps notes now) (NotesFew steps notes now) (act s input now)
        (act-keeps input s tables so)
        (λ step at. record {
          front = at.last.notes;
          is = at.notes;
          so = record {
            amid = at.is.reads.amid;
            few = record {
              sound = at.is.reads.sound;
              few = λ body.
                  let all = at.is.few body in
                  let same = ap (λ (sent : List (List ℕ)). count_of body sent) at.is.reads.datas in
                  omega (arith, all, same);
            };
          };
        })
        (λ step few. few-amid step few)

    spent-of : (went : FileWent) → OnEither WellEnds FewEnds went → FewEnds (step_in went)
    spent-of (Goes step) at = record {
      sent = at.sent;
      asked = at.asked;
      reads = at.reads;
      few = λ body. let all = at.few body in omega (arith, all);
    }
    spent-of (Spent step) at = at

    -- what is noted where a call of the disk stops the step
    pub front-so : (input : Input ToolCommand) (s : EquipmentView) (front : List Happening)
        → s.node.own.tables ≡ tables_in plan notes → IsReachedSo steps s notes
        → Has (stops s input now) front → IsFewAmid steps notes now front
    front-so input s front tables so has =
        each-stop (IsFewAmid steps notes now) s input now at-work
        (few-amid (step_in (begun_step s input now)) few) front has
      where
        all : List Happening
        all = (step_in (begun_step s input now)).notes

        few : FewEnds (step_in (begun_step s input now))
        few = spent-of (begun_step s input now) (begun-keeps input s tables so)

        at-work : (ns : List Happening) → Has (fronts_of [] (works_of s input now) all) ns
            → IsFewAmid steps notes now ns
        at-work ns at =
            let first : IsFront ns all = fronts-are (works_of s input now) [] all ns at in
            let whole : noted_behind all notes ≡ noted_behind first.rest (noted_behind ns notes) =
            ap (λ (l : List Happening). noted_behind l notes) first.whole ∙ behind-both ns first.rest notes in
            let amid = subst AreAmid first.whole few.reads.amid in
            let later = rest-amid ns first.rest amid in
            record {
              amid = front-amid ns first.rest amid;
              few = record {
                sound = sound-before first.rest (noted_behind ns notes) (subst AreSound whole few.reads.sound);
                few = λ body.
                    let most = (few-behind (step_in (begun_step s input now)) few).few body in
                    let grow = datas-grow body first.rest (noted_behind ns notes) later in
                    let same = ap (λ (l : List Happening). count_of body (datas_in l)) whole in
                    omega (arith, most, grow, same);
              };
            }

  -- ---- over all starts

  start-so : (other : EquipmentPlan) (file : SpoolFile) (notes : List Happening) → AreSound notes
      → IsReachedSo [] (started_on other file).next (noted_behind (started_on other file).notes notes)
  start-so other file notes sound = record {
    runs = refl;
    most = omega (arith);
    all = refl;
    odd = tt;
    sound = noted.sound sound;
    few = λ body.
        let none : count_of body (datas_in (noted_behind (started_on other file).notes notes)) ≡ 0 =
        ap (λ (sent : List (List ℕ)). count_of body sent) noted.datas in
        omega (arith, none);
  }
    where
      noted : IsStartNoted notes (noted_behind (started_on other file).notes notes)
      noted = start-noted other file notes

  started-so : (other : EquipmentPlan) (file : SpoolFile) (steps : List Stepped) (notes : List Happening)
      → AreFew steps notes → IsCourseSo (steps_started (starts other file) steps) (went_on (starts other file) notes)
  started-so other file steps notes few = go (is_marked_out file.mark.value)
    where
      went : Bool → FileWent
      went spent =
          if spent then Spent (at_first (unstarted other file))
          else Goes (started_on other file)

      go : (spent : Bool) → IsCourseSo (steps_started (went spent) steps) (went_on (went spent) notes)
      go true = few
      go false = start-so other file notes few.sound

  pub power-so : (steps : List Stepped) (notes : List Happening) → AreFew steps notes
      → AreFew steps (Happening.Power ∷ notes)
  power-so steps notes so = record { sound = so.sound; few = so.few }

  module _ (looked : WhatRunsIsLookedBackFor) (bound : FewTracesRun) where
    -- what is noted by a loss
    pub lost-so :
        (input : Input ToolCommand) (now call : ℕ) (steps : List Stepped) (s : EquipmentView) (notes : List Happening)
        (loss : Loss EquipmentView) → call_of call (losses s input now) ≡ Some loss
        → s.node.own.tables ≡ tables_in plan notes → IsReachedSo steps s notes
        → IsFewAmid steps notes now loss.front
    lost-so input now call steps s notes loss is tables so =
        front-so looked bound steps notes now input s loss.front tables so
        ((losses-counted s input now).1 loss (has-call call (losses s input now) loss is))

    broken-so :
        (input : Input ToolCommand) (now call : ℕ) (choice : CutChoice) (steps : List Stepped) (s : EquipmentView)
        (notes : List Happening) (found : Option (Loss EquipmentView)) → call_of call (losses s input now) ≡ found
        → s.node.own.tables ≡ tables_in plan notes → IsReachedSo steps s notes
        → IsCourseSo
        (steps_broken (λ (loss : Loss EquipmentView). restarts (loss.left choice) now) now notes found steps)
        (broken_at machine now choice s notes found)
    broken-so input now call choice steps s notes None is tables so = so
    broken-so input now call choice steps s notes (Some loss) is tables so =
        started-so (loss.left choice).node.own.plan (loss.left choice).file (with_step now notes loss.front steps)
        (Happening.Power ∷ noted_behind loss.front notes)
        (power-so (with_step now notes loss.front steps) (noted_behind loss.front notes)
        (few-with steps notes now loss.front (few-so steps s notes so)
        (lost-so input now call steps s notes loss is tables so).few))

    filled-so :
        (input : Input ToolCommand) (now call : ℕ) (steps : List Stepped) (s : EquipmentView) (notes : List Happening)
        (found : Option (Loss EquipmentView)) → call_of call (losses s input now) ≡ found
        → s.node.own.tables ≡ tables_in plan notes → IsReachedSo steps s notes
        → IsCourseSo (steps_filled now notes found steps) (filled_at s notes found)
    filled-so input now call steps s notes None is tables so = so
    filled-so input now call steps s notes (Some loss) is tables so =
        few-with steps notes now loss.front (few-so steps s notes so)
        (lost-so input now call steps s notes loss is tables so).few

    meeting-so :
        (meeting : Meeting ToolCommand) (steps : List Stepped) (course : Course EquipmentView)
        → HasWhatWasSet plan course → IsCourseSo steps course
        → IsCourseSo (steps_behind meeting course steps) (with_meeting machine meeting course)
    meeting-so meeting steps (Stopped notes) tables so = so
    meeting-so (Acts input now) steps (Reached s notes) tables so =
        step-so looked bound steps notes now (act s input now)
        (act-keeps looked bound steps notes now input s tables so) (few-so steps s notes so)
    meeting-so (Restarts now) steps (Reached s notes) tables so =
        started-so s.node.own.plan s.file steps notes (few-so steps s notes so)
    meeting-so (Writes characters) steps (Reached s notes) tables so =
        record { runs = so.runs; most = so.most; all = so.all; odd = so.odd; sound = so.sound; few = so.few }
    meeting-so LosesPower steps (Reached s notes) tables so =
        record { runs = so.runs; most = so.most; all = so.all; odd = so.odd; sound = so.sound; few = so.few }
    meeting-so (Breaks input now call choice) steps (Reached s notes) tables so =
        broken-so input now call choice steps s notes (call_of call (losses s input now)) refl tables so
    meeting-so (Fills input now call) steps (Reached s notes) tables so =
        filled-so input now call steps s notes (call_of call (losses s input now)) refl tables so

    pub course-so :
        (fits : EquipmentPlanFits plan) (tables : TablesAreLookedBackFor) (file : SpoolFile)
        → AllCanBeSent file.list → (meetings : List (Meeting ToolCommand))
        → IsCourseSo (steps_met (started_on plan file) meetings)
        (course_of (started_on plan file) machine meetings)
    course-so fits tables file can [] = start-so plan file [] (tt, tt)
    course-so fits tables file can (meeting ∷ meetings) =
        meeting-so meeting (steps_met (started_on plan file) meetings)
        (course_of (started_on plan file) machine meetings)
        (tables-so plan fits tables file can meetings)
        (course-so fits tables file can meetings)

-- ---- what is said of them

has-counts : (body : List ℕ) (all : List (List ℕ)) → Has all body → 0 < count_of body all
has-counts body [] has = absurd has
has-counts body (first ∷ all) (inl same) =
    let more = counted (bytes_eq body) first all in
    let is = ap one (ap (bytes_eq body) (sym same) ∙ equal-bytes body) in
    omega (arith, more, is)
has-counts body (first ∷ all) (inr has) =
    let more = counted (bytes_eq body) first all in
    let rest = has-counts body all has in
    omega (arith, more, rest)

text-so : (item : Item) (body : List ℕ) → is_text_of body item ≡ true → IsTextOf item body
text-so item body is = go (encode_fault item) (bytes_eq body (shortest_spelling item)) refl refl is
  where
    go : (fault : Option EncodeFault) (same : Bool) → encode_fault item ≡ fault
        → bytes_eq body (shortest_spelling item) ≡ same → (not (is_some fault) && same) ≡ true → IsTextOf item body
    go None true none equal all =
        record { spelled = none; shortest = (bytes_eq-Decides body (shortest_spelling item)).0 equal }
    go None false none equal all = absurd (cc)
    go (Some fault) same none equal all = absurd (cc)

pub sampled-so : (plan : EquipmentPlan) (steps : List Stepped) (notes : List Happening)
    → AreFew plan steps notes → AreSampled plan notes steps
sampled-so plan steps notes so = record {
  wait = so.sound.0;
  each = λ body has.
      let some = has-counts body (datas_in notes) has in
      let most = so.few body in
      let found = some-passes (is_text_of body) (due_in plan steps) (omega (arith, some, most)) in
      record { item = found.0; due = found.1; text = text-so found.0 body found.2 };
  once = so.few;
  spoolable = so.sound.1;
}

pub traces-so :
    (plan : EquipmentPlan) → EquipmentPlanFits plan → TablesAreLookedBackFor → WhatRunsIsLookedBackFor → FewTracesRun
    → (file : SpoolFile) → AllCanBeSent file.list → (meetings : List (Meeting ToolCommand))
    → TracesHold plan (course_of (started_on plan file) machine meetings)
    (steps_met (started_on plan file) meetings)
traces-so plan fits tables looked bound file can meetings =
    go (course_of (started_on plan file) machine meetings)
    (course-so plan looked bound fits tables file can meetings)
  where
    steps : List Stepped
    steps = steps_met (started_on plan file) meetings

    go : (course : Course EquipmentView) → IsCourseSo plan steps course → TracesHold plan course steps
    go (Reached s notes) so =
        record {
          sampled = sampled-so plan steps notes (few-so plan steps s notes so);
          between = record { running = so.runs; most = so.most; made = so.all };
        }
    go (Stopped notes) so = record { sampled = sampled-so plan steps notes so; between = tt }
