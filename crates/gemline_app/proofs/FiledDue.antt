-- Which outcome is due of a command that runs an end which keeps a file.
use Rattle.std.proofs.Common.{◌≡◌, sym, ap, subst, ◌∙◌, inl, inr, ℕ, true, List, Option, Some, None}
use Rattle.disk_base.specs.Story.{Story}
use Rattle.gl_base.specs.Told.{FilesTold, SinkTold, SourceTold}
use Rattle.spool_show.specs.Told.{DiskTold}
use Rattle.spool_file.specs.File.{SpoolFile, file_in}
use Rattle.trace_log.specs.Log.{Happening}
use Rattle.message_end.specs.Core.{Step}
use Rattle.message_end.specs.Core.Went.{Goes}
use Rattle.equipment_tables.specs.declared.plan.Plans.{Plans}
use Rattle.tool_step.specs.Equipment.{is_marked_out}
use Rattle.end_run.specs.Counts.{Counts}
use Rattle.end_run.specs.Scenes.{StopAt}
use Rattle.end_run.specs.Script.{ScriptLine}
use Rattle.end_run.specs.declared.ending.Ending.{Ending}
use Rattle.end_run.specs.declared.ending.Ending.TheVariants as ending
use Rattle.gemline_app.specs.Filed.{Filed, FiledComes, FileRuns, IsAllIdle, RanOver, SpoolRuns, StartRefuses, WasRunOn, bytes_told, counted_after, counted_before, run_of}
use Rattle.gemline_app.specs.Laws.{BytesAskRun, FileAsks, Hinders, IsLinkedDue, RunAsks}
use Rattle.gemline_app.specs.LinkTold.{LinkTold}
use Rattle.gemline_app.specs.Linked.{outcome_with}
use Rattle.gemline_app.specs.declared.outcome.Outcome.{Outcome}
use Rattle.gemline_app.specs.declared.outcome.Outcome.TheVariants.{Done, Usage, BadFrame, BadText, BadHex, BadItem, BadLine, Longer, FileLonger, FileFailed, ReadFailed, NoMemory, WriteFailed, TurnsSpent, NumbersSpent, Slip, DiskFailed, NotSpool, BadPlan, BadScript, LinkFailed, JournalFull}
use Rattle.gemline_app.proofs.LinkedDue.{linked_due, run_due}
use Rattle.gemline_app.proofs.ReplayDue.{Comes}
use Rattle.gemline_app.proofs.SpoolDue.{rose_of}

some_same : (a b : ℕ) → Some a ≡ Some b → a ≡ b
some_same a b same = cc

pub no_break : (break : Option ℕ) (at : ℕ) → break ≡ Some at → break ≡ None → ⊥
no_break break at some none = cc

-- a start that goes has system bytes left
module _ {P S C : Type 0} (filed : Filed P S C) (HoldsLeft : S → Option (StopAt S C) → Option Story → Type 0)
    (no_start :
    (plan : P) (file : SpoolFile) (step : Step S Happening) → filed.starts plan file ≡ Goes step
    → is_marked_out file.mark.value ≡ true → ⊥)
    (source : SourceTold) (files : FilesTold) (disk : DiskTold) (link : LinkTold) (out : SinkTold)
  where
    one_start :
        (plan : P) (file : SpoolFile) (one other : Step S Happening)
        → filed.starts plan file ≡ Goes one → filed.starts plan file ≡ Goes other
        → one ≡ other
    one_start plan file one other first second = same (sym first ∙ second)
      where
        same : Goes one ≡ Goes other → one ≡ other
        same is = cc

    -- a disk that has its file
    module _ (plan : P) (lines : List ScriptLine) (polls : ℕ) (s : Story) (told : disk.before ≡ Some s)
        (due : Outcome) where
      abbrev ComesDue : Outcome → Type 0
      ComesDue outcome = Comes source files disk link out outcome due

      -- ---- it didn't start

      not_spool : (at : ℕ) → filed.break_in s.now.bytes ≡ Some at
          → BytesAskRun filed plan polls link lines s.now.bytes due → ComesDue (NotSpool at)
      not_spool at breaks (inl (place, is, is_due)) =
          inl (ap (λ (n : ℕ). NotSpool n) (some_same at place (sym breaks ∙ is)) ∙ sym is_due)
      not_spool at breaks (inr (inl (sound, marked, is_due))) =
          absurd (no_break (filed.break_in s.now.bytes) at breaks sound)
      not_spool at breaks (inr (inr (sound, asks))) = absurd (no_break (filed.break_in s.now.bytes) at breaks sound)

      spent_out : filed.break_in s.now.bytes ≡ None → is_marked_out (file_in s.now.bytes).mark.value ≡ true
          → BytesAskRun filed plan polls link lines s.now.bytes due → ComesDue NumbersSpent
      spent_out sound marked (inl (place, is, is_due)) = absurd (no_break (filed.break_in s.now.bytes) place is sound)
      spent_out sound marked (inr (inl (none, out_too, is_due))) = inl (sym is_due)
      spent_out sound marked (inr (inr (none, (start, goes, asks)))) =
          absurd (no_start plan (file_in s.now.bytes) start goes marked)

      refused_due : (outcome : Outcome) → StartRefuses filed.break_in (bytes_told disk) outcome
          → BytesAskRun filed plan polls link lines s.now.bytes due → ComesDue outcome
      refused_due (NotSpool at) refuses asks = not_spool at (refuses.1 s told).0 asks
      refused_due NumbersSpent refuses asks = spent_out (refuses.1 s told).0 (refuses.1 s told).1 asks
      refused_due DiskFailed refuses asks = inr (rose_of refuses.0)
      refused_due NoMemory refuses asks = inr tt
      refused_due Done refuses asks = absurd refuses
      refused_due Usage refuses asks = absurd refuses
      refused_due (BadFrame named) refuses asks = absurd refuses
      refused_due (BadText at) refuses asks = absurd refuses
      refused_due (BadHex at) refuses asks = absurd refuses
      refused_due (BadItem fault) refuses asks = absurd refuses
      refused_due (BadLine number) refuses asks = absurd refuses
      refused_due Longer refuses asks = absurd refuses
      refused_due (FileLonger which) refuses asks = absurd refuses
      refused_due (FileFailed which) refuses asks = absurd refuses
      refused_due ReadFailed refuses asks = absurd refuses
      refused_due WriteFailed refuses asks = absurd refuses
      refused_due TurnsSpent refuses asks = absurd refuses
      refused_due Slip refuses asks = absurd refuses
      refused_due (BadPlan key what) refuses asks = absurd refuses
      refused_due (BadScript number) refuses asks = absurd refuses
      refused_due LinkFailed refuses asks = absurd refuses
      refused_due JournalFull refuses asks = absurd refuses

      -- ---- it ran

      disk_rose :
          (how : Ending)
          → Counts (counted_before (bytes_told disk) link out) (counted_after (bytes_told disk) link out) (Some how)
          → how ≡ ending.DiskFailed → Hinders source files disk link out DiskFailed
      disk_rose how counts is =
          (subst
          (λ (h : Ending).
          Counts (counted_before (bytes_told disk) link out) (counted_after (bytes_told disk) link out) (Some h))
          is counts).2.rose

      started_due :
          (outcome : Outcome) (how : Ending) → outcome ≡ outcome_with filed.full how
          → (how ≡ ending.DiskFailed → Hinders source files disk link out DiskFailed)
          → (over : RanOver filed HoldsLeft plan (file_in s.now.bytes) lines polls (bytes_told disk) link out how)
          → (start : Step S Happening)
          → filed.starts plan (file_in s.now.bytes) ≡ Goes start
          → RunAsks filed.full (run_of filed start lines polls) link due → ComesDue outcome
      started_due outcome how is on_disk over start goes asks =
          let ran = over.ran in
          run_due source files disk link out filed.full _ ran.left ran.room ran.stop
          (run_of filed over.start lines polls) how outcome due is on_disk ran.runs
          (subst (λ (first : Step S Happening). RunAsks filed.full (run_of filed first lines polls) link due)
          (one_start plan (file_in s.now.bytes) start over.start goes over.started) asks)

      ran_due : (outcome : Outcome) → WasRunOn filed HoldsLeft plan lines polls (bytes_told disk) link out outcome
          → BytesAskRun filed plan polls link lines s.now.bytes due → ComesDue outcome
      ran_due outcome was (inl (place, is, is_due)) =
          absurd (no_break (filed.break_in s.now.bytes) place is (was.sound s told))
      ran_due outcome was (inr (inl (none, marked, is_due))) =
          let over = was.ran s told in absurd (no_start plan (file_in s.now.bytes) over.start over.started marked)
      ran_due outcome was (inr (inr (none, (start, goes, asks)))) =
          started_due outcome was.ended was.outcome_is (disk_rose was.ended was.counts) (was.ran s told) start goes asks

      spool_due : (outcome : Outcome) → SpoolRuns filed HoldsLeft plan lines polls (bytes_told disk) link out outcome
          → BytesAskRun filed plan polls link lines s.now.bytes due → ComesDue outcome
      spool_due outcome (inl (refuses, idle)) asks = refused_due outcome refuses asks
      spool_due outcome (inr was) asks = ran_due outcome was asks

    -- ---- by its name

    module _ (file : List ℕ) (polls : ℕ) (outcome due : Outcome) where
      file_due :
          (plan : P) (lines : List ScriptLine)
          → FileRuns filed HoldsLeft plan file lines polls disk link out outcome
          → FileAsks filed plan polls disk link lines due → Comes source files disk link out outcome due
      file_due plan lines (inl none) asks =
          inr (subst (Hinders source files disk link out) (sym none.outcome_is) (rose_of none.rose))
      file_due plan lines (inr (is, runs)) (s, told, asks) = spool_due plan lines polls s told due outcome runs asks

      pub filed_due :
          (plan_of : Plans → P) (plan : List ℕ)
          → FiledComes filed HoldsLeft plan_of plan file polls source files disk link out outcome
          → IsLinkedDue filed.side (λ plans. FileAsks filed (plan_of plans) polls disk link) plan source files due
          → Comes source files disk link out outcome due
      filed_due plan_of plan comes is_due =
          linked_due source files disk link out filed.side (IsAllIdle disk link out)
          (λ (plans : Plans) (lines : List ScriptLine).
          FileRuns filed HoldsLeft (plan_of plans) file lines polls disk link out outcome)
          (λ (plans : Plans). FileAsks filed (plan_of plans) polls disk link) outcome due (λ idle. idle.1.written)
          (λ plans lines was asks. file_due (plan_of plans) lines was asks) plan comes is_due
