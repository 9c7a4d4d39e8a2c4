-- What an end reads, writes, sends, and leaves on its disk that keeps a file and is run over a link (this profile).
use Rattle.std.specs.Prelude.{◌≡◌, ◌⊎◌, ℕ, true, List, Option, Some, None}
use Rattle.disk_base.specs.Faults.{Rose}
use Rattle.disk_base.specs.Story.{Story}
use Rattle.disk_base.specs.Through.{EachImage}
use Rattle.end_run.specs.Commands.{Telling}
use Rattle.end_run.specs.Counts.{Counted, Counts, counted_by}
use Rattle.end_run.specs.Outcome.{RunsOver}
use Rattle.end_run.specs.Pieces.{Piece}
use Rattle.end_run.specs.Run.{started_run}
use Rattle.end_run.specs.Scenes.{StopAt}
use Rattle.end_run.specs.Script.{ScriptLine}
use Rattle.end_run.specs.declared.ending.Ending.{Ending}
use Rattle.equipment_node.specs.Held.{HasMark, IsUntouched as HasUntouched}
use Rattle.equipment_tables.specs.declared.plan.Plans.{Plans}
use Rattle.gl_base.specs.Told.{FilesTold, SinkTold, SourceTold}
use Rattle.gl_base.specs.declared.link.LinkIn.{LinkIn}
use Rattle.gl_base.specs.declared.side.Side.{Side}
use Rattle.line_schedule.specs.declared.script.ScriptStep.{ScriptStep}
use Rattle.message_end.specs.Core.{Step, Went}
use Rattle.message_end.specs.Core.Went.{Goes}
use Rattle.message_end.specs.Ends.{Asked, Machine}
use Rattle.spool_file.specs.File.{SpoolFile, StandsFor, file_in, spool_break}
use Rattle.spool_show.specs.Told.{DiskTold}
use Rattle.spool_slots.specs.Files.{upgraded}
use Rattle.tool_step.specs.Equipment.{is_marked_out}
use Rattle.trace_log.specs.Log.{Happening}
use Rattle.gemline_app.specs.LinkTold.{LinkTold}
use Rattle.gemline_app.specs.Linked.{IsIdle, LinkedComes, after_run, before_run, outcome_with}
use Rattle.gemline_app.specs.Spool.{IsUnused}
use Rattle.gemline_app.specs.declared.outcome.Outcome.{Outcome}
use Rattle.gemline_app.specs.declared.outcome.Outcome.TheVariants.{DiskFailed, NoMemory, NotSpool, NumbersSpent}

-- ---- the end

-- what such an end makes of steps, and when it acts next by itself; what a line of a script tells it; its side; the
-- first place at which bytes break over which it can't start; what a start by a plan makes of a file; and what it
-- comes to where a store of its own is full
pub record Filed (P S C : Type 0) : Type 0 where
  pub machine : Machine S C
  pub due : S → Option ℕ
  pub told : ScriptStep → Telling C
  pub side : Side
  pub break_in : List ℕ → Option ℕ
  pub starts : P → SpoolFile → Went S Happening
  pub full : Outcome

-- its run from a start, with the lines of a script and so many polls, where these answers of the link are to come
abbrev pub run_of : {P S C : Type 0} → Filed P S C → Step S Happening → List ScriptLine → ℕ → List LinkIn → Piece S C
run_of filed start lines polls = started_run filed.machine filed.due filed.told filed.side start lines polls

-- ---- the disk

-- the bytes that a disk held of its file before a run and behind it, and how many faults it had counted
pub record BytesTold : Type 0 where
  pub before : Option Story
  pub after : Option Story
  pub faults : ℕ
  pub faults_after : ℕ

abbrev pub bytes_told : DiskTold → BytesTold
bytes_told disk = record {
  before = disk.before;
  after = disk.after;
  faults = disk.health.faults;
  faults_after = disk.health_after.faults;
}

-- how many faults link, output and disk have counted before a run, and behind it
abbrev pub counted_before : BytesTold → LinkTold → SinkTold → Counted (Unit {0})
counted_before disk link out =
    counted_by link.health.faults out.health.faults (record { faults = disk.faults; fixed = tt })

abbrev pub counted_after : BytesTold → LinkTold → SinkTold → Counted (Unit {0})
counted_after disk link out =
    counted_by link.health_after.faults out.health_after.faults (record { faults = disk.faults_after; fixed = tt })

-- the disk didn't take the file
pub record IsNotTaken (disk : DiskTold) (link : LinkTold) (out : SinkTold) (outcome : Outcome) : Type 0 where
  pub outcome_is : outcome ≡ DiskFailed
  pub rose : Rose disk.health.faults disk.health_after.faults
  pub told : disk.after ≡ disk.before
  pub file : disk.file_after ≡ disk.file
  pub idle : IsIdle link out

-- no call of the disk or of the link was made, and nothing was written
abbrev pub IsAllIdle : DiskTold → LinkTold → SinkTold → Type 0
IsAllIdle disk link out = IsUnused disk × IsIdle link out

-- ---- its start

-- why it didn't start, and what its disk holds then: the bytes break, and they are as they were; there are no system
-- bytes any more, and the file stands as one of version 2; the disk failed, and the bytes are as they were, or the file
-- stands, as it was, or as one of version 2 with the old mark or the new one; memory ran out, and it stands so
abbrev pub StartRefuses : (List ℕ → Option ℕ) → BytesTold → Outcome → Type 0
StartRefuses break_in disk (NotSpool at) =
    (disk.faults_after ≡ disk.faults)
    × ((s : Story) → disk.before ≡ Some s → (break_in s.now.bytes ≡ Some at)
    × ((t : Story) → disk.after ≡ Some t → HasUntouched s t))
StartRefuses break_in disk NumbersSpent =
    (disk.faults_after ≡ disk.faults)
    × ((s : Story) → disk.before ≡ Some s → (break_in s.now.bytes ≡ None)
    × (is_marked_out (file_in s.now.bytes).mark.value ≡ true)
    × ((t : Story) → disk.after ≡ Some t → EachImage (λ image. StandsFor image (upgraded (file_in s.now.bytes))) t.now))
StartRefuses break_in disk DiskFailed =
    Rose disk.faults disk.faults_after
    × ((s : Story) → disk.before ≡ Some s → (t : Story) → disk.after ≡ Some t
    → HasUntouched s t ⊎ EachImage (HasMark (file_in s.now.bytes)) t.now)
StartRefuses break_in disk NoMemory =
    (disk.faults_after ≡ disk.faults)
    × ((s : Story) → disk.before ≡ Some s → (spool_break s.now.bytes ≡ None)
    × ((t : Story) → disk.after ≡ Some t → EachImage (HasMark (file_in s.now.bytes)) t.now))
StartRefuses break_in disk _ = ⊥

-- ---- its run, where this is what its disk may hold then: by the state that it was left in, and the step that has
-- stopped it, if one has

module _ {P S C : Type 0} (filed : Filed P S C) (HoldsLeft : S → Option (StopAt S C) → Option Story → Type 0) where
  -- it ran from a start: its lines are those that the start, the script and the link's answers ask for, and so are the
  -- moments asked of the link and the characters sent; and its disk holds what the run has left there
  pub record RunsFrom (start : Step S Happening) (lines : List ScriptLine) (polls : ℕ) (after : Option Story)
      (link : LinkTold) (out : SinkTold) (ended : Ending) : Type 0 where
    pub left : S
    pub room : Asked
    pub stop : Option (StopAt S C)
    pub runs :
        RunsOver
        (before_run link out start.next)
        (after_run link out left room stop)
        (run_of filed start lines polls)
        ended
    pub holds : HoldsLeft left stop after

  -- it was started by its plan over what a file holds, and ran from that start
  pub record RanOver (plan : P) (file : SpoolFile) (lines : List ScriptLine) (polls : ℕ) (disk : BytesTold)
      (link : LinkTold) (out : SinkTold) (ended : Ending) : Type 0 where
    pub start : Step S Happening
    pub started : filed.starts plan file ≡ Goes start
    pub ran : RunsFrom start lines polls disk.after link out ended

  -- it has run; where its disk told its bytes, these break nowhere, and the run is that over what they hold
  pub record WasRunOn (plan : P) (lines : List ScriptLine) (polls : ℕ) (disk : BytesTold) (link : LinkTold)
      (out : SinkTold) (outcome : Outcome) : Type 0 where
    pub ended : Ending
    pub outcome_is : outcome ≡ outcome_with filed.full ended
    pub counts : Counts (counted_before disk link out) (counted_after disk link out) (Some ended)
    pub sound : (s : Story) → disk.before ≡ Some s → filed.break_in s.now.bytes ≡ None
    pub ran :
        (s : Story) → disk.before ≡ Some s → RanOver plan (file_in s.now.bytes) lines polls disk link out ended

  -- what a disk with its file came to. Where the end doesn't start, nothing was written, and no call of the link was
  -- made
  abbrev pub SpoolRuns : P → List ScriptLine → ℕ → BytesTold → LinkTold → SinkTold → Outcome → Type 0
  SpoolRuns plan lines polls disk link out outcome =
      (StartRefuses filed.break_in disk outcome × IsIdle link out) ⊎ WasRunOn plan lines polls disk link out outcome

  -- what came of the lines of a script, over the file of this name
  abbrev pub FileRuns : P → List ℕ → List ScriptLine → ℕ → DiskTold → LinkTold → SinkTold → Outcome → Type 0
  FileRuns plan file lines polls disk link out outcome =
      IsNotTaken disk link out outcome
      ⊎ ((disk.file_after ≡ Some file) × SpoolRuns plan lines polls (bytes_told disk) link out outcome)

  -- what the command came to that runs it
  abbrev pub FiledComes :
      (Plans → P) → List ℕ → List ℕ → ℕ → SourceTold → FilesTold → DiskTold → LinkTold → SinkTold → Outcome → Type 0
  FiledComes plan_of plan file polls source files disk link out outcome =
      LinkedComes filed.side (IsAllIdle disk link out)
      (λ plans lines. FileRuns (plan_of plans) file lines polls disk link out outcome) plan source files outcome
