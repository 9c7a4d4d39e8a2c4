-- What holds of all runs.
use Rattle.std.specs.Prelude.{◌≡◌, ◌≢◌, ◌<◌, ◌≤◌, ◌⊎◌, ℕ, Bool, true, false, List, [], length, Option, Some, None, Ok}
use Rattle.command_words.specs.Asked.{Asked, Drop, Equipment, Format, Host, JournalHost, JournalReplay, Make, Replay, Show, Spell, SpellHex, Spool}
use Rattle.command_words.specs.Words.{asked_of}
use Rattle.equipment_tables.specs.declared.plan.Plans.{Plans}
use Rattle.gem_config.specs.Plans.{Means}
use Rattle.gem_config.specs.Reading.{refused}
use Rattle.gem_config.specs.declared.fault.ConfigWhat.{ConfigWhat}
use Rattle.gl_base.specs.Faults.{Rose}
use Rattle.gl_base.specs.Sink.{with_bytes}
use Rattle.gl_base.specs.Told.{FilesTold, SinkTold, SourceTold}
use Rattle.gl_base.specs.Files.{told_file}
use Rattle.gl_base.specs.Link.{LinkContents}
use Rattle.gl_base.specs.declared.link.LinkIn.{LinkIn}
use Rattle.gl_base.specs.declared.side.Side.{Side}
use Rattle.gl_base.specs.declared.side.Side.TheVariants as side
use Rattle.line_schedule.specs.Schedule.{IsJournalSchedule, IsSchedule, OutsideAt, OutsideJournalAt}
use Rattle.line_schedule.specs.Script.{IsScript, OutsideScriptAt}
use Rattle.line_schedule.specs.declared.schedule.JournalSchedule.{JournalSchedule}
use Rattle.line_schedule.specs.declared.schedule.Schedule.{Schedule}
use Rattle.trace_log.specs.Log.{Entry, Happening}
use Rattle.message_end.specs.Core.{Step}
use Rattle.message_end.specs.Core.Went.{Goes}
use Rattle.equipment_node.specs.StartSetup.{start_break}
use Rattle.tool_step.specs.Equipment.{is_marked_out}
use Rattle.end_run.specs.Pieces.{Piece as RunPiece}
use Rattle.end_run.specs.Script.{ScriptLine}
use Rattle.end_run.specs.declared.ending.Ending.{Ending as RunEnding}
use Rattle.end_pair.specs.Laws.{IsSlip, OnNewest}
use Rattle.end_pair.specs.declared.answers.WorldStep.{WorldStep}
use Rattle.end_pair.specs.declared.answers.WorldStep.TheVariants as went
use Rattle.line_world.specs.Make.{make_schedule}
use Rattle.journal_world.specs.Run as journaled
use Rattle.line_world.specs.Run.{log_of, went_of}
use Rattle.line_show.specs.Capture.{Piece, Reads}
use Rattle.line_show.specs.Lines.{lines_of}
use Rattle.line_show.specs.declared.capture.Ending.{Ending}
use Rattle.line_show.specs.declared.capture.Ending.TheVariants.{Whole}
use Rattle.secs_items.specs.Reading.{first_fault}
use Rattle.secs_items.specs.declared.item.Item.{Item}
use Rattle.secs_items.specs.Spelling.{Spells}
use Rattle.secs_items.specs.declared.item_fault.ItemFault.{ItemFault}
use Rattle.secs_text.specs.Faults.{HasFault}
use Rattle.secs_text.specs.Grammar.{ReadsAs}
use Rattle.secs_text.specs.declared.text_fault.TextFault.{TextFault}
use Rattle.disk_base.specs.Story.{Story}
use Rattle.spool_show.specs.Told.{DiskTold}
use Rattle.spool_file.specs.File.{file_in, spool_break}
use Rattle.gemline_app.specs.LinkTold.{LinkTold}
use Rattle.gemline_app.specs.Filed.{Filed, run_of}
use Rattle.gemline_app.specs.Journal.{journal_host}
use Rattle.gemline_app.specs.Linked.{outcome_with}
use Rattle.gemline_app.specs.Gemline.{IsRun}
use Rattle.gemline_app.specs.HexInput.{HexMeans, IsHexBreak}
use Rattle.gemline_app.specs.Equipment.{tool}
use Rattle.gemline_app.specs.Host.{host_run}
use Rattle.gemline_app.specs.Make.{made_plans}
use Rattle.gemline_app.specs.Outcome.{outcome_of_show}
use Rattle.gemline_app.specs.Spelling.{HexSpells, spelled_line, text_line, text_place}
use Rattle.gemline_app.specs.Words.{capture_limit, file_limit, item_limit, script_limit}
use Rattle.gemline_app.specs.declared.outcome.FileRole.TheVariants as role
use Rattle.gemline_app.specs.declared.outcome.Outcome.{Outcome}
use Rattle.gemline_app.specs.declared.outcome.Outcome.TheVariants.{Done, Usage, BadText, BadHex, BadItem, BadLine, Longer, FileLonger, FileFailed, ReadFailed, NoMemory, WriteFailed, TurnsSpent, NumbersSpent, Slip, DiskFailed, NotSpool, BadPlan, BadScript, LinkFailed, JournalFull}

-- what a capture asks for: its pieces, and the outcome of how they end
abbrev pub CaptureAsks : List ℕ → Outcome → Type 0
CaptureAsks capture due =
    (pieces : List Piece) × (ending : Ending) × Reads capture pieces ending × (due ≡ outcome_of_show (Ok ending))

-- what a text asks for: its item, or its fault
abbrev pub TextAsks : List ℕ → Outcome → Type 0
TextAsks text due =
    ((item : Item) × ReadsAs text item × (due ≡ Done))
    ⊎ ((fault : TextFault) × HasFault text fault × (due ≡ BadText (text_place fault)))

-- what the bytes of an item ask for: the item that they spell, or their first fault
abbrev pub BytesAsk : List ℕ → Outcome → Type 0
BytesAsk bytes due =
    ((item : Item) × Spells item bytes × (due ≡ Done))
    ⊎ ((fault : ItemFault) × (first_fault bytes ≡ Some fault) × (due ≡ BadItem fault))

-- what hex asks for: what its bytes ask for, or the break of the hex itself
abbrev pub HexAsks : List ℕ → Outcome → Type 0
HexAsks digits due =
    ((bytes : List ℕ) × HexMeans bytes digits × BytesAsk bytes due)
    ⊎ ((at : ℕ) × IsHexBreak digits at × (due ≡ BadHex at))

-- the outcome that is due of an input with a limit, where the input is told
abbrev pub IsInputDue : ℕ → (List ℕ → Outcome → Type 0) → SourceTold → Outcome → Type 0
IsInputDue limit Asks source due =
    (bytes : List ℕ) × (source.before ≡ Some bytes)
    × (((limit < length bytes) × (due ≡ Longer)) ⊎ ((length bytes ≤ limit) × Asks bytes due))

-- what is due of a run, by how it goes and by its log: a slip is the last of its log; or it has no turn left; or
-- numbers were to be drawn with none left; or none of these, and so it is carried out (`runs_end_five_ways` and
-- `never_full` of end_pair)
abbrev pub IsRunDue : WorldStep → List Entry → Outcome → Type 0
IsRunDue how log due =
    (OnNewest IsSlip log × (due ≡ Slip))
    ⊎ (((how ≡ went.Turns) × (due ≡ TurnsSpent))
    ⊎ (((how ≡ went.NumbersSpent) × (due ≡ NumbersSpent))
    ⊎ ((OnNewest IsSlip log → ⊥) × (how ≢ went.Turns) × (how ≢ went.NumbersSpent) × (due ≡ Done))))

-- and over a host with a journal: a full one, or the same
abbrev pub IsJournalRunDue : WorldStep → List Entry → Outcome → Type 0
IsJournalRunDue how log due =
    ((how ≡ went.JournalFull) × (due ≡ JournalFull)) ⊎ ((how ≢ went.JournalFull) × IsRunDue how log due)

-- what the text of a schedule asks for, over a journal of so many slots or without one: its trace, as far as the run
-- goes, or its first line that is outside the grammar
abbrev pub ScheduleAsks : Option ℕ → Plans → List ℕ → Outcome → Type 0
ScheduleAsks None plans text due =
    ((schedule : Schedule) × IsSchedule text schedule.events
    × IsRunDue (went_of plans schedule) (log_of plans schedule) due)
    ⊎ ((number : ℕ) × OutsideAt text number × (due ≡ BadLine number))
ScheduleAsks (Some slots) plans text due =
    ((schedule : JournalSchedule) × IsJournalSchedule text schedule.events
    × IsJournalRunDue (journaled.went_of plans slots schedule) (journaled.log_of plans slots schedule) due)
    ⊎ ((number : ℕ) × OutsideJournalAt text number × (due ≡ BadLine number))

-- the outcome that is due of a schedule's text
abbrev pub IsScheduleDue : Option ℕ → Plans → List ℕ → Outcome → Type 0
IsScheduleDue journal plans text due =
    ((file_limit role.Schedule < length text) × (due ≡ FileLonger role.Schedule))
    ⊎ ((length text ≤ file_limit role.Schedule) × ScheduleAsks journal plans text due)

-- what the text of a plan asks for: its refusal, or what the schedule of this name asks for over the plans that it
-- means
abbrev pub PlanAsks : Option ℕ → List ℕ → FilesTold → List ℕ → Outcome → Type 0
PlanAsks journal schedule files plan due =
    ((key : List ℕ) × (what : ConfigWhat) × Means plan (refused key what) × (due ≡ BadPlan key what))
    ⊎ ((plans : Plans) × (text : List ℕ) × Means plan (Ok plans)
    × (told_file schedule files.before ≡ Some text) × IsScheduleDue journal plans text due)

-- the outcome that is due of a plan's text
abbrev pub IsPlanDue : Option ℕ → List ℕ → FilesTold → List ℕ → Outcome → Type 0
IsPlanDue journal schedule files plan due =
    ((file_limit role.Plan < length plan) × (due ≡ FileLonger role.Plan))
    ⊎ ((length plan ≤ file_limit role.Plan) × PlanAsks journal schedule files plan due)

-- the outcome that is due of two files, where the plan is told, and the schedule if it is read
abbrev pub IsReplayDue : Option ℕ → List ℕ → List ℕ → FilesTold → Outcome → Type 0
IsReplayDue journal plan schedule files due =
    (bytes : List ℕ) × (told_file plan files.before ≡ Some bytes) × IsPlanDue journal schedule files bytes due

-- ---- commands that run an end over a link

-- what the text of a script asks for: what its lines ask for, or its first line that is none
abbrev pub ScriptAsks : Side → (List ScriptLine → Outcome → Type 0) → List ℕ → Outcome → Type 0
ScriptAsks end LinesAsk text due =
    ((lines : List ScriptLine) × IsScript end text lines × LinesAsk lines due)
    ⊎ ((number : ℕ) × OutsideScriptAt end text number × (due ≡ BadScript number))

-- what the text of a plan asks for: its refusal, or what the script asks for over the plans that it means
abbrev pub LinkedAsks :
    Side → (Plans → List ScriptLine → Outcome → Type 0) → SourceTold → List ℕ → Outcome → Type 0
LinkedAsks end LinesAsk source plan due =
    ((key : List ℕ) × (what : ConfigWhat) × Means plan (refused key what) × (due ≡ BadPlan key what))
    ⊎ ((plans : Plans) × Means plan (Ok plans)
    × IsInputDue script_limit (ScriptAsks end (LinesAsk plans)) source due)

-- the outcome that is due of a plan's text, by how long it is
abbrev pub IsTextDue :
    Side → (Plans → List ScriptLine → Outcome → Type 0) → SourceTold → List ℕ → Outcome → Type 0
IsTextDue end LinesAsk source plan due =
    ((file_limit role.Plan < length plan) × (due ≡ FileLonger role.Plan))
    ⊎ ((length plan ≤ file_limit role.Plan) × LinkedAsks end LinesAsk source plan due)

-- and of a plan, where it is told
abbrev pub IsLinkedDue :
    Side → (Plans → List ScriptLine → Outcome → Type 0) → List ℕ → SourceTold → FilesTold → Outcome → Type 0
IsLinkedDue end LinesAsk plan source files due =
    (bytes : List ℕ) × (told_file plan files.before ≡ Some bytes) × IsTextDue end LinesAsk source bytes due

-- what a run asks for by the answers that a link tells to come: how it ends, where a full store is this outcome
abbrev pub RunAsks : {S C : Type 0} → Outcome → (List LinkIn → RunPiece S C) → LinkTold → Outcome → Type 0
RunAsks full run link due =
    (contents : LinkContents) × (how : RunEnding) × (link.before ≡ Some contents)
    × ((run contents.left).ended ≡ Some how) × (due ≡ outcome_with full how)

-- what lines of a script ask of the host
abbrev pub HostAsks : ℕ → LinkTold → Plans → List ScriptLine → Outcome → Type 0
HostAsks polls link plans lines due = RunAsks NoMemory (host_run plans.host lines polls) link due

-- what they ask of an end over a file that a disk tells: the first place at which its bytes break; or they break
-- nowhere, and no system bytes are left, or it runs
abbrev pub BytesAskRun :
    {P S C : Type 0} → Filed P S C → P → ℕ → LinkTold → List ScriptLine → List ℕ → Outcome → Type 0
BytesAskRun {P} {S} filed plan polls link lines bytes due =
    ((at : ℕ) × (filed.break_in bytes ≡ Some at) × (due ≡ NotSpool at))
    ⊎ (((filed.break_in bytes ≡ None) × (is_marked_out (file_in bytes).mark.value ≡ true) × (due ≡ NumbersSpent))
    ⊎ ((filed.break_in bytes ≡ None) × ((start : Step S Happening)
    × (filed.starts plan (file_in bytes) ≡ Goes start)
    × RunAsks filed.full (run_of filed start lines polls) link due)))

abbrev pub FileAsks :
    {P S C : Type 0} → Filed P S C → P → ℕ → DiskTold → LinkTold → List ScriptLine → Outcome → Type 0
FileAsks filed plan polls disk link lines due =
    (s : Story) × (disk.before ≡ Some s) × BytesAskRun filed plan polls link lines s.now.bytes due

-- ---- commands over a spool file

-- what the bytes of a spool file ask for: its list, or the first place at which they break
abbrev pub outcome_of_break : Option ℕ → Outcome
outcome_of_break None = Done
outcome_of_break (Some at) = NotSpool at

-- the outcome that is due of a disk that tells its bytes
abbrev pub IsSpoolDue : DiskTold → Outcome → Type 0
IsSpoolDue disk due = (s : Story) × (disk.before ≡ Some s) × (due ≡ outcome_of_break (spool_break s.now.bytes))

-- ---- made rounds

-- the outcome that is due of so many: their summary, if their run is carried out
abbrev pub IsMakeDue : ℕ → Outcome → Type 0
IsMakeDue rounds due =
    IsRunDue (went_of made_plans (make_schedule rounds)) (log_of made_plans (make_schedule rounds)) due

-- the outcome that is due of words: usage where they are no command's, else what the command's input, files or disk ask
-- for
abbrev pub IsDue : Option Asked → SourceTold → FilesTold → DiskTold → LinkTold → Outcome → Type 0
IsDue None source files disk link due = due ≡ Usage
IsDue (Some Show) source files disk link due = IsInputDue capture_limit CaptureAsks source due
IsDue (Some Spell) source files disk link due = IsInputDue item_limit TextAsks source due
IsDue (Some SpellHex) source files disk link due = IsInputDue item_limit HexAsks source due
IsDue (Some (Replay plan schedule)) source files disk link due = IsReplayDue None plan schedule files due
IsDue (Some (JournalReplay plan schedule slots)) source files disk link due =
    IsReplayDue (Some slots) plan schedule files due
IsDue (Some (Equipment plan address spool polls)) source files disk link due =
    IsLinkedDue side.Equipment (λ plans. FileAsks tool plans.equipment polls disk link) plan source files due
IsDue (Some (Host plan address polls)) source files disk link due =
    IsLinkedDue side.Host (HostAsks polls link) plan source files due
IsDue (Some (JournalHost plan address journal polls)) source files disk link due =
    IsLinkedDue side.Host (λ plans. FileAsks journal_host plans.host polls disk link) plan source files due
IsDue (Some (Format spool slots)) source files disk link due = due ≡ Done
IsDue (Some (Spool spool)) source files disk link due = IsSpoolDue disk due
IsDue (Some (Drop spool count)) source files disk link due = IsSpoolDue disk due
IsDue (Some (Make rounds)) source files disk link due = IsMakeDue rounds due

-- an outcome that may come in place of the one that is due: memory ran out, or a count of faults rose
abbrev pub Hinders : SourceTold → FilesTold → DiskTold → LinkTold → SinkTold → Outcome → Type 0
Hinders source files disk link out NoMemory = Unit {0}
Hinders source files disk link out ReadFailed = Rose source.health.faults source.health_after.faults
Hinders source files disk link out (FileFailed which) = Rose files.health.faults files.health_after.faults
Hinders source files disk link out DiskFailed = Rose disk.health.faults disk.health_after.faults
Hinders source files disk link out LinkFailed = Rose link.health.faults link.health_after.faults
Hinders source files disk link out WriteFailed = Rose out.health.faults out.health_after.faults
Hinders source files disk link out _ = ⊥

-- which object's fault an outcome is
abbrev pub is_read_fault : Outcome → Bool
is_read_fault ReadFailed = true
is_read_fault _ = false

abbrev pub is_file_fault : Outcome → Bool
is_file_fault (FileFailed which) = true
is_file_fault _ = false

abbrev pub is_disk_fault : Outcome → Bool
is_disk_fault DiskFailed = true
is_disk_fault _ = false

abbrev pub is_link_fault : Outcome → Bool
is_link_fault LinkFailed = true
is_link_fault _ = false

abbrev pub is_write_fault : Outcome → Bool
is_write_fault WriteFailed = true
is_write_fault _ = false

-- a count of faults rose by one where this is the object's fault, and stands otherwise
abbrev pub IsCounted : Bool → ℕ → ℕ → Type 0
IsCounted true before now = Rose before now
IsCounted false before now = now ≡ before

-- the output may fail beside the disk of an end, with the lines of the step in which that has failed
abbrev pub MayFailToo : Option Asked → Outcome → Type 0
MayFailToo (Some (Equipment plan address spool polls)) outcome = outcome ≡ DiskFailed
MayFailToo (Some (JournalHost plan address journal polls)) outcome = outcome ≡ DiskFailed
MayFailToo _ outcome = ⊥

-- each fault of the input, the files, the disk, the link and the output is the outcome
pub record CountsFaults (asked : Option Asked) (source : SourceTold) (files : FilesTold) (disk : DiskTold)
    (link : LinkTold) (out : SinkTold) (outcome : Outcome) : Type 0 where
  pub read : IsCounted (is_read_fault outcome) source.health.faults source.health_after.faults
  pub file : IsCounted (is_file_fault outcome) files.health.faults files.health_after.faults
  pub on_disk : IsCounted (is_disk_fault outcome) disk.health.faults disk.health_after.faults
  pub on_link : IsCounted (is_link_fault outcome) link.health.faults link.health_after.faults
  pub write :
      IsCounted (is_write_fault outcome) out.health.faults out.health_after.faults
      ⊎ (MayFailToo asked outcome × Rose out.health.faults out.health_after.faults)

abbrev pub FaultsAreTold : Type 0
FaultsAreTold =
    (words : List (List ℕ)) (source : SourceTold) (files : FilesTold) (disk : DiskTold) (link : LinkTold)
    (out err : SinkTold) (status : ℕ)
    → (run : IsRun words source files disk link out err status)
    → CountsFaults (asked_of words) source files disk link out run.outcome

-- the outcome that is due comes, unless one hinders it
abbrev pub OutcomesAreDue : Type 0
OutcomesAreDue =
    (words : List (List ℕ)) (source : SourceTold) (files : FilesTold) (disk : DiskTold) (link : LinkTold)
    (out err : SinkTold) (status : ℕ) (due : Outcome)
    → (run : IsRun words source files disk link out err status) → IsDue (asked_of words) source files disk link due
    → (run.outcome ≡ due) ⊎ Hinders source files disk link out run.outcome

-- the plan and the script of an end are told and within their limits, and mean these plans and lines
pub record IsGiven (end : Side) (plan : List ℕ) (source : SourceTold) (files : FilesTold) : Type 0 where
  pub bytes : List ℕ
  pub plan_told : told_file plan files.before ≡ Some bytes
  pub plan_within : length bytes ≤ file_limit role.Plan
  pub plans : Plans
  pub means : Means bytes (Ok plans)
  pub text : List ℕ
  pub script_told : source.before ≡ Some text
  pub script_within : length text ≤ script_limit
  pub lines : List ScriptLine
  pub is : IsScript end text lines

-- its script or its peer has ended it, or its polls or its numbers are spent
abbrev pub IsAnswered : Outcome → Type 0
IsAnswered outcome = (outcome ≡ Done) ⊎ ((outcome ≡ TurnsSpent) ⊎ (outcome ≡ NumbersSpent))

-- over any link such a host is answered so, unless memory runs out or a count of faults rises
abbrev pub HostsAreAnswered : Type 0
HostsAreAnswered =
    (words : List (List ℕ)) (source : SourceTold) (files : FilesTold) (disk : DiskTold) (link : LinkTold)
    (out err : SinkTold) (status : ℕ) (plan address : List ℕ) (polls : ℕ)
    → (run : IsRun words source files disk link out err status) → asked_of words ≡ Some (Host plan address polls)
    → IsGiven side.Host plan source files
    → IsAnswered run.outcome ⊎ Hinders source files disk link out run.outcome

-- so is such an equipment, over any link, where the disk tells bytes that stand for a spool and its setup
abbrev pub EquipmentsAreAnswered : Type 0
EquipmentsAreAnswered =
    (words : List (List ℕ)) (source : SourceTold) (files : FilesTold) (disk : DiskTold) (link : LinkTold)
    (out err : SinkTold) (status : ℕ) (plan address spool : List ℕ) (polls : ℕ)
    → (run : IsRun words source files disk link out err status)
    → asked_of words ≡ Some (Equipment plan address spool polls) → IsGiven side.Equipment plan source files
    → (s : Story) → disk.before ≡ Some s → start_break s.now.bytes ≡ None
    → IsAnswered run.outcome ⊎ Hinders source files disk link out run.outcome

-- and such a host with a journal, which may be full, where the disk tells bytes that stand for a spool
abbrev pub IsJournalAnswered : Outcome → Type 0
IsJournalAnswered outcome = IsAnswered outcome ⊎ (outcome ≡ JournalFull)

abbrev pub JournalHostsAreAnswered : Type 0
JournalHostsAreAnswered =
    (words : List (List ℕ)) (source : SourceTold) (files : FilesTold) (disk : DiskTold) (link : LinkTold)
    (out err : SinkTold) (status : ℕ) (plan address journal : List ℕ) (polls : ℕ)
    → (run : IsRun words source files disk link out err status)
    → asked_of words ≡ Some (JournalHost plan address journal polls) → IsGiven side.Host plan source files
    → (s : Story) → disk.before ≡ Some s → spool_break s.now.bytes ≡ None
    → IsJournalAnswered run.outcome ⊎ Hinders source files disk link out run.outcome

-- over objects that do not fail, `show` of a capture without a break ends with status 0 and its lines, but for want of
-- memory
abbrev pub ShowsWholeCaptures : Type 0
ShowsWholeCaptures =
    (words : List (List ℕ)) (source : SourceTold) (files : FilesTold) (disk : DiskTold) (link : LinkTold)
    (out err : SinkTold) (status : ℕ)
    → IsRun words source files disk link out err status → asked_of words ≡ Some Show
    → (capture : List ℕ) (pieces : List Piece) → source.before ≡ Some capture → length capture ≤ capture_limit
    → source.health.reliable ≡ true → Reads capture pieces Whole → length (lines_of pieces) ≤ out.health.room
    → (status ≡ 71) ⊎ ((status ≡ 0) × (out.after ≡ with_bytes out.before (lines_of pieces)))

-- an input of hex means one list of bytes
abbrev pub HexMeansOne : Type 0
HexMeansOne = (digits first second : List ℕ) → HexMeans first digits → HexMeans second digits → first ≡ second

-- and is the hex of one item
abbrev pub HexSpellsOne : Type 0
HexSpellsOne =
    (digits : List ℕ) (first second : Item) → HexSpells first digits → HexSpells second digits → first ≡ second

-- what `spell` writes of a text that is within its limit is hex of bytes that spell its item
abbrev pub SpelledIsHex : Type 0
SpelledIsHex =
    (text : List ℕ) (item : Item) → ReadsAs text item → length text ≤ item_limit → HexSpells item (spelled_line item)

-- A run ended with status 0, and to an output that was empty it wrote this line of a text's item.
pub record WroteSpelling (text line : List ℕ) : Type 0 where
  pub words : List (List ℕ)
  pub source : SourceTold
  pub files : FilesTold
  pub disk : DiskTold
  pub link : LinkTold
  pub out : SinkTold
  pub err : SinkTold
  pub run : IsRun words source files disk link out err 0
  pub asks : asked_of words ≡ Some Spell
  pub told : source.before ≡ Some text
  pub empty : out.before ≡ Some []
  pub after : out.after ≡ Some line

-- a run ended well and wrote the text of this item
pub record ReadsBack (item : Item) (out : SinkTold) (outcome : Outcome) : Type 0 where
  pub done : outcome ≡ Done
  pub after : out.after ≡ with_bytes out.before (text_line item)

-- what one run of `spell` wrote, each run of `spell --hex` with an input of that length reads as the text's own item
abbrev pub SpelledReadsBack : Type 0
SpelledReadsBack =
    (text line : List ℕ) (item : Item) → ReadsAs text item → WroteSpelling text line → length line ≤ item_limit
    → (words : List (List ℕ)) (source : SourceTold) (files : FilesTold) (disk : DiskTold) (link : LinkTold)
    (out err : SinkTold) (status : ℕ)
    → (run : IsRun words source files disk link out err status) → asked_of words ≡ Some SpellHex
    → source.before ≡ Some line
    → ReadsBack item out run.outcome ⊎ Hinders source files disk link out run.outcome
