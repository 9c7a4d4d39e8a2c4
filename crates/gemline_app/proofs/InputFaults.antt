-- Each fault of a whole input, of files and of the output is the outcome.
use Rattle.std.proofs.Common.{◌≡◌, ℕ, Bool, false, List, Option, Some, None, Result, Ok, Err, refl, sym, ap, subst, inl, inr}
use Rattle.equipment_tables.specs.declared.plan.Plans.{Plans}
use Rattle.gem_config.specs.declared.fault.ConfigFault.{ConfigFault}
use Rattle.gem_config.specs.declared.fault.ConfigFault.TheVariants as plan_fault
use Rattle.gl_base.specs.Sink.{SinkHealth}
use Rattle.gl_base.specs.Files.{FilesHealth}
use Rattle.gl_base.specs.Link.{LinkHealth}
use Rattle.gl_base.specs.Source.{SourceHealth}
use Rattle.gl_base.specs.Told.{FilesTold, SinkTold, SourceTold}
use Rattle.line_show.specs.Show.{HasStopCause}
use Rattle.line_show.specs.declared.capture.Ending.{Ending}
use Rattle.line_show.specs.declared.capture.Ending.TheVariants.{Whole, Broken}
use Rattle.line_show.specs.declared.printer.Stop.{Stop}
use Rattle.line_show.specs.declared.printer.Stop.TheVariants as stop
use Rattle.line_schedule.specs.declared.schedule.ScheduleFault.{ScheduleFault}
use Rattle.line_schedule.specs.declared.schedule.ScheduleFault.TheVariants as schedule_fault
use Rattle.end_pair.specs.Run.{Runs}
use Rattle.journal_world.specs.Run as journaled
use Rattle.line_world.specs.Run.{trace_text, went_of}
use Rattle.end_pair.specs.declared.answers.WorldStep.{WorldStep}
use Rattle.end_pair.specs.declared.answers.RunEnd.{RunEnd}
use Rattle.end_pair.specs.declared.answers.RunEnd.TheVariants as end
use Rattle.spool_show.specs.Told.{DiskTold}
use Rattle.gemline_app.specs.Files.{FileRefuses, plan_refusal}
use Rattle.gemline_app.specs.LinkTold.{IsUncalled, LinkTold}
use Rattle.gemline_app.specs.Spool.{IsUnused}
use Rattle.gemline_app.specs.Gemline.{ComesOnInput, HexRefuses, TextRefuses, WasPrinted, WasShown, WasSpelled, WasWritten}
use Rattle.gemline_app.specs.Inputs.{InputRefuses, IsUnread}
use Rattle.gemline_app.specs.Laws.{IsCounted, is_disk_fault, is_file_fault, is_link_fault, is_read_fault, is_write_fault}
use Rattle.gemline_app.specs.Outcome.{outcome_of_show}
use Rattle.gemline_app.specs.Replay.{ReplayComes, ScheduleComes, ScheduleRefuses, ScheduleRuns, TextRuns, files_since, end_with, schedule_refusal}
use Rattle.gemline_app.specs.Written.{AreUnread, IsUntouched}
use Rattle.gemline_app.specs.declared.outcome.FileRole.{FileRole}
use Rattle.gemline_app.specs.declared.outcome.FileRole.TheVariants as role
use Rattle.gemline_app.specs.declared.outcome.Outcome.{Outcome}
use Rattle.gemline_app.specs.declared.outcome.Outcome.TheVariants.{Done, Usage, BadFrame, BadText, BadHex, BadItem, BadLine, Longer, FileLonger, FileFailed, ReadFailed, NoMemory, WriteFailed, TurnsSpent, NumbersSpent, Slip, DiskFailed, NotSpool, BadPlan, BadScript, LinkFailed, JournalFull}

-- what a run came to: a fault of each object is the outcome
pub record CountsAll (source : SourceTold) (files : FilesTold) (disk : DiskTold) (link : LinkTold) (out : SinkTold)
    (outcome : Outcome) : Type 0 where
  pub read : IsCounted (is_read_fault outcome) source.health.faults source.health_after.faults
  pub file : IsCounted (is_file_fault outcome) files.health.faults files.health_after.faults
  pub on_disk : IsCounted (is_disk_fault outcome) disk.health.faults disk.health_after.faults
  pub on_link : IsCounted (is_link_fault outcome) link.health.faults link.health_after.faults
  pub write : IsCounted (is_write_fault outcome) out.health.faults out.health_after.faults

-- ---- the output

-- what a command of its whole input came to: no fault of the input, of a file or of the disk
pub record CountsWrites (out : SinkTold) (outcome : Outcome) : Type 0 where
  pub read : is_read_fault outcome ≡ false
  pub file : is_file_fault outcome ≡ false
  pub on_disk : is_disk_fault outcome ≡ false
  pub on_link : is_link_fault outcome ≡ false
  pub write : IsCounted (is_write_fault outcome) out.health.faults out.health_after.faults

pub untouched : (out : SinkTold) → IsUntouched out → out.health_after.faults ≡ out.health.faults
untouched out is = ap (λ (h : SinkHealth). h.faults) is.health

by_show : (out : SinkTold) (result : Result Ending Stop) → HasStopCause out result
    → CountsWrites out (outcome_of_show result)
by_show out (Ok Whole) cause = record { read = refl; file = refl; on_disk = refl; on_link = refl; write = cause }
by_show out (Ok (Broken named)) cause =
    record { read = refl; file = refl; on_disk = refl; on_link = refl; write = cause }
by_show out (Err stop.NoMemory) cause =
    record { read = refl; file = refl; on_disk = refl; on_link = refl; write = cause }
by_show out (Err stop.WriteFailed) cause =
    record { read = refl; file = refl; on_disk = refl; on_link = refl; write = cause }

pub shown_counts : (capture : List ℕ) (out : SinkTold) (outcome : Outcome) → WasShown capture out outcome
    → CountsWrites out outcome
shown_counts capture out outcome was = subst (CountsWrites out) (sym was.outcome_is) (by_show out was.result was.cause)

written_counts : (line : List ℕ) (out : SinkTold) (outcome : Outcome) → WasWritten line out outcome
    → CountsWrites out outcome
written_counts line out Done was =
    record { read = refl; file = refl; on_disk = refl; on_link = refl; write = was.health.same }
written_counts line out Usage was = absurd was
written_counts line out (BadFrame named) was = absurd was
written_counts line out (BadText at) was = absurd was
written_counts line out (BadHex at) was = absurd was
written_counts line out (BadItem fault) was = absurd was
written_counts line out (BadLine number) was = absurd was
written_counts line out Longer was = absurd was
written_counts line out (FileLonger which) was = absurd was
written_counts line out (FileFailed which) was = absurd was
written_counts line out ReadFailed was = absurd was
written_counts line out NoMemory was = absurd was
written_counts line out WriteFailed was =
    record { read = refl; file = refl; on_disk = refl; on_link = refl; write = was.fault.rose }
written_counts line out TurnsSpent was = absurd was
written_counts line out NumbersSpent was = absurd was
written_counts line out DiskFailed was = absurd was
written_counts line out (NotSpool at) was = absurd was
written_counts line out Slip was = absurd was
written_counts line out (BadPlan key what) was = absurd was
written_counts line out (BadScript number) was = absurd was
written_counts line out LinkFailed was = absurd was
written_counts line out JournalFull was = absurd was

-- a refusal is no fault of an object
pub record IsPlain (outcome : Outcome) : Type 0 where
  pub read : is_read_fault outcome ≡ false
  pub file : is_file_fault outcome ≡ false
  pub on_disk : is_disk_fault outcome ≡ false
  pub on_link : is_link_fault outcome ≡ false
  pub write : is_write_fault outcome ≡ false

text_plain : (text : List ℕ) (refusal : Outcome) → TextRefuses text refusal → IsPlain refusal
text_plain text Done was = absurd was
text_plain text Usage was = absurd was
text_plain text (BadFrame named) was = absurd was
text_plain text (BadText at) was = record { read = refl; file = refl; on_disk = refl; on_link = refl; write = refl }
text_plain text (BadHex at) was = absurd was
text_plain text (BadItem fault) was = absurd was
text_plain text (BadLine number) was = absurd was
text_plain text Longer was = absurd was
text_plain text (FileLonger which) was = absurd was
text_plain text (FileFailed which) was = absurd was
text_plain text ReadFailed was = absurd was
text_plain text NoMemory was = record { read = refl; file = refl; on_disk = refl; on_link = refl; write = refl }
text_plain text WriteFailed was = absurd was
text_plain text TurnsSpent was = absurd was
text_plain text NumbersSpent was = absurd was
text_plain text DiskFailed was = absurd was
text_plain text (NotSpool at) was = absurd was
text_plain text Slip was = absurd was
text_plain text (BadPlan key what) was = absurd was
text_plain text (BadScript number) was = absurd was
text_plain text LinkFailed was = absurd was
text_plain text JournalFull was = absurd was

hex_plain : (digits : List ℕ) (refusal : Outcome) → HexRefuses digits refusal → IsPlain refusal
hex_plain digits Done was = absurd was
hex_plain digits Usage was = absurd was
hex_plain digits (BadFrame named) was = absurd was
hex_plain digits (BadText at) was = absurd was
hex_plain digits (BadHex at) was = record { read = refl; file = refl; on_disk = refl; on_link = refl; write = refl }
hex_plain digits (BadItem fault) was = record { read = refl; file = refl; on_disk = refl; on_link = refl; write = refl }
hex_plain digits (BadLine number) was = absurd was
hex_plain digits Longer was = absurd was
hex_plain digits (FileLonger which) was = absurd was
hex_plain digits (FileFailed which) was = absurd was
hex_plain digits ReadFailed was = absurd was
hex_plain digits NoMemory was = record { read = refl; file = refl; on_disk = refl; on_link = refl; write = refl }
hex_plain digits WriteFailed was = absurd was
hex_plain digits TurnsSpent was = absurd was
hex_plain digits NumbersSpent was = absurd was
hex_plain digits DiskFailed was = absurd was
hex_plain digits (NotSpool at) was = absurd was
hex_plain digits Slip was = absurd was
hex_plain digits (BadPlan key what) was = absurd was
hex_plain digits (BadScript number) was = absurd was
hex_plain digits LinkFailed was = absurd was
hex_plain digits JournalFull was = absurd was

pub plain_counts : (out : SinkTold) (outcome : Outcome) → IsPlain outcome → out.health_after.faults ≡ out.health.faults
    → CountsWrites out outcome
plain_counts out outcome plain stands = record {
  read = plain.read;
  file = plain.file;
  on_disk = plain.on_disk;
  on_link = plain.on_link;
  write = subst (λ (b : Bool). IsCounted b out.health.faults out.health_after.faults) (sym plain.write) stands;
}

pub spelled_counts : (text : List ℕ) (out : SinkTold) (outcome : Outcome) → WasSpelled text out outcome
    → CountsWrites out outcome
spelled_counts text out outcome (Ok line, answers, written) = written_counts line out outcome written
spelled_counts text out outcome (Err refusal, refuses, (is, left)) =
    plain_counts out outcome (subst IsPlain (sym is) (text_plain text refusal refuses)) (untouched out left)

pub printed_counts : (digits : List ℕ) (out : SinkTold) (outcome : Outcome) → WasPrinted digits out outcome
    → CountsWrites out outcome
printed_counts digits out outcome (Ok line, answers, written) = written_counts line out outcome written
printed_counts digits out outcome (Err refusal, refuses, (is, left)) =
    plain_counts out outcome (subst IsPlain (sym is) (hex_plain digits refusal refuses)) (untouched out left)

-- ---- the input

-- the files, the disk and the link stand
pub record OthersStand (files : FilesTold) (disk : DiskTold) (link : LinkTold) : Type 0 where
  pub file : files.health_after.faults ≡ files.health.faults
  pub on_disk : disk.health_after.faults ≡ disk.health.faults
  pub on_link : link.health_after.faults ≡ link.health.faults

module _ (source : SourceTold) (files : FilesTold) (disk : DiskTold) (link : LinkTold) (out : SinkTold) where
  pub unread_counts : (limit : ℕ) → OthersStand files disk link → out.health_after.faults ≡ out.health.faults
      → (outcome : Outcome) → InputRefuses limit source outcome
      → CountsAll source files disk link out outcome
  unread_counts limit stands left Done was = absurd was
  unread_counts limit stands left Usage was = absurd was
  unread_counts limit stands left (BadFrame named) was = absurd was
  unread_counts limit stands left (BadText at) was = absurd was
  unread_counts limit stands left (BadHex at) was = absurd was
  unread_counts limit stands left (BadItem fault) was = absurd was
  unread_counts limit stands left (BadLine number) was = absurd was
  unread_counts limit stands left Longer was = record {
    read = was.cause.same;
    file = stands.file;
    on_disk = stands.on_disk;
    on_link = stands.on_link;
    write = left;
  }
  unread_counts limit stands left (FileLonger which) was = absurd was
  unread_counts limit stands left (FileFailed which) was = absurd was
  unread_counts limit stands left ReadFailed was = record {
    read = was.cause.rose;
    file = stands.file;
    on_disk = stands.on_disk;
    on_link = stands.on_link;
    write = left;
  }
  unread_counts limit stands left NoMemory was = record {
    read = was.cause.same;
    file = stands.file;
    on_disk = stands.on_disk;
    on_link = stands.on_link;
    write = left;
  }
  unread_counts limit stands left WriteFailed was = absurd was
  unread_counts limit stands left TurnsSpent was = absurd was
  unread_counts limit stands left NumbersSpent was = absurd was
  unread_counts limit stands left DiskFailed was = absurd was
  unread_counts limit stands left (NotSpool at) was = absurd was
  unread_counts limit stands left Slip was = absurd was
  unread_counts limit stands left (BadPlan key what) was = absurd was
  unread_counts limit stands left (BadScript number) was = absurd was
  unread_counts limit stands left LinkFailed was = absurd was
  unread_counts limit stands left JournalFull was = absurd was

  -- the source, the files, the disk and the link stand
  pub written_only : (outcome : Outcome) → source.health_after.faults ≡ source.health.faults
      → OthersStand files disk link → CountsWrites out outcome
      → CountsAll source files disk link out outcome
  written_only outcome read stands counts = record {
    read = subst (λ (b : Bool). IsCounted b source.health.faults source.health_after.faults) (sym counts.read) read;
    file =
        subst (λ (b : Bool). IsCounted b files.health.faults files.health_after.faults) (sym counts.file) stands.file;
    on_disk =
        subst (λ (b : Bool). IsCounted b disk.health.faults disk.health_after.faults) (sym counts.on_disk)
        stands.on_disk;
    on_link =
        subst (λ (b : Bool). IsCounted b link.health.faults link.health_after.faults) (sym counts.on_link)
        stands.on_link;
    write = counts.write;
  }

  pub input_counts : (limit : ℕ) (Was : List ℕ → SinkTold → Outcome → Type 0) (outcome : Outcome)
      → OthersStand files disk link
      → ((bytes : List ℕ) → Was bytes out outcome → CountsWrites out outcome)
      → ComesOnInput limit Was source out outcome
      → CountsAll source files disk link out outcome
  input_counts limit Was outcome stands each (inl (refuses, left)) =
      unread_counts limit stands (untouched out left) outcome refuses
  input_counts limit Was outcome stands each (inr (bytes, read, was)) =
      written_only outcome read.cause.same stands (each bytes was)

-- ---- the files

-- what `replay` came to from here on: no fault of the input or of the disk
pub record CountsFiles (files : FilesTold) (out : SinkTold) (outcome : Outcome) : Type 0 where
  pub read : is_read_fault outcome ≡ false
  pub on_disk : is_disk_fault outcome ≡ false
  pub on_link : is_link_fault outcome ≡ false
  pub file : IsCounted (is_file_fault outcome) files.health.faults files.health_after.faults
  pub write : IsCounted (is_write_fault outcome) out.health.faults out.health_after.faults

pub file_refused : (which : FileRole) (name : List ℕ) (files : FilesTold) (out : SinkTold)
    → out.health_after.faults ≡ out.health.faults
    → (outcome : Outcome) → FileRefuses which name files outcome → CountsFiles files out outcome
file_refused which name files out left Done was = absurd was
file_refused which name files out left Usage was = absurd was
file_refused which name files out left (BadFrame named) was = absurd was
file_refused which name files out left (BadText at) was = absurd was
file_refused which name files out left (BadHex at) was = absurd was
file_refused which name files out left (BadItem fault) was = absurd was
file_refused which name files out left (BadLine number) was = absurd was
file_refused which name files out left Longer was = absurd was
file_refused which name files out left (FileLonger found) was =
    record { read = refl; on_disk = refl; on_link = refl; file = was.1.cause.same; write = left }
file_refused which name files out left (FileFailed found) was =
    record { read = refl; on_disk = refl; on_link = refl; file = was.1.cause.rose; write = left }
file_refused which name files out left ReadFailed was = absurd was
file_refused which name files out left NoMemory was =
    record { read = refl; on_disk = refl; on_link = refl; file = was.cause.same; write = left }
file_refused which name files out left WriteFailed was = absurd was
file_refused which name files out left TurnsSpent was = absurd was
file_refused which name files out left NumbersSpent was = absurd was
file_refused which name files out left DiskFailed was = absurd was
file_refused which name files out left (NotSpool at) was = absurd was
file_refused which name files out left Slip was = absurd was
file_refused which name files out left (BadPlan key what) was = absurd was
file_refused which name files out left (BadScript number) was = absurd was
file_refused which name files out left LinkFailed was = absurd was
file_refused which name files out left JournalFull was = absurd was

-- the files stand
stand_files : (files : FilesTold) (out : SinkTold) (outcome : Outcome)
    → files.health_after.faults ≡ files.health.faults → CountsWrites out outcome
    → CountsFiles files out outcome
stand_files files out outcome stands counts = record {
  read = counts.read;
  on_disk = counts.on_disk;
  on_link = counts.on_link;
  file = subst (λ (b : Bool). IsCounted b files.health.faults files.health_after.faults) (sym counts.file) stands;
  write = counts.write;
}

by_end : (full : Outcome) → IsPlain full → (out : SinkTold) (text : List ℕ) (how : WorldStep) (ended : RunEnd)
    → Runs out text how ended → CountsWrites out (end_with full ended)
by_end full plain out text how end.Whole (at, wrote) =
    record { read = refl; file = refl; on_disk = refl; on_link = refl; write = wrote.health.same }
by_end full plain out text how end.Slip (at, wrote) =
    record { read = refl; file = refl; on_disk = refl; on_link = refl; write = wrote.health.same }
by_end full plain out text how end.Turns (at, wrote) =
    record { read = refl; file = refl; on_disk = refl; on_link = refl; write = wrote.health.same }
by_end full plain out text how end.NumbersSpent (at, wrote) =
    record { read = refl; file = refl; on_disk = refl; on_link = refl; write = wrote.health.same }
by_end full plain out text how end.JournalFull (at, wrote) = plain_counts out full plain wrote.health.same
by_end full plain out text how end.NoMemory part =
    record { read = refl; file = refl; on_disk = refl; on_link = refl; write = part.wrote.health.same }
by_end full plain out text how end.WriteFailed short =
    record { read = refl; file = refl; on_disk = refl; on_link = refl; write = short.fault.rose }

left_of : (Outside : ℕ → Type 0) (out : SinkTold) (fault : ScheduleFault) → ScheduleRefuses Outside out fault
    → IsUntouched out
left_of Outside out (schedule_fault.Line number) (at, left) = left
left_of Outside out schedule_fault.NoMemory left = left

schedule_plain : (fault : ScheduleFault) → IsPlain (schedule_refusal fault)
schedule_plain (schedule_fault.Line number) =
    record { read = refl; file = refl; on_disk = refl; on_link = refl; write = refl }
schedule_plain schedule_fault.NoMemory =
    record { read = refl; file = refl; on_disk = refl; on_link = refl; write = refl }

runs_count :
    {S : Type 0} (Is : S → Type 0) (Outside : ℕ → Type 0) (Was : S → Type 0) (out : SinkTold) (outcome : Outcome)
    → ((schedule : S) → Was schedule → CountsWrites out outcome) → ScheduleRuns Is Outside Was out outcome
    → CountsWrites out outcome
runs_count Is Outside Was out outcome each runs = elim runs.because [
  | inl (schedule, is, was) ↦ each schedule was
  | inr (fault, refuses, is) ↦
      plain_counts out outcome (subst IsPlain (sym is) (schedule_plain fault))
      (untouched out (left_of Outside out fault refuses))
]

text_counts :
    (journal : Option ℕ) (plans : Plans) (text : List ℕ) (out : SinkTold) (outcome : Outcome)
    → TextRuns journal plans text out outcome → CountsWrites out outcome
text_counts None plans text out outcome runs =
    runs_count _ _ _ out outcome
    (λ schedule was.
    subst (CountsWrites out) (sym was.outcome_is)
    (by_end NoMemory (record { read = refl; file = refl; on_disk = refl; on_link = refl; write = refl }) out
    (trace_text plans schedule) (went_of plans schedule) was.ended was.wrote))
    runs
text_counts (Some slots) plans text out outcome runs =
    runs_count _ _ _ out outcome
    (λ schedule was.
    subst (CountsWrites out) (sym was.outcome_is)
    (by_end JournalFull (record { read = refl; file = refl; on_disk = refl; on_link = refl; write = refl }) out
    (journaled.trace_text plans slots schedule) (journaled.went_of plans slots schedule) was.ended was.wrote))
    runs

schedule_counts :
    (journal : Option ℕ) (plans : Plans) (name : List ℕ) (files : FilesTold) (out : SinkTold) (outcome : Outcome)
    → ScheduleComes journal plans name files out outcome → CountsFiles files out outcome
schedule_counts journal plans name files out outcome (inl (refuses, left)) =
    file_refused role.Schedule name files out (untouched out left) outcome refuses
schedule_counts journal plans name files out outcome (inr (text, was, runs)) =
    stand_files files out outcome was.cause.same (text_counts journal plans text out outcome runs)

-- from a moment before on, up to which the files stood
since_counts : (files later : FilesTold) (out : SinkTold) (outcome : Outcome)
    → later.health.faults ≡ files.health.faults
    → later.health_after ≡ files.health_after → CountsFiles later out outcome → CountsFiles files out outcome
since_counts files later out outcome since same counts = record {
  read = counts.read;
  on_disk = counts.on_disk;
  on_link = counts.on_link;
  file = subst (λ (n : ℕ). IsCounted (is_file_fault outcome) n files.health_after.faults) since
      (subst (λ (h : FilesHealth). IsCounted (is_file_fault outcome) later.health.faults h.faults) same counts.file);
  write = counts.write;
}

-- a plan was refused
pub plan_plain : (fault : ConfigFault) → IsPlain (plan_refusal fault)
plan_plain (plan_fault.Key key what) = record { read = refl; file = refl; on_disk = refl; on_link = refl; write = refl }
plan_plain plan_fault.NoMemory = record { read = refl; file = refl; on_disk = refl; on_link = refl; write = refl }

pub replay_counts : (journal : Option ℕ) (plan schedule : List ℕ) (files : FilesTold) (out : SinkTold) (outcome : Outcome)
    → ReplayComes journal plan schedule files out outcome
    → CountsFiles files out outcome
replay_counts journal plan schedule files out outcome (inl (inl refuses, left)) =
    file_refused role.Plan plan files out (untouched out left) outcome refuses
replay_counts journal plan schedule files out outcome (inl (inr bad, left)) =
    stand_files files out outcome bad.read.cause.same
    (plain_counts out outcome (subst IsPlain (sym bad.refused) (plan_plain bad.fault)) (untouched out left))
replay_counts journal plan schedule files out outcome (inr over) =
    since_counts files (files_since files over.told over.health) out outcome over.are.read.cause.same refl
    (schedule_counts journal over.plans schedule (files_since files over.told over.health) out outcome over.rest)

-- ---- a run

pub files_stand : (files : FilesTold) → AreUnread files → files.health_after.faults ≡ files.health.faults
files_stand files unread = ap (λ (h : FilesHealth). h.faults) unread.health

pub source_stands : (source : SourceTold) → IsUnread source → source.health_after.faults ≡ source.health.faults
source_stands source unread = ap (λ (h : SourceHealth). h.faults) unread.health

pub link_stands : (link : LinkTold) → IsUncalled link → link.health_after.faults ≡ link.health.faults
link_stands link uncalled = ap (λ (h : LinkHealth). h.faults) uncalled.health

pub others_stand : (files : FilesTold) (disk : DiskTold) (link : LinkTold) → AreUnread files → IsUnused disk
    → IsUncalled link → OthersStand files disk link
others_stand files disk link unread unused uncalled = record {
  file = files_stand files unread;
  on_disk = unused.faults;
  on_link = link_stands link uncalled;
}
