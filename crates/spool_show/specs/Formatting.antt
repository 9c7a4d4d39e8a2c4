-- What making a spool file comes to (this profile).
use Rattle.std.specs.Prelude.{◌≡◌, ◌⊎◌, ℕ, ◌+◌, ◌<◌, List, [], Option}
use Rattle.disk_base.specs.Calls.{DiskCall}
use Rattle.disk_base.specs.Disk.{TellsAsBefore}
use Rattle.disk_base.specs.Faults.{DiskHealth, HasCause}
use Rattle.disk_base.specs.Story.{Story}
use Rattle.disk_base.specs.declared.disk.CallKind.TheVariants.{Attach}
use Rattle.disk_base.specs.declared.disk.DiskAnswer.{DiskAnswer}
use Rattle.disk_base.specs.declared.disk.DiskAnswer.TheVariants as answer
use Rattle.gl_base.specs.Sending.{WroteShort, WroteText}
use Rattle.gl_base.specs.Told.{SinkTold}
use Rattle.spool_show.specs.Showing.{HasFile}
use Rattle.spool_show.specs.Text.{formatted_line}
use Rattle.spool_show.specs.Told.{DiskTold}
use Rattle.spool_show.specs.declared.spool_end.SpoolEnd.{SpoolEnd}
use Rattle.spool_show.specs.declared.spool_end.SpoolEnd.TheVariants.{Done, DiskFailed, WriteFailed}
use Rattle.spool_file.specs.Added.{OnlyAdds, WritesOrSyncs}
use Rattle.spool_file.specs.Format.{StandsEmpty}
use Rattle.spool_file.specs.Setup.{area_end}
use Rattle.spool_slots.specs.declared.states.Formatting.{Formatting}
use Rattle.spool_slots.specs.declared.states.Formatting.TheVariants as formatting

-- the device that a refusal holds
abbrev pub unformatted_disk : {D : Type 0} → Formatting D → D
unformatted_disk (formatting.Slots raw) = raw.disk
unformatted_disk (formatting.Small raw size need) = raw.disk
unformatted_disk (formatting.Failed spent) = spent.disk

-- the line was written, or a part of it
abbrev pub WritesFormatted : ℕ → SinkTold → SpoolEnd → Type 0
WritesFormatted slots out Done = WroteText out (formatted_line slots)
WritesFormatted slots out WriteFailed = WroteShort out (formatted_line slots)
WritesFormatted slots out _ = ⊥

-- an empty list stands, with mark 0, all of it settled, and then the line was to go out; or the disk failed, and
-- nothing was written
abbrev pub MakesSpool : ℕ → Option Story → SinkTold → SpoolEnd → Type 0
MakesSpool slots after out DiskFailed = WroteText out []
MakesSpool slots after out end = StandsEmpty after slots answer.Done × WritesFormatted slots out end

-- what the calls of a disk came to, by such an end
abbrev pub answer_by : SpoolEnd → DiskAnswer
answer_by DiskFailed = answer.Failed
answer_by _ = answer.Done

-- a disk lacks what making the file takes: the bytes of the file, or room for those that are written
abbrev pub LacksRoom : ℕ → ℕ → DiskHealth → Type 0
LacksRoom slots size health = (size < area_end slots) ⊎ (health.room < slots + 528384)

-- an attaching, a page, a byte a slot, an area in 32 parts and a sync: no other call is made. The disk fails where one
-- of these is to fail, where there is no room for them, or where it has fewer bytes than the file; with none of these
-- it doesn't
abbrev pub FailsByCause : ℕ → DiskTold → SpoolEnd → Type 0
FailsByCause slots disk end = HasCause disk.health disk.health_after (slots + 35) (slots + 528384)
    (LacksRoom slots disk.size disk.health) (answer_by end)

-- an attaching that asks for this size and no other, or a call that makes the file
abbrev pub AsksForSize : ℕ → DiskCall → Type 0
AsksForSize size call = ((call.kind ≡ Attach) × (call.size ≡ size)) ⊎ WritesOrSyncs call

-- what came of the file of this name
pub record FormatsSpool (name : List ℕ) (slots : ℕ) (disk : DiskTold) (out : SinkTold) (end : SpoolEnd) : Type 0 where
  pub file : HasFile name disk.file disk.file_after end
  pub made : MakesSpool slots disk.after out end
  pub tells : TellsAsBefore disk.before disk.after
  pub cause : FailsByCause slots disk end
  pub asks : OnlyAdds (AsksForSize (area_end slots)) disk.calls disk.calls_after
