-- A disk in memory (this profile).
use Rattle.std.specs.Prelude.{◌≡◌, ℕ, ◌+◌, ◌-◌, ◌≤◌, Bool, true, false, ◌||◌, nat_le, nat_lt, List, [], ◌∷◌, ◌++◌, length, take}
use Rattle.std.specs.Prelude.{Option, None, if◌then◌else◌}
use Rattle.disk_base.specs.Calls.{DiskCall, attach_call, read_call, sync_call, write_call, written_of}
use Rattle.disk_base.specs.Cut.{image_of}
use Rattle.disk_base.specs.Disk.{file_behind}
use Rattle.disk_base.specs.Faults.{DiskHealth, one_more}
use Rattle.disk_base.specs.Listed.{next_story}
use Rattle.disk_base.specs.Plan.{next_answer, next_plan, no_faults, refused_plan, stops_next}
use Rattle.disk_base.specs.Story.{Story, settled_story}
use Rattle.disk_base.specs.declared.cut.CutChoice.{CutChoice}
use Rattle.disk_base.specs.declared.disk.CallKind.{CallKind}
use Rattle.disk_base.specs.declared.disk.CallKind.TheVariants.{Attach, Read, Write, Sync}
use Rattle.disk_base.specs.declared.disk.DiskAnswer.{DiskAnswer}
use Rattle.disk_base.specs.declared.disk.DiskAnswer.TheVariants.{Done, Failed}
use Rattle.disk_base.specs.declared.fault_plan.FaultPlan.{FaultPlan}

-- the bytes of every moment, the list of calls, how many of them were made up to one at which the disk stopped, how
-- many bytes they were to write, for how many calls and such bytes the list has room, and for how many more at that one
-- call, which calls to come fail, the count of faults, and the name of the file
pub record DiskState : Type 0 where
  pub story : Story
  pub calls : List DiskCall
  pub made : ℕ
  pub used : ℕ
  pub most : ℕ
  pub room : ℕ
  pub spare : ℕ × ℕ
  pub plan : FaultPlan
  pub faults : ℕ
  pub file : Option (List ℕ)

-- settled bytes, no call yet, and no file
abbrev pub disk_with : List ℕ → ℕ → ℕ → ℕ × ℕ → DiskState
disk_with bytes most room spare = record {
  story = settled_story bytes;
  calls = [];
  made = 0;
  used = 0;
  most = most;
  room = room;
  spare = spare;
  plan = no_faults;
  faults = 0;
  file = None;
}

abbrev pub disk_size : DiskState → ℕ
disk_size s = length s.story.now.bytes

abbrev pub disk_health : DiskState → DiskHealth
disk_health s = record {
  faults = s.faults;
  made = s.made;
  bounds = (s.most, s.room);
  calls = s.most - length s.calls;
  room = s.room - s.used;
  fail_in = s.plan.fail_in;
  stop_in = s.plan.stop_in;
  stopped = s.plan.stopped;
  exact = true;
}

-- the room that the list has beyond its bounds for the next call, which is what it has to spare if the disk is to stop
-- there
abbrev pub spare_if : Bool → ℕ × ℕ → ℕ × ℕ
spare_if true spare = spare
spare_if false spare = (0, 0)

abbrev pub spare_now : DiskState → ℕ × ℕ
spare_now s = spare_if (stops_next s.plan) s.spare

-- it has no room for one more call that writes n bytes
abbrev pub is_full : ℕ → DiskState → Bool
is_full n s = nat_le (s.most + (spare_now s).0) (length s.calls) || nat_lt (s.room + (spare_now s).1 - s.used) n

-- what a call answers for which the list has room: as planned, but an attaching fails that asks for more bytes than
-- there are
abbrev pub answer_planned : CallKind → ℕ → ℕ → DiskAnswer → DiskAnswer
answer_planned Attach grow held planned = if nat_lt held grow then Failed else planned
answer_planned Read size held planned = planned
answer_planned Write size held planned = planned
answer_planned Sync size held planned = planned

abbrev pub answer_due : CallKind → ℕ → DiskState → DiskAnswer
answer_due kind size s = answer_planned kind size (disk_size s) (next_answer s.plan)

-- what a call answers that has this answer where the list has room
abbrev pub answer_of : DiskCall → DiskState → DiskAnswer
answer_of call s = if is_full (length call.bytes) s then Failed else call.answer

-- a call that isn't in the list: it isn't made, and the disk doesn't stop at it
abbrev pub after_refusal : DiskState → DiskState
after_refusal s = record s { plan = refused_plan s.plan; faults = one_more s.faults }

abbrev pub faults_after : DiskAnswer → ℕ → ℕ
faults_after Done faults = faults
faults_after Failed faults = one_more faults

-- a call that is in the list; it changes nothing where the disk has stopped before it
abbrev pub after_entry : DiskCall → DiskState → DiskState
after_entry call s = record s {
  story = if s.plan.stopped then s.story else next_story s.story call;
  calls = s.calls ++ call ∷ [];
  made = if s.plan.stopped then s.made else s.made + 1;
  used = s.used + length call.bytes;
  plan = next_plan s.plan;
  faults = faults_after call.answer s.faults;
}

-- the disk after a call, with the answer that it gave
abbrev pub after_call : DiskCall → DiskState → DiskState
after_call call s = if is_full (length call.bytes) s then after_refusal s else after_entry call s

-- the disk after an attaching, with the answer that it gave
abbrev pub after_attaching : List ℕ → DiskCall → DiskState → DiskState
after_attaching file call s = record (after_call call s) { file = file_behind file (answer_of call s) s.file }

-- a call as it comes into the list
abbrev pub call_due : CallKind → ℕ → ℕ → List ℕ → DiskState → DiskCall
call_due kind at size bytes s = record {
  kind = kind;
  at = at;
  size = size;
  bytes = bytes;
  answer = answer_due kind size s;
}

abbrev pub next_attach : ℕ → DiskState → DiskCall
next_attach grow s = attach_call grow (answer_due Attach grow s)

abbrev pub next_read : ℕ → ℕ → DiskState → DiskCall
next_read at size s = read_call at size (next_answer s.plan)

abbrev pub next_write : ℕ → List ℕ → DiskState → DiskCall
next_write at bytes s = write_call at bytes (next_answer s.plan)

abbrev pub next_sync : DiskState → DiskCall
next_sync s = sync_call (next_answer s.plan)

-- the disk after a crash, whose list has the same bounds
abbrev pub after_cut : CutChoice → DiskState → DiskState
after_cut choice s = disk_with (image_of choice s.story) s.most s.room s.spare

-- ---- what is in the list

-- what is listed found room; of a disk that stopped this is said of the calls before the one at which it did
pub record HasFitted (s : DiskState) : Type 0 where
  pub used : s.used ≡ written_of s.calls
  pub within : s.made ≤ length s.calls
  pub going : s.plan.stopped ≡ false → (s.made ≡ length s.calls) × (length s.calls ≤ s.most) × (s.used ≤ s.room)
  pub stopped : s.plan.stopped ≡ true → (s.made - 1 ≤ s.most) × (written_of (take (s.made - 1) s.calls) ≤ s.room)
