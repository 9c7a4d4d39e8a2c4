-- The log of a disk in memory, and what its calls come to (this profile).
use Rattle.std.specs.Prelude.{◌≡◌, ℕ, ◌+◌, ◌≤◌, min, max, List, [], ◌∷◌, length, take, drop, fold}
use Rattle.disk_base.specs.Story.{Story, settled_story, with_part}
use Rattle.disk_base.specs.Calls.{DiskCall}
use Rattle.disk_base.specs.Listed.{next_story}
use Rattle.disk_base.specs.declared.disk.CallKind.{CallKind}
use Rattle.disk_base.specs.declared.disk.CallKind.TheVariants.{Attach, Read, Write, Sync}
use Rattle.disk_base.specs.declared.disk.DiskAnswer.{DiskAnswer}
use Rattle.disk_base.specs.declared.disk.DiskAnswer.TheVariants.{Done, Failed}
use Rattle.disk_base.specs.declared.log.LoggedCall.{LoggedCall}

-- a logged call with its bytes
abbrev pub call_of : LoggedCall → List ℕ → DiskCall
call_of entry bytes = record {
  kind = entry.kind;
  at = entry.at;
  size = entry.size;
  bytes = bytes;
  answer = entry.answer;
}

-- the calls of a log, whose bytes stand one behind the other
abbrev pub calls_of : List LoggedCall → List ℕ → List DiskCall
calls_of [] written = []
calls_of (entry ∷ entries) written =
    call_of entry (take entry.count written) ∷ calls_of entries (drop entry.count written)

-- the bytes of each call are there, and lie within the disk
abbrev pub AreWithin : ℕ → List LoggedCall → List ℕ → Type 0
AreWithin size [] written = Unit {0}
AreWithin size (entry ∷ entries) written =
    (entry.count ≤ length written) × (entry.at + entry.count ≤ size) × AreWithin size entries (drop entry.count written)

-- and no others
abbrev pub AreLogged : ℕ → List LoggedCall → List ℕ → Type 0
AreLogged size [] written = written ≡ []
AreLogged size (entry ∷ entries) written =
    (entry.count ≤ length written) × (entry.at + entry.count ≤ size) × AreLogged size entries (drop entry.count written)

-- the ranges alone lie within the disk
abbrev pub AreSized : ℕ → List LoggedCall → Type 0
AreSized size [] = Unit {0}
AreSized size (entry ∷ entries) = (entry.at + entry.count ≤ size) × AreSized size entries

-- what a call writes lies from a place on, and before another
abbrev pub IsHeld : ℕ → ℕ → CallKind → ℕ → ℕ → Type 0
IsHeld low high Write at count = (low ≤ at) × (at + count ≤ high)
IsHeld low high Attach at count = Unit {0}
IsHeld low high Read at count = Unit {0}
IsHeld low high Sync at count = Unit {0}

abbrev pub AreHeld : ℕ → ℕ → List LoggedCall → Type 0
AreHeld low high [] = Unit {0}
AreHeld low high (entry ∷ entries) = IsHeld low high entry.kind entry.at entry.count × AreHeld low high entries

-- the lowest place and the end of a range and of what a call writes
abbrev pub hull_under : CallKind → ℕ → ℕ → ℕ × ℕ → ℕ × ℕ
hull_under Write at count hull = (min hull.0 at, max hull.1 (at + count))
hull_under Attach at count hull = hull
hull_under Read at count hull = hull
hull_under Sync at count hull = hull

abbrev pub hull_behind : ℕ × ℕ → LoggedCall → ℕ × ℕ
hull_behind hull entry = hull_under entry.kind entry.at entry.count hull

-- a write changes bytes, and no other call does
abbrev pub bytes_under : CallKind → ℕ → List ℕ → List ℕ → List ℕ
bytes_under Write at part bytes = with_part bytes at part
bytes_under Attach at part bytes = bytes
bytes_under Read at part bytes = bytes
bytes_under Sync at part bytes = bytes

abbrev pub bytes_after : List ℕ → DiskCall → List ℕ
bytes_after bytes call = bytes_under call.kind call.at call.bytes bytes

-- it makes its range loose
abbrev pub loose_under : CallKind → ℕ → ℕ → List (ℕ × ℕ) → List (ℕ × ℕ)
loose_under Write at count loose = (at, count) ∷ loose
loose_under Attach at count loose = loose
loose_under Read at count loose = loose
loose_under Sync at count loose = loose

abbrev pub loose_after : List (ℕ × ℕ) → DiskCall → List (ℕ × ℕ)
loose_after loose call = loose_under call.kind call.at (length call.bytes) loose

-- the same of a logged call
abbrev pub loose_behind : List (ℕ × ℕ) → LoggedCall → List (ℕ × ℕ)
loose_behind loose entry = loose_under entry.kind entry.at entry.count loose

-- the story of these calls, on a disk that began with these bytes
abbrev pub story_of : List ℕ → List DiskCall → Story
story_of base calls = fold next_story (settled_story base) calls

-- which of two numbers of calls lie before the last good sync, the second one being that of all calls
abbrev pub count_if_done : DiskAnswer → ℕ → ℕ → ℕ
count_if_done Done before all = all
count_if_done Failed before all = before

abbrev pub settled_count : CallKind → DiskAnswer → ℕ → ℕ → ℕ
settled_count Sync answer before all = count_if_done answer before all
settled_count Attach answer before all = before
settled_count Read answer before all = before
settled_count Write answer before all = before
