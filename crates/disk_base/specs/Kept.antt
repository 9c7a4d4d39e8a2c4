-- What a disk in memory keeps (this profile).
use Rattle.std.specs.Prelude.{◌≡◌, ℕ, ◌+◌, ◌-◌, ◌≤◌, true, false, List, [], length, take, drop, fold, vec_capacity, vec_len}
use Rattle.disk_base.specs.Calls.{DiskCall, written_of}
use Rattle.disk_base.specs.Cut.{settled_bytes}
use Rattle.disk_base.specs.Log.{AreLogged, bytes_after, calls_of, loose_after, story_of}
use Rattle.disk_base.specs.MemDisk.{DiskState}
use Rattle.disk_base.specs.declared.mem_disk.MemDisk.TheInside.{Inside}

-- the calls that were made before the disk stopped, or as it stopped
abbrev pub effective_calls : Inside → List DiskCall
effective_calls d = take d.live (calls_of d.entries.items d.written.items)

abbrev pub disk_state : Inside → DiskState
disk_state d = record {
  story = story_of d.base.items (effective_calls d);
  calls = calls_of d.entries.items d.written.items;
  made = d.live;
  used = vec_len d.written;
  most = d.most;
  room = d.room;
  spare = (d.spare_calls, d.spare_bytes);
  plan = d.plan;
  faults = d.faults;
  file = d.file.name;
}

-- the bytes now, the settled bytes and the loose ranges of the story of these calls are those after the calls, after
-- the first ones that the last good sync has settled, and of the others
pub record IsSettled (base now : List ℕ) (calls : List DiskCall) (synced : ℕ) : Type 0 where
  pub within : synced ≤ length calls
  pub bytes : (story_of base calls).now.bytes ≡ now
  pub settled : fold bytes_after base (take synced calls) ≡ settled_bytes (story_of base calls)
  pub loose : fold loose_after [] (drop synced calls) ≡ (story_of base calls).now.loose

pub record IsMemDisk (d : Inside) : Type 0 where
  pub long : length d.base.items ≡ length d.bytes.items
  pub logged : AreLogged (length d.bytes.items) d.entries.items d.written.items
  pub entries : vec_len d.entries ≤ d.most + d.spare_calls
  pub entries_room : d.most + d.spare_calls ≤ vec_capacity d.entries
  pub written : vec_len d.written ≤ d.room + d.spare_bytes
  pub written_room : d.room + d.spare_bytes ≤ vec_capacity d.written
  pub live : d.live ≤ length d.entries.items
  pub all : d.plan.stopped ≡ false → d.live ≡ length d.entries.items
  pub settled : IsSettled d.base.items d.bytes.items (effective_calls d) d.synced
  -- what is listed found room, up to the call at which it stopped
  pub fits : d.plan.stopped ≡ false → (vec_len d.entries ≤ d.most) × (vec_len d.written ≤ d.room)
  pub fitted : d.plan.stopped ≡ true → (d.live - 1 ≤ d.most)
      × (written_of (take (d.live - 1) (calls_of d.entries.items d.written.items)) ≤ d.room)
