-- Counts of faults of a disk (this profile).
use Rattle.std.specs.Prelude.{◌≡◌, ◌⊎◌, Bool, true, false, ℕ, ◌+◌, ◌-◌, ◌^◌, ◌<◌, ◌≤◌, min}
use Rattle.disk_base.specs.declared.disk.DiskAnswer.{DiskAnswer}
use Rattle.disk_base.specs.declared.disk.DiskAnswer.TheVariants.{Done, Failed}

-- a count with one more; it stands at its end, 2^64 - 1
abbrev pub one_more : ℕ → ℕ
one_more before = min (before + 1) (2 ^ 64 - 1)

-- one fault more was counted, and none was taken back
pub record Rose (before now : ℕ) : Type 0 where
  pub by_one : now ≡ one_more before
  pub later : before ≤ now

-- how many faults were counted; how many calls were made and listed, up to one at which the disk stopped; for how many
-- calls, and for how many bytes that they write, there is room at all, and for how many more there is for sure; how
-- many calls are left up to one that is to fail alone, and up to one from which on all are to fail, themselves counted,
-- 0 for none; whether the latter was made; and whether a write that fails before changes what it was to write, and
-- nothing else
pub record DiskHealth : Type 0 where
  pub faults : ℕ
  pub made : ℕ
  pub bounds : ℕ × ℕ
  pub calls : ℕ
  pub room : ℕ
  pub fail_in : ℕ
  pub stop_in : ℕ
  pub stopped : Bool
  pub exact : Bool

-- each call that is listed comes to what its entry says, also a write that fails: the disk is such a one, and it goes
-- on
pub record GoesAsListed (health : DiskHealth) : Type 0 where
  pub exact : health.exact ≡ true
  pub on : health.stopped ≡ false

-- this one is among so many calls
abbrev pub IsAmong : ℕ → ℕ → Type 0
IsAmong place calls = (0 < place) × (place ≤ calls)

-- one of so many calls is to fail
abbrev pub IsPlanned : DiskHealth → ℕ → Type 0
IsPlanned health calls =
    IsAmong health.fail_in calls ⊎ (IsAmong health.stop_in calls ⊎ ((health.stopped ≡ true) × (0 < calls)))

-- there is no sure room for so many calls that write n bytes
abbrev pub IsCrowded : DiskHealth → ℕ → ℕ → Type 0
IsCrowded health calls n = (health.calls < calls) ⊎ (health.room < n)

-- a call isn't listed, behind so many that were made, none of which was to fail: there was no sure room for it, where
-- all of them write n bytes, and the disk hasn't stopped at it, but does so at the next one if it was to
pub record IsLeftOut (before now : DiskHealth) (made n : ℕ) : Type 0 where
  pub unplanned : IsPlanned before made → ⊥
  pub crowded : IsCrowded before (made + 1) n
  pub going : now.stopped ≡ before.stopped
  pub waits : before.stop_in ≡ made + 1 → now.stop_in ≡ 1

-- one fault was counted: of this many calls some first ones were made, none of which was to fail, and the next one
-- failed, where it was to fail, or where there was no sure room for it, or where something else was lacking. A disk
-- that had stopped is so still, and one stops at the call that was to stop it and nowhere else, which is the last one
-- that it has made; there is room for no more than before
pub record DiskFault (before now : DiskHealth) (calls : ℕ) (Lacking : Type 0) : Type 0 where
  pub rose : Rose before.faults now.faults
  pub made : ℕ
  pub few : made < calls
  pub unplanned : IsPlanned before made → ⊥
  pub lacking : made < before.calls → IsPlanned before (made + 1) ⊎ Lacking
  pub stays : before.stopped ≡ true → now.stopped ≡ true
  pub stops : now.stopped ≡ true → (before.stopped ≡ true) ⊎ (before.stop_in ≡ made + 1)
  pub last : GoesAsListed before → now.stopped ≡ true → now.made ≡ before.made + (made + 1)
  pub bounds_kept : now.bounds ≡ before.bounds
  pub calls_kept : now.calls ≤ before.calls
  pub room_kept : now.room ≤ before.room

-- the count of faults stands, this many calls that write n bytes use up no more than their room and add none, or just
-- that where they come to what they say, and each of them was made: none was to fail, and those that are to do so have
-- come nearer by as many
pub record IsUsed (before now : DiskHealth) (calls n : ℕ) : Type 0 where
  pub same : now.faults ≡ before.faults
  pub calls_left : before.calls ≤ now.calls + calls
  pub room_left : before.room ≤ now.room + n
  pub calls_kept : now.calls ≤ before.calls
  pub room_kept : now.room ≤ before.room
  pub fail_left : now.fail_in ≡ before.fail_in - calls
  pub stop_left : now.stop_in ≡ before.stop_in - calls
  pub unplanned : IsPlanned before calls → ⊥
  pub going : now.stopped ≡ before.stopped
  pub exact : now.exact ≡ before.exact
  pub counted : GoesAsListed before → now.made ≡ before.made + calls
  pub room_is : GoesAsListed before → before.room ≡ now.room + n
  pub bounds_kept : now.bounds ≡ before.bounds

-- a fault is counted where one of this many calls fails, which write n bytes, and nowhere else
abbrev pub HasCause : DiskHealth → DiskHealth → ℕ → ℕ → Type 0 → DiskAnswer → Type 0
HasCause before now calls n Lacking Done = IsUsed before now calls n
HasCause before now calls n Lacking Failed = DiskFault before now calls Lacking
