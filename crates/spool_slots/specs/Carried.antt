-- What carrying out a row of disk calls comes to, up to the first one that fails (this profile).
use Rattle.std.specs.Prelude.{◌≡◌, ℕ, ◌+◌, List, ◌∷◌, ◌++◌, fold, length, Option}
use Rattle.std.specs.Option.{option_map}
use Rattle.disk_base.specs.Calls.{DiskCall}
use Rattle.disk_base.specs.Disk.{Writes}
use Rattle.disk_base.specs.Faults.{IsPlanned}
use Rattle.disk_base.specs.Listed.{next_story}
use Rattle.disk_base.specs.Story.{Story}
use Rattle.disk_base.specs.declared.disk.CallKind.{CallKind}
use Rattle.disk_base.specs.declared.disk.CallKind.TheVariants.{Attach, Read, Write, Sync}
use Rattle.disk_base.specs.declared.disk.Disk as disk
use Rattle.disk_base.specs.declared.disk.DiskAnswer.{DiskAnswer}
use Rattle.disk_base.specs.declared.disk.DiskAnswer.TheVariants.{Done, Failed}
use Rattle.spool_file.specs.Logs.{answered, written_by}
use Rattle.spool_slots.specs.Changes.{HasMade}
use Rattle.spool_slots.specs.Losses.{IsSure}

-- the story behind calls that are done
abbrev pub story_behind : List DiskCall → Story → Story
story_behind calls s = fold next_story s calls

-- what a call of a kind that failed may have changed
abbrev pub FailsBy : CallKind → ℕ → List ℕ → Option Story → Option Story → Type 0
FailsBy Write at bytes before after = Writes before at bytes after Failed
FailsBy Sync at bytes before after = after ≡ before
FailsBy Read at bytes before after = after ≡ before
FailsBy Attach at bytes before after = after ≡ before

-- a call of the row failed, behind those before it, of which none was to fail; where none of the row was left out it was
-- to fail, and changed what its entry says
pub record IsStopped {D : Type 0} (members : disk.Ghosts D) (old new : D) (row : List DiskCall) : Type 0 where
  pub before : List DiskCall
  pub call : DiskCall
  pub rest : List DiskCall
  pub split : row ≡ before ++ call ∷ rest
  pub unplanned : IsPlanned (members.health old) (length before) → ⊥
  pub told : FailsBy call.kind call.at call.bytes (option_map (story_behind before) (members.told old)) (members.told new)
  pub planned : IsSure (members.health old) (members.health new) (length row) (written_by row) →
      IsPlanned (members.health old) (length before + 1)
  pub listed : IsSure (members.health old) (members.health new) (length row) (written_by row) →
      members.told new
      ≡ option_map (λ s. next_story (story_behind before s) (answered call Failed)) (members.told old)

abbrev pub Goes : {D : Type 0} → disk.Ghosts D → D → D → List DiskCall → DiskAnswer → Type 0
Goes members old new row Done = members.told new ≡ option_map (story_behind row) (members.told old)
Goes members old new row Failed = IsStopped members old new row

-- the calls of the row were made, as far as that went
pub record CarriesOut {D : Type 0} (members : disk.Ghosts D) (old new : D) (row : List DiskCall) (answer : DiskAnswer) :
    Type 0 where
  pub made : HasMade members old new row answer
  pub goes : Goes members old new row answer
