-- What closing the first message's slot comes to, and writing version 2, as rows of calls (this profile).
use Rattle.std.specs.Prelude.{◌≡◌, ◌⊎◌, ℕ, ◌+◌, List, [], ◌∷◌, Option, Some}
use Rattle.std.specs.Int.{w32, from_be_bytes}
use Rattle.disk_base.specs.Calls.{DiskCall, read_call}
use Rattle.disk_base.specs.Story.{Story, bytes_at}
use Rattle.disk_base.specs.declared.disk.Disk as disk
use Rattle.disk_base.specs.declared.disk.DiskAnswer.{DiskAnswer}
use Rattle.disk_base.specs.declared.disk.DiskAnswer.TheVariants.{Done, Failed}
use Rattle.spool_slots.specs.Calls.{byte_calls}
use Rattle.spool_slots.specs.Carried.{CarriesOut}
use Rattle.spool_slots.specs.declared.drops.Closing.{Closing}
use Rattle.spool_slots.specs.declared.drops.Closing.TheVariants as closing

-- a row of calls failed; or it was done, and then another one, as far as that went
pub record FailsFirst {D : Type 0} (members : disk.Ghosts D) (old new : D) (row : List DiskCall) (answer : DiskAnswer) :
    Type 0 where
  pub failed : answer ≡ Failed
  pub first : CarriesOut members old new row Failed

pub record GoesOn {D : Type 0} (members : disk.Ghosts D) (old new : D) (row more : List DiskCall) (answer : DiskAnswer) :
    Type 0 where
  pub mid : D
  pub first : CarriesOut members old mid row Done
  pub then_more : CarriesOut members mid new more answer

abbrev pub GoesBoth : {D : Type 0} → disk.Ghosts D → (old new : D) → (row more : List DiskCall) → DiskAnswer → Type 0
GoesBoth members old new row more answer =
    FailsFirst members old new row answer ⊎ GoesOn members old new row more answer

-- ---- the first message's slot

-- whether the disk failed
abbrev pub closing_answer : Closing → DiskAnswer
closing_answer (closing.Closed len) = Done
closing_answer closing.Failed = Failed

-- the length that stands in the slot at a place, and its read
abbrev pub len_told : Option Story → (at len : ℕ) → Type 0
len_told told at len = (s : Story) → told ≡ Some s → len ≡ from_be_bytes w32 (bytes_at s.now.bytes (at + 11) 4)

abbrev pub len_look : ℕ → List DiskCall
len_look at = read_call (at + 11) 4 Done ∷ []

abbrev pub SeesLen : Option Story → (at : ℕ) → Closing → Type 0
SeesLen told at (closing.Closed len) = len_told told at len
SeesLen told at closing.Failed = Unit {0}

pub record HasReadLen {D : Type 0} (members : disk.Ghosts D) (old new : D) (at : ℕ) (answer : Closing) : Type 0 where
  pub seen : SeesLen (members.told old) at answer
  pub row : CarriesOut members old new (len_look at) (closing_answer answer)

-- it was read, and the gate was closed
pub record HasClosed {D : Type 0} (members : disk.Ghosts D) (old new : D) (at : ℕ) (answer : Closing) : Type 0 where
  pub seen : SeesLen (members.told old) at answer
  pub goes : GoesBoth members old new (len_look at) (byte_calls at 0) (closing_answer answer)

-- ---- version 2

-- the gate of the version was written, and then the last letter of the name
abbrev pub WritesVersion : {D : Type 0} → disk.Ghosts D → (old new : D) → DiskAnswer → Type 0
WritesVersion members old new answer = GoesBoth members old new (byte_calls 46 1) (byte_calls 7 50) answer
