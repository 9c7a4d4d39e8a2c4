-- Some calls of a disk in a row, up to the first that fails (this profile).
use Rattle.std.specs.Prelude.{◌≡◌, ◌⊎◌, ℕ, zero, suc, ◌+◌, ◌<◌, List, [], ◌∷◌, ◌++◌, length, Option}
use Rattle.disk_base.specs.Calls.{DiskCall, Logs, with_call}
use Rattle.disk_base.specs.Faults.{DiskHealth, HasCause, IsLeftOut}
use Rattle.disk_base.specs.declared.disk.DiskAnswer.{DiskAnswer}
use Rattle.disk_base.specs.declared.disk.DiskAnswer.TheVariants.{Done, Failed}

-- the same call with another answer
abbrev pub answered : DiskCall → DiskAnswer → DiskCall
answered call answer = record call { answer = answer }

-- the calls of the first n steps, each of which has its own
abbrev pub calls_below : (ℕ → List DiskCall) → ℕ → List DiskCall
calls_below calls zero = []
calls_below calls (suc n) = calls_below calls n ++ calls n

-- how many bytes calls write
abbrev pub written_by : List DiskCall → ℕ
written_by [] = 0
written_by (call ∷ calls) = length call.bytes + written_by calls

-- calls, here as they are when they are done, are in the list; where one of them failed, it is the last one there, and
-- may be missing where it was left out, by how many were made before it and how many bytes they write with it
abbrev pub LogsAll : List DiskCall → (ℕ → ℕ → Type 0) → Option (List DiskCall) → Option (List DiskCall) → DiskAnswer →
    Type 0
LogsAll [] LeftOut before after Done = after ≡ before
LogsAll [] LeftOut before after Failed = ⊥
LogsAll (call ∷ calls) LeftOut before after Done = LogsAll calls LeftOut (with_call call before) after Done
LogsAll (call ∷ calls) LeftOut before after Failed =
    Logs (answered call) (LeftOut 0 (length call.bytes)) before after Failed
    ⊎ LogsAll calls (λ made n. LeftOut (1 + made) (length call.bytes + n)) (with_call call before) after Failed

-- all of these calls were done, or up to one that failed
pub record MakesAll (before now : DiskHealth) (listed listed_now : Option (List DiskCall)) (calls : List DiskCall)
    (answer : DiskAnswer) : Type 0 where
  pub cause : HasCause before now (length calls) (written_by calls) (before.room < written_by calls) answer
  pub logs : LogsAll calls (IsLeftOut before now) listed listed_now answer
