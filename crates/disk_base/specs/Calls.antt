-- The calls that were made on a disk (this profile).
use Rattle.std.specs.Prelude.{◌≡◌, ◌⊎◌, ℕ, List, [], ◌∷◌, ◌++◌, length, Option}
use Rattle.std.specs.List.{sum_by}
use Rattle.std.specs.Option.{option_map}
use Rattle.disk_base.specs.declared.disk.CallKind.{CallKind}
use Rattle.disk_base.specs.declared.disk.CallKind.TheVariants.{Attach, Read, Write, Sync}
use Rattle.disk_base.specs.declared.disk.DiskAnswer.{DiskAnswer}
use Rattle.disk_base.specs.declared.disk.DiskAnswer.TheVariants.{Done, Failed}

-- a call: its kind, its range, the bytes that it was to write, and its answer
pub record DiskCall : Type 0 where
  pub kind : CallKind
  pub at : ℕ
  pub size : ℕ
  pub bytes : List ℕ
  pub answer : DiskAnswer

-- how many bytes calls write
abbrev pub written_of : List DiskCall → ℕ
written_of calls = sum_by (λ call. length call.bytes) calls

-- an attaching has as its size the one that it asked for
abbrev pub attach_call : ℕ → DiskAnswer → DiskCall
attach_call grow answer = record { kind = Attach; at = 0; size = grow; bytes = []; answer = answer }

abbrev pub read_call : ℕ → ℕ → DiskAnswer → DiskCall
read_call at size answer = record { kind = Read; at = at; size = size; bytes = []; answer = answer }

abbrev pub write_call : ℕ → List ℕ → DiskAnswer → DiskCall
write_call at bytes answer = record { kind = Write; at = at; size = length bytes; bytes = bytes; answer = answer }

abbrev pub sync_call : DiskAnswer → DiskCall
sync_call answer = record { kind = Sync; at = 0; size = 0; bytes = []; answer = answer }

-- the list of calls with one more, where it is told
abbrev pub with_call : DiskCall → Option (List DiskCall) → Option (List DiskCall)
with_call call calls = option_map (λ before. before ++ call ∷ []) calls

-- a call is in the list with its answer; one that failed may be missing where it was left out
abbrev pub Logs : (DiskAnswer → DiskCall) → Type 0 → Option (List DiskCall) → Option (List DiskCall) → DiskAnswer →
    Type 0
Logs call LeftOut before after Done = after ≡ with_call (call Done) before
Logs call LeftOut before after Failed = (LeftOut × (after ≡ before)) ⊎ (after ≡ with_call (call Failed) before)
