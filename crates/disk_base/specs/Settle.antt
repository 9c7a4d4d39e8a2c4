-- What a write with its sync changes on a disk (this profile).
use Rattle.std.specs.Prelude.{◌≡◌, ◌⊎◌, ℕ, List, Option, length}
use Rattle.std.specs.Option.{option_map}
use Rattle.disk_base.specs.Calls.{DiskCall, Logs, sync_call, with_call, write_call}
use Rattle.disk_base.specs.Disk.{Writes}
use Rattle.disk_base.specs.Story.{Story, with_sync, with_write}
use Rattle.disk_base.specs.declared.disk.DiskAnswer.{DiskAnswer}
use Rattle.disk_base.specs.declared.disk.DiskAnswer.TheVariants.{Done, Failed}

-- the bytes were written, and nothing is loose any more; where this failed, it is as where the write failed
abbrev pub Settles : Option Story → ℕ → List ℕ → Option Story → DiskAnswer → Type 0
Settles before at bytes after Done = after ≡ option_map (λ s. with_sync (with_write at bytes s)) before
Settles before at bytes after Failed = Writes before at bytes after Failed

-- both calls are in the list; where this failed, the write is the last one, or the sync. Each may be missing for a want
-- of its own, by how many calls were made before it and how many bytes there must be room for
abbrev pub LogsBoth : ℕ → List ℕ → (ℕ → ℕ → Type 0) → Option (List DiskCall) → Option (List DiskCall) → DiskAnswer →
    Type 0
LogsBoth at bytes LeftOut before after Done =
    after ≡ with_call (sync_call Done) (with_call (write_call at bytes Done) before)
LogsBoth at bytes LeftOut before after Failed =
    Logs (write_call at bytes) (LeftOut 0 (length bytes)) before after Failed
    ⊎ Logs sync_call (LeftOut 1 0) (with_call (write_call at bytes Done) before) after Failed
