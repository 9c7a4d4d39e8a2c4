-- What the calls of a disk answer and change (this profile).
use Rattle.std.specs.Prelude.{◌≡◌, ◌⊎◌, ℕ, ◌<◌, ◌≤◌, List, [], length, Option, Some, is_some, All}
use Rattle.std.specs.Option.{option_map}
use Rattle.disk_base.specs.Story.{Story, bytes_at, with_write, with_sync, with_growth}
use Rattle.disk_base.specs.declared.disk.DiskAnswer.{DiskAnswer}
use Rattle.disk_base.specs.declared.disk.DiskAnswer.TheVariants.{Done, Failed}

-- all bytes stayed, and what a crash may leave of them; bytes were added behind them only where there were fewer than
-- were asked for
pub record Attaches (grow : ℕ) (before after : Option Story) : Type 0 where
  pub more : List ℕ
  pub grown : after ≡ option_map (with_growth more) before
  pub enough : (s : Story) → before ≡ Some s → grow ≤ length s.now.bytes → more ≡ []

-- a disk tells its bytes where it told them before, and nowhere else
abbrev pub TellsAsBefore : Option Story → Option Story → Type 0
TellsAsBefore before after = is_some after ≡ is_some before

-- what is told to be there are bytes
abbrev pub TellsBytes : Option Story → Type 0
TellsBytes told = (s : Story) → told ≡ Some s → All (λ byte. byte < 256) s.now.bytes

-- a disk that was attached has the size that was asked for
abbrev pub HasSize : ℕ → ℕ → DiskAnswer → Type 0
HasSize grow size Done = grow ≤ size
HasSize grow size Failed = Unit {0}

-- the file that a disk has behind an attaching that gave this answer
abbrev pub file_behind : List ℕ → DiskAnswer → Option (List ℕ) → Option (List ℕ)
file_behind file Done before = Some file
file_behind file Failed before = before

-- the buffer holds the bytes from a place on
abbrev pub Reads : Option Story → ℕ → List ℕ → DiskAnswer → Type 0
Reads told at into Done = (s : Story) → told ≡ Some s → into ≡ bytes_at s.now.bytes at (length into)
Reads told at into Failed = Unit {0}

-- some bytes of this number were written
abbrev pub WritesSome : Option Story → ℕ → ℕ → Option Story → Type 0
WritesSome before at count after =
    (other : List ℕ) × (length other ≡ count) × (after ≡ option_map (with_write at other) before)

-- the bytes were written; where this failed, nothing was, or some others over the same range
abbrev pub Writes : Option Story → ℕ → List ℕ → Option Story → DiskAnswer → Type 0
Writes before at bytes after Done = after ≡ option_map (with_write at bytes) before
Writes before at bytes after Failed =
    (after ≡ before) ⊎ WritesSome before at (length bytes) after

-- nothing is loose any more; where this failed, all is as before
abbrev pub Syncs : Option Story → Option Story → DiskAnswer → Type 0
Syncs before after Done = after ≡ option_map with_sync before
Syncs before after Failed = after ≡ before
