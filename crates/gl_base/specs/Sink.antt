-- What a sink's write appends, answers and counts (this profile).
use Rattle.std.specs.Prelude.{◌≡◌, ℕ, ◌<◌, ◌≤◌, ◌+◌, List, ◌++◌, take, Option}
use Rattle.std.specs.Option.{option_map}
use Rattle.gl_base.specs.Faults.{Rose}
use Rattle.gl_base.specs.declared.sink.WriteAnswer.{WriteAnswer}
use Rattle.gl_base.specs.declared.sink.WriteAnswer.TheVariants.{Took, Failed}

-- what a sink has received with these bytes after the others, where it tells
abbrev pub with_bytes : Option (List ℕ) → List ℕ → Option (List ℕ)
with_bytes received bytes = option_map (λ before. before ++ bytes) received

-- from one byte to all of them
abbrev pub WritesWithin : ℕ → WriteAnswer → Type 0
WritesWithin size (Took n) = (0 < n) × (n ≤ size)
WritesWithin size Failed = Unit {0}

-- what was received before and after a write; no write changes whether it is told
abbrev pub Writes : Option (List ℕ) → List ℕ → Option (List ℕ) → WriteAnswer → Type 0
Writes before bytes after (Took n) = after ≡ with_bytes before (take n bytes)
Writes before bytes after Failed = after ≡ before

-- how many faults were counted, and how many more bytes go in without one for sure
pub record SinkHealth : Type 0 where
  pub faults : ℕ
  pub room : ℕ

-- one fault was counted, at bytes for which there was no sure room
pub record WriteFault (before now : SinkHealth) (size : ℕ) : Type 0 where
  pub rose : Rose before.faults now.faults
  pub crowded : before.room < size

-- the count of faults stands, and n bytes use up no more than their room
pub record IsWrittenOn (before now : SinkHealth) (n : ℕ) : Type 0 where
  pub same : now.faults ≡ before.faults
  pub used : before.room ≤ now.room + n

-- a fault is counted where a write of so many bytes fails, and nowhere else
abbrev pub HasWriteCause : SinkHealth → SinkHealth → ℕ → WriteAnswer → Type 0
HasWriteCause before now size (Took n) = IsWrittenOn before now n
HasWriteCause before now size Failed = WriteFault before now size
