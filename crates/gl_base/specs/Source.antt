-- What a source's read takes, answers and counts (this profile).
use Rattle.std.specs.Prelude.{◌≡◌, Bool, true, false, ℕ, ◌<◌, ◌≤◌, List, [], length, take, drop, Option, Some, None}
use Rattle.gl_base.specs.Faults.{Rose}
use Rattle.gl_base.specs.declared.source.ReadAnswer.{ReadAnswer}
use Rattle.gl_base.specs.declared.source.ReadAnswer.TheVariants.{Took, End, Failed}

-- from one byte to as many as the buffer has room for
abbrev pub TakesWithin : ℕ → ReadAnswer → Type 0
TakesWithin room (Took n) = (0 < n) × (n ≤ room)
TakesWithin room End = Unit {0}
TakesWithin room Failed = Unit {0}

abbrev pub ReadsFrom : List ℕ → Option (List ℕ) → List ℕ → ReadAnswer → Type 0
ReadsFrom before after into (Took n) =
    (n ≤ length before) × (take n into ≡ take n before) × (after ≡ Some (drop n before))
ReadsFrom before after into End = (before ≡ []) × (after ≡ Some [])
ReadsFrom before after into Failed = after ≡ Some before

-- the bytes left before and after a read, and the buffer after it; no read changes whether they are told
abbrev pub Reads : Option (List ℕ) → Option (List ℕ) → List ℕ → ReadAnswer → Type 0
Reads None after into answer = after ≡ None
Reads (Some before) after into answer = ReadsFrom before after into answer

-- how many faults were counted, and whether no read can fail any more
pub record SourceHealth : Type 0 where
  pub faults : ℕ
  pub reliable : Bool

-- one fault was counted, at a source that may fail
pub record ReadFault (before now : SourceHealth) : Type 0 where
  pub rose : Rose before.faults now.faults
  pub unreliable : before.reliable ≡ false

-- the count of faults stands, and a source on which one can rely stays so
pub record IsReadOn (before now : SourceHealth) : Type 0 where
  pub same : now.faults ≡ before.faults
  pub relied : before.reliable ≡ true → now.reliable ≡ true

-- a fault is counted where a read fails, and nowhere else
abbrev pub HasReadCause : SourceHealth → SourceHealth → ReadAnswer → Type 0
HasReadCause before now Failed = ReadFault before now
HasReadCause before now (Took n) = IsReadOn before now
HasReadCause before now End = IsReadOn before now
