-- What reading a source to its end gives (this profile).
use Rattle.std.specs.Prelude.{◌≡◌, ℕ, ◌<◌, ◌≤◌, List, [], length, drop, Option, Some, None}
use Rattle.gl_base.specs.Source.{SourceHealth, IsReadOn, ReadFault}
use Rattle.gl_base.specs.declared.input.Input.{Input}
use Rattle.gl_base.specs.declared.input.Input.TheVariants.{Whole, Longer, Failed, NoMemory}

-- a whole input keeps to the limit
abbrev pub IsWithin : ℕ → Input → Type 0
IsWithin limit (Whole all) = length all ≤ limit
IsWithin limit Longer = Unit {0}
IsWithin limit Failed = Unit {0}
IsWithin limit NoMemory = Unit {0}

-- bytes from the front are gone
abbrev pub IsRestOf : List ℕ → Option (List ℕ) → Type 0
IsRestOf bytes after = (k : ℕ) × (after ≡ Some (drop k bytes))

abbrev pub ReadsAllOf : ℕ → List ℕ → Option (List ℕ) → Input → Type 0
ReadsAllOf limit bytes after (Whole all) = (length bytes ≤ limit) × (all ≡ bytes) × (after ≡ Some [])
ReadsAllOf limit bytes after Longer = (limit < length bytes) × IsRestOf bytes after
ReadsAllOf limit bytes after Failed = IsRestOf bytes after
ReadsAllOf limit bytes after NoMemory = IsRestOf bytes after

-- what was left before and after; no reading changes whether it is told
abbrev pub ReadsAll : ℕ → Option (List ℕ) → Option (List ℕ) → Input → Type 0
ReadsAll limit None after answer = (after ≡ None) × IsWithin limit answer
ReadsAll limit (Some bytes) after answer = ReadsAllOf limit bytes after answer

-- a fault is counted where the reading fails, and nowhere else
abbrev pub HasInputCause : SourceHealth → SourceHealth → Input → Type 0
HasInputCause before now Failed = ReadFault before now
HasInputCause before now (Whole all) = IsReadOn before now
HasInputCause before now Longer = IsReadOn before now
HasInputCause before now NoMemory = IsReadOn before now
