-- What an adapter hands on of the object behind it, where that tells its bytes.
use Rattle.std.specs.Prelude.{ℕ, List, take, Option}
use Rattle.std.specs.Io.KnownBytes.{Appends, Consumes, IsAtEnd, Keeps}
use Rattle.gl_base.specs.declared.source.ReadAnswer.{ReadAnswer}
use Rattle.gl_base.specs.declared.source.ReadAnswer.TheVariants as read
use Rattle.gl_base.specs.declared.sink.WriteAnswer.{WriteAnswer}
use Rattle.gl_base.specs.declared.sink.WriteAnswer.TheVariants as write

-- the bytes that were taken came from the front of those that are left
abbrev pub ReadsOn : Option (List ℕ) → Option (List ℕ) → List ℕ → ReadAnswer → Type 0
ReadsOn before after into (read.Took n) = Consumes before after (take n into)
ReadsOn before after into read.End = IsAtEnd after
ReadsOn before after into read.Failed = Keeps before after

-- the bytes that were taken stand at the end
abbrev pub WritesOn : Option (List ℕ) → Option (List ℕ) → List ℕ → WriteAnswer → Type 0
WritesOn before after bytes (write.Took n) = Appends before after (take n bytes)
WritesOn before after bytes write.Failed = Keeps before after
