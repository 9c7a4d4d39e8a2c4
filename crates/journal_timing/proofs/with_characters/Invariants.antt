-- What was written and noted in the step before is gone.
use Rattle.message_end.specs.Ends.{IsEmpty}
use Rattle.journal_timing.proofs.with_characters.Given as goal

abbrev pub invariant-loop-byte : goal.invariant-loop-byte
invariant-loop-byte g l = IsEmpty l.out
