-- A step of an end as its duties, one after the other.
use Rattle.std.specs.Prelude.{List, [], ◌∷◌, Option}
use Rattle.trace_log.specs.Log.{Happening}
use Rattle.message_end.specs.Core.{Command, EndView, Step, Went, and_then, carried}
use Rattle.message_end.specs.Core.Went.{Goes}

-- what an end is told to do in a part of its step, by what it is when this part begins
abbrev pub Duty : Type 0 → Type 0
Duty K = EndView K → List (Command K)

-- what they make of an end, with the notes as they are read by `say`
abbrev pub all_done :
    {K N : Type 0} → (Happening → Option N) → List (Duty K) → Step (EndView K) N → Went (EndView K) N
all_done say [] step = Goes step
all_done say (duty ∷ duties) step = and_then (carried say (duty step.next) step) (all_done say duties)
