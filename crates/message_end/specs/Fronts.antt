-- What an end has done where a step stops early: its disk stops it, or power is lost.
use Rattle.std.specs.Prelude.{ℕ, List}
use Rattle.trace_log.specs.Log.{Happening}
use Rattle.message_end.specs.Core.{step_in}
use Rattle.message_end.specs.Doings.{Doing}
use Rattle.message_end.specs.Ends.{GoesSoFar, Input, IsFront, Machine, MayTake}
use Rattle.message_end.specs.Plan.{EndPlan}

-- wherever a step of an end stops early, the end has done what was noted by then, and no more, with the first calls of
-- its line (this profile)
abbrev pub StopsAreLawful :
    {S C : Type 0} → EndPlan → (ℕ → List Doing → S → Type 0) → (C → Type 0) → Machine S C → Type 0
StopsAreLawful {S} {C} plan did takes machine =
    (base : ℕ) (doings : List Doing) (s : S) (input : Input C) (now : ℕ) → did base doings s → MayTake takes input
    → (front : List Happening) → IsFront front (step_in (machine.act s input now)).notes
    → GoesSoFar plan did base doings input now front
