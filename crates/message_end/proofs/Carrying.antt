-- One list of commands behind another, and one of duties.
use Rattle.std.proofs.Common.{◌≡◌, refl, List, [], ◌∷◌, ◌++◌, Option}
use Rattle.trace_log.specs.Log.{Happening}
use Rattle.message_end.specs.Core.{Command, EndView, Step, Went, and_then, carried, carry}
use Rattle.message_end.specs.Core.Went.{Goes, Spent}
use Rattle.message_end.specs.Duties.{Duty, all_done}

pub carried_append :
    {K N : Type 0} (say : Happening → Option N) (first second : List (Command K)) (step : Step (EndView K) N)
    → carried say (first ++ second) step ≡ and_then (carried say first step) (carried say second)
carried_append say [] second step = refl
carried_append {K} {N} say (one ∷ first) second step =
    go (carry say one step) (λ next. carried_append say first second next)
  where
    go : (went : Went (EndView K) N)
        → ((next : Step (EndView K) N)
        → carried say (first ++ second) next ≡ and_then (carried say first next) (carried say second))
        → and_then went (carried say (first ++ second)) ≡ and_then (and_then went (carried say first))
        (carried say second)
    go (Goes next) more = more next
    go (Spent next) more = refl

pub done_append :
    {K N : Type 0} (say : Happening → Option N) (first second : List (Duty K)) (step : Step (EndView K) N)
    → all_done say (first ++ second) step ≡ and_then (all_done say first step) (all_done say second)
done_append say [] second step = refl
done_append {K} {N} say (duty ∷ first) second step =
    go (carried say (duty step.next) step) (λ next. done_append say first second next)
  where
    go : (went : Went (EndView K) N)
        → ((next : Step (EndView K) N)
        → all_done say (first ++ second) next ≡ and_then (all_done say first next) (all_done say second))
        → and_then went (all_done say (first ++ second)) ≡ and_then (and_then went (all_done say first))
        (all_done say second)
    go (Goes next) more = more next
    go (Spent next) more = refl
