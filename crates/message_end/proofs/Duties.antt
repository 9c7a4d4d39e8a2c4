-- The duties of a step, with their notes read otherwise.
use Rattle.std.proofs.Common.{◌≡◌, refl, ap, ◌∙◌, List, [], ◌∷◌, Some, Option}
use Rattle.trace_log.specs.Log.{Happening}
use Rattle.message_end.specs.Core.{EndView, Step, Went, and_then, carried}
use Rattle.message_end.specs.Core.Went.{Goes, Spent}
use Rattle.message_end.specs.Duties.{Duty, all_done}
use Rattle.message_end.specs.Laws.{read_as, went_as}
use Rattle.message_end.proofs.Reading.{read-carried}

pub read-done :
    {K N : Type 0} (say : Happening → Option N) (duties : List (Duty K)) (step : Step (EndView K) Happening)
    → all_done say duties (read_as say step) ≡ went_as say (all_done Some duties step)
read-done say [] step = refl
read-done {K} {N} say (duty ∷ duties) step =
    ap (λ (w : Went (EndView K) N). and_then w (all_done say duties)) (read-carried {K = K} {N = N} say
    (duty step.next) step)
    ∙ go (carried Some (duty step.next) step) (λ next. read-done {K = K} {N = N} say duties next)
  where
    go : (went : Went (EndView K) Happening)
        → ((next : Step (EndView K) Happening)
        → all_done say duties (read_as say next) ≡ went_as say (all_done Some duties next))
        → and_then (went_as say went) (all_done say duties) ≡ went_as say (and_then went (all_done Some duties))
    go (Goes next) more = more next
    go (Spent next) more = refl
