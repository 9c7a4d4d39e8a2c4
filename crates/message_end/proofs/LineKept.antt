-- The state of an end's line keeps its side and times.
use Rattle.std.proofs.Common.{◌≡◌, List, [], ◌∷◌, refl, ◌∙◌}
use Rattle.line_end.specs.Step.LineCall.{Send}
use Rattle.line_end.proofs.Small.{step_facts}
use Rattle.message_end.specs.Doings.{Doing, line_of}
use Rattle.message_end.specs.Doings.Doing.{Calls, Does, Gives, Says}
use Rattle.message_end.specs.Plan.{EndPlan}

pub side-kept : (plan : EndPlan) (doings : List Doing) → (line_of plan doings).side ≡ plan.side
side-kept plan [] = refl
side-kept plan (Does own ∷ before) = side-kept plan before
side-kept plan (Gives place number block now ∷ before) =
    (step_facts (line_of plan before) (Send block now)).side ∙ side-kept plan before
side-kept plan (Calls call ∷ before) = (step_facts (line_of plan before) call).side ∙ side-kept plan before
side-kept plan (Says what ∷ before) = side-kept plan before

pub times-kept : (plan : EndPlan) (doings : List Doing) → (line_of plan doings).times ≡ plan.line.times
times-kept plan [] = refl
times-kept plan (Does own ∷ before) = times-kept plan before
times-kept plan (Gives place number block now ∷ before) =
    (step_facts (line_of plan before) (Send block now)).times ∙ times-kept plan before
times-kept plan (Calls call ∷ before) = (step_facts (line_of plan before) call).times ∙ times-kept plan before
times-kept plan (Says what ∷ before) = times-kept plan before
