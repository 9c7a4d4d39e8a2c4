-- The plans are those that the bytes of the file mean.

use Rattle.std.proofs.Common.{List, subst, ℕ}
use Rattle.gemline_app.specs.Files.{TextAnswers}
use Rattle.gemline_app.proofs.Hosting.{plan_answers}
use Rattle.gemline_app.proofs.inputs.plans_in.Goals as goal

pub returns-in-Ok : goal.returns-in-Ok
returns-in-Ok g c =
    plan_answers _ _ _ _ c.in-Ok.ensures
    (subst (λ (bytes : List ℕ). TextAnswers bytes c.plans_of.result) c.as_slice.ensures c.plans_of.ensures)
