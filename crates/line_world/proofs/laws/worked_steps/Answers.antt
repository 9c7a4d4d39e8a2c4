-- The logs aren't safe, by the laws of `NotedSteps` and `Replies`.

use Rattle.std.proofs.Common.{◌≡◌, ◌⊎◌, ℕ, inl, inr}
use Rattle.line_world.proofs.NotedSteps.{have-steps}
use Rattle.line_world.proofs.Replies.{replies-in-steps}
use Rattle.line_world.specs.WorkedSteps.{ended, unended}
use Rattle.line_world.proofs.laws.worked_steps.Goals as goal

-- moments apart, and behind no end
not-later : ◌≡◌ {A = ℕ} 10 0 ⊎ ⊥ → ⊥
not-later (inl same) = absurd (cc)
not-later (inr none) = none

pub returns : goal.returns
returns c = record {
  without_end = λ plans asked reply safe. not-later (have-steps plans (unended asked reply) safe).equipment.0;
  behind_end = λ plans asked reply second safe.
      let none = ((replies-in-steps plans (ended asked reply) safe).equipment.0 second).newest in absurd (cc);
}
