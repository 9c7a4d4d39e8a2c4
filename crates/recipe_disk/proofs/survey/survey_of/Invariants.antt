-- What the hints so far tell; the slot of the name stays.
use Rattle.std.proofs.Common.{◌≡◌, ◌<◌, ◌≤◌, ℕ}
use Rattle.std.specs.Prelude.{IfSome}
use Rattle.recipe_disk.specs.Hints.{AreHints}
use Rattle.recipe_disk.specs.Slot.{RecipeSlot}
use Rattle.recipe_disk.specs.Survey.{HasFields}
use Rattle.recipe_disk.proofs.Hinted.{HasCounts}
use Rattle.recipe_disk.proofs.survey.survey_of.Given as goal

abbrev pub invariant-loop-slot : goal.invariant-loop-slot
invariant-loop-slot l =
    ((slot : ℕ → RecipeSlot) → AreHints slot l.fn.slots l.fn.hints → HasFields slot l.fn.slots → HasCounts slot l.slot l.survey)
    × (l.survey.found ≡ l.fn.found)
    × (l.survey.count ≤ l.slot)
    × IfSome l.survey.free (λ k. k < l.slot)
