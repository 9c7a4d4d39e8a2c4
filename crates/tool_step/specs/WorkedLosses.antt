-- Losses of power in a step of the equipment that can be followed by hand.
use Rattle.std.specs.Prelude.{◌≡◌, ℕ, List, [], ◌∷◌, length, map}
use Rattle.disk_base.specs.declared.cut.CutChoice.TheVariants.{Fill, New}
use Rattle.message_end.specs.Ends.Input.{Time}
use Rattle.tool_step.specs.Losses.{losses}
use Rattle.tool_step.specs.WorkedSpool.{last_view}

-- how many messages stand behind a loss at each call
abbrev pub stand_then : List ℕ
stand_then = map (λ loss. length (loss.left New).file.list) (losses last_view Time 10000)

abbrev pub stand_filled : List ℕ
stand_filled = map (λ loss. length (loss.left (Fill 165)).file.list) (losses last_view Time 10000)

-- the line fails, and a report is put: its message stands from the write of the gate on, where that is left
pub record LosesAtCalls : Type 0 where
  pub fronts :
      map (λ loss. length loss.front) (losses last_view Time 10000) ≡ 3 ∷ 3 ∷ 3 ∷ 3 ∷ 3 ∷ []
  pub new : stand_then ≡ 0 ∷ 0 ∷ 0 ∷ 1 ∷ 1 ∷ []
  pub filled : stand_filled ≡ 0 ∷ 0 ∷ 0 ∷ 0 ∷ 0 ∷ []
