-- The reports, and the S6F1, that wait for their grants.
use Rattle.std.specs.Prelude.{ℕ, List}

-- an S6F11 or an S6F1 of several blocks: the system bytes of the S6F5 that asks for it, and its text
pub record GrantView : Type 0 where
  pub system : ℕ
  pub body : List ℕ
