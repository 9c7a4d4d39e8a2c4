-- What comes beside a link: bytes of input, and news of who is at the line (this profile).
use Rattle.std.specs.Prelude.{◌≡◌, ℕ, Bool, false, List, [], ◌∷◌, drop, Option, Some, None}

-- with one answer of the link: where it is news, from which address the host has called that is at the line, or that
-- none is any more; the bytes that have come; and whether the input ends with them
pub record Came : Type 0 where
  pub host : Option (Option (List ℕ))
  pub bytes : List ℕ
  pub ended : Bool

abbrev pub nothing : Came
nothing = record { host = None; bytes = []; ended = false }

-- ---- what is still to come, so much with each answer

abbrev pub first_came : List Came → Came
first_came [] = nothing
first_came (came ∷ coming) = came

-- the first of it has come, where it is told
abbrev pub BringsCame : Option (List Came) → Came → Option (List Came) → Type 0
BringsCame None came after = after ≡ None
BringsCame (Some coming) came after = (came ≡ first_came coming) × (after ≡ Some (drop 1 coming))
