-- What becomes of a row.
use Rattle.std.specs.Prelude.{◌≡◌, ℕ, List, ◌++◌}

-- the row has grown, if at all
abbrev pub Grows : List ℕ → List ℕ → Type 0
Grows old new = (more : List ℕ) × (new ≡ old ++ more)
