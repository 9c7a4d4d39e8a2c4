-- Bytes that were read and not taken yet.
use Rattle.std.specs.Prelude.{◌≡◌, ℕ, List, [], ◌∷◌, Option, Some, None}

-- the first of the bytes, and what is left behind it; there is none where none is left
abbrev pub IsNextOf : List ℕ → Option ℕ → List ℕ → Type 0
IsNextOf before (Some byte) after = before ≡ byte ∷ after
IsNextOf before None after = (before ≡ []) × (after ≡ [])
