-- How a message is named.
use Rattle.std.specs.Prelude.{ℕ, Bool, List, [], ◌++◌, codes, decimal, if◌then◌else◌}

-- a word that stands only where its bit is set
abbrev pub flag : Bool → List ℕ → List ℕ
flag bit word = if bit then word else []

-- stream and function, and W where a reply is awaited (SEMI E5)
abbrev pub name_of : ℕ → ℕ → Bool → List ℕ
name_of stream function wait = codes "S" ++ decimal stream ++ codes "F" ++ decimal function ++ flag wait (codes " W")
