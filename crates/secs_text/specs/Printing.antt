-- What a step of printing does.
use Rattle.std.specs.Prelude.{◌≡◌, ℕ, List, ◌++◌, Result, Ok, Err}
use Rattle.gl_base.specs.Rows.{Grows}

-- What a step of printing has done: all was put at the end, or memory ran out and the row has grown.
abbrev pub Puts : {E : Type 0} → List ℕ → List ℕ → List ℕ → Result (Unit {0}) E → Type 0
Puts text old new (Ok _) = new ≡ old ++ text
Puts text old new (Err _) = Grows old new
