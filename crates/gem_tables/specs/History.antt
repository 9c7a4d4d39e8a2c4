-- What holds after a history. The newest entry stands first.
use Rattle.std.specs.Prelude.{List, [], ◌∷◌, Option}
use Rattle.std.specs.Option.{unwrap_or}

-- what the newest entry says that says something, and otherwise what held at first
abbrev pub newest : {E X : Type 0} → (E → Option X) → X → List E → X
newest said first [] = first
newest said first (entry ∷ past) = unwrap_or (said entry) (newest said first past)
