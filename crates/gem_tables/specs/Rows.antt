-- Rows, each with its identifier.
use Rattle.std.specs.Prelude.{ℕ, List, map, nat_eq}
use Rattle.std.specs.Map.{lookup, set_value}
use Rattle.std.specs.Option.{option_map_or}

-- a row for each element of a plan
abbrev pub rows_of : {A V : Type 0} → (A → ℕ) → (A → V) → List A → List (ℕ × V)
rows_of key row plan = map (λ x. (key x, row x)) plan

-- the rows with a change of the one that has this identifier
abbrev pub with_row : {V : Type 0} → ℕ → (V → V) → List (ℕ × V) → List (ℕ × V)
with_row id change rows =
    option_map_or (λ row. set_value (nat_eq id) rows (change row)) (lookup (nat_eq id) rows) rows

-- each row changed, by its identifier
abbrev pub with_each : {V W : Type 0} → (ℕ → V → W) → List (ℕ × V) → List (ℕ × W)
with_each change rows = map (λ e. (e.0, change e.0 e.1)) rows
