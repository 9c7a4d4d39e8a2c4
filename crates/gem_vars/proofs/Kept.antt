-- A setting keeps the identifiers.
use Rattle.std.proofs.Common.{◌≡◌, refl, ◌∙◌, ap, Bool, true, false, cond, ℕ, List, [], ◌∷◌, Option, Some, None, nat_eq}
use Rattle.std.specs.Map.{keys_of, lookup, set_value}
use Rattle.std.specs.Option.{option_map_or}
use Rattle.gem_vars.specs.Tables.{VarsTable, constant_with, ecids_of, with_constant, with_constants}

value_kept :
    {V : Type 0} (test : ℕ → Bool) (rows : List (ℕ × V)) (w : V) → keys_of (set_value test rows w) ≡ keys_of rows
value_kept test [] w = refl
value_kept test (e ∷ rows) w =
    elim (test e.0) as (λ b. keys_of (cond b ((e.0, w) ∷ rows) (e ∷ set_value test rows w)) ≡ e.0 ∷ keys_of rows)
    [ true ↦ refl | false ↦ ap (λ (ks : List ℕ). e.0 ∷ ks) (value_kept test rows w) ]

row_kept :
    {V : Type 0} (test : ℕ → Bool) (rows : List (ℕ × V)) (f : V → V) (o : Option V)
    → keys_of (option_map_or (λ row. set_value test rows (f row)) o rows) ≡ keys_of rows
row_kept test rows f None = refl
row_kept test rows f (Some v) = value_kept test rows (f v)

pub constants_kept : (list : List (ℕ × ℕ)) (table : VarsTable) → ecids_of (with_constants list table) ≡ ecids_of table
constants_kept [] table = refl
constants_kept (e ∷ list) table =
    constants_kept list (with_constant e.0 e.1 table)
    ∙ row_kept (nat_eq e.0) table.constants (constant_with e.1) (lookup (nat_eq e.0) table.constants)
