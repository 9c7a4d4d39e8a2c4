-- Rows that are put into a map, one after another, each with an identifier of its own.
use Rattle.std.proofs.Common.{◌≡◌, refl, sym, ◌∙◌, ap, ℕ, ◌+◌, ◌<◌, List, [], ◌∷◌, ◌++◌, length, map, drop, get_or, nat_eq, subst}
use Rattle.std.proofs.lemmas.List.{append_assoc, map-append}
use Rattle.std.proofs.lemmas.Cmp.{nat_eq_equiv}
use Rattle.std.specs.List.{IsDistinct}
use Rattle.std.specs.Map.{keys_of}
use Rattle.indexmap.specs.IndexMap.{insert_entry}
use Rattle.indexmap.proofs.MapLemmas.{absent_before, absent_from_lookup, insert_entry-absent}
use Rattle.gl_base.proofs.Distinct.{opened}
use Rattle.gem_tables.specs.Rows.{rows_of, with_each}

-- a row with a new identifier goes last
goes_last :
    {V : Type 0} (so_far : List (ℕ × V)) (e : ℕ × V) (rest : List (ℕ × V))
    → IsDistinct nat_eq (keys_of (so_far ++ e ∷ rest)) → insert_entry nat_eq so_far e.0 e.1 ≡ so_far ++ e ∷ []
goes_last so_far e rest distinct =
    insert_entry-absent nat_eq e.0 e.1 so_far
    (absent_from_lookup (nat_eq e.0) so_far (absent_before nat_eq_equiv so_far rest e distinct))

-- the rows so far, with those that are left, are all
pub same_more :
    {V : Type 0} (so_far all : List (ℕ × V)) (e : ℕ × V) (rest : List (ℕ × V)) → IsDistinct nat_eq (keys_of all)
    → so_far ++ e ∷ rest ≡ all → insert_entry nat_eq so_far e.0 e.1 ++ rest ≡ all
same_more so_far all e rest distinct is =
    ap (λ t. t ++ rest) (goes_last so_far e rest (subst (λ t. IsDistinct nat_eq (keys_of t)) (sym is) distinct))
    ∙ append_assoc so_far (e ∷ []) rest
    ∙ is

keys_changed : {V W : Type 0} (f : ℕ → V → W) (rows : List (ℕ × V)) → keys_of (with_each f rows) ≡ keys_of rows
keys_changed f [] = refl
keys_changed f (e ∷ es) = ap (λ ks. e.0 ∷ ks) (keys_changed f es)

-- the same of rows that are changed on the way
pub each_more :
    {V W : Type 0} (f : ℕ → V → W) (so_far : List (ℕ × W)) (all : List (ℕ × V)) (e : ℕ × V) (rest : List (ℕ × V))
    → IsDistinct nat_eq (keys_of all) → so_far ++ with_each f (e ∷ rest) ≡ with_each f all
    → insert_entry nat_eq so_far e.0 (f e.0 e.1) ++ with_each f rest ≡ with_each f all
each_more f so_far all e rest distinct is =
    same_more so_far (with_each f all) (e.0, f e.0 e.1) (with_each f rest)
    (subst (IsDistinct nat_eq) (sym (keys_changed f all)) distinct) is

module _ {A V : Type 0} (key : A → ℕ) (row : A → V) where
  keys_of_rows : (xs : List A) → keys_of (rows_of key row xs) ≡ map key xs
  keys_of_rows [] = refl
  keys_of_rows (x ∷ xs) = ap (λ ks. key x ∷ ks) (keys_of_rows xs)

  -- rows that are put, with those that are left, of elements that are told apart
  pub record ArePut (now : List (ℕ × V)) (left : List A) (all : List (ℕ × V)) : Type 0 where
    pub rows : now ++ rows_of key row left ≡ all
    pub distinct : IsDistinct nat_eq (keys_of now ++ map key left)

  -- one more
  pub put_more :
      (xs : List A) (i : ℕ) (d : A) (v : V) (rows now : List (ℕ × V)) (all : List (ℕ × V)) → i < length xs
      → v ≡ row (get_or xs i d) → now ≡ insert_entry nat_eq rows (key (get_or xs i d)) v
      → ArePut rows (drop i xs) all → ArePut now (drop (i + 1) xs) all
  put_more xs i d v rows now all within is inserted so_far =
      let x = get_or xs i d in
      let rest = drop (i + 1) xs in
      let parts = opened nat_eq key xs i d within in
      let told : IsDistinct nat_eq (keys_of rows ++ key x ∷ map key rest) =
      subst (λ ys. IsDistinct nat_eq (keys_of rows ++ map key ys)) parts so_far.distinct in
      let keys : keys_of (rows ++ (key x, v) ∷ rows_of key row rest) ≡ keys_of rows ++ key x ∷ map key rest =
      map-append (λ (e : ℕ × V). e.0) rows ((key x, v) ∷ rows_of key row rest)
      ∙ ap (λ ks. keys_of rows ++ key x ∷ ks) (keys_of_rows rest) in
      let last =
      inserted ∙ goes_last rows (key x, v) (rows_of key row rest) (subst (IsDistinct nat_eq) (sym keys) told) in
      let ids : keys_of now ≡ keys_of rows ++ key x ∷ [] =
      ap (λ (t : List (ℕ × V)). keys_of t) last ∙ map-append (λ (e : ℕ × V). e.0) rows ((key x, v) ∷ []) in
      record {
        rows =
            ap (λ t. t ++ rows_of key row rest) last
            ∙ append_assoc rows ((key x, v) ∷ []) (rows_of key row rest)
            ∙ ap (λ w. rows ++ (key x, w) ∷ rows_of key row rest) is
            ∙ ap (λ ys. rows ++ rows_of key row ys) (sym parts)
            ∙ so_far.rows;
        distinct =
            subst (λ ks. IsDistinct nat_eq ks)
            (sym (append_assoc (keys_of rows) (key x ∷ []) (map key rest))
            ∙ ap (λ ks. ks ++ map key rest) (sym ids)) told;
      }
