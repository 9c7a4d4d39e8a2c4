-- Rows of which the first are changed, one after another.
use Rattle.std.proofs.Common.{◌≡◌, refl, sym, ◌∙◌, ap, ℕ, zero, suc, ◌<◌, ◌+◌, List, [], ◌∷◌, length, Some, add-one}
use Rattle.std.specs.Prelude.{slice_get}
use Rattle.std.specs.Map.{values_of}
use Rattle.indexmap.specs.IndexMap.{set_value_at}
use Rattle.gem_tables.specs.Rows.{with_each}

module _ {V : Type 0} (change : V → V) where
  abbrev pub changed_first : ℕ → List (ℕ × V) → List (ℕ × V)
  changed_first zero rows = rows
  changed_first (suc n) [] = []
  changed_first (suc n) (e ∷ es) = (e.0, change e.1) ∷ changed_first n es

  length-changed_first : (n : ℕ) (rows : List (ℕ × V)) → length (changed_first n rows) ≡ length rows
  length-changed_first zero rows = refl
  length-changed_first (suc n) [] = refl
  length-changed_first (suc n) (e ∷ es) = ap suc (length-changed_first n es)

  more :
      (n : ℕ) (rows : List (ℕ × V)) (row : V) → slice_get (values_of (changed_first n rows)) n ≡ Some row
      → set_value_at (changed_first n rows) n (change row) ≡ changed_first (suc n) rows
  more zero [] row is = refl
  more zero (e ∷ es) row is = let same : e.1 ≡ row = cc in ap (λ a. (e.0, change a) ∷ es) (sym same)
  more (suc n) [] row is = refl
  more (suc n) (e ∷ es) row is = ap (λ t. (e.0, change e.1) ∷ t) (more n es row is)

  -- one row more
  pub changed_more :
      (n : ℕ) (rows now : List (ℕ × V)) (row : V) → now ≡ changed_first n rows → slice_get (values_of now) n ≡ Some row
      → set_value_at now n (change row) ≡ changed_first (n + 1) rows
  changed_more n rows now row is at =
      ap (λ t. set_value_at t n (change row)) is
      ∙ more n rows row (ap (λ t. slice_get (values_of t) n) (sym is) ∙ at)
      ∙ ap (λ k. changed_first k rows) (sym (add-one n))

  pub changed_whole : (rows : List (ℕ × V)) → changed_first (length rows) rows ≡ with_each (λ id. change) rows
  changed_whole [] = refl
  changed_whole (e ∷ es) = ap (λ t. (e.0, change e.1) ∷ t) (changed_whole es)

  pub changed_within :
      (n : ℕ) (rows now : List (ℕ × V)) → now ≡ changed_first n rows → n < length rows → n < length now
  changed_within n rows now is less = rw (is, length-changed_first n rows) less
