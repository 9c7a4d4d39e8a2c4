-- Rows after one entry more, and what they have of an identifier.
use Rattle.std.proofs.Common.{◌≡◌, refl, ◌∙◌, ap, Bool, true, false, cond, ℕ, List, [], ◌∷◌, map, Option, Some, None, nat_eq}
use Rattle.std.proofs.lemmas.Bool.{eqb-true}
use Rattle.std.proofs.lemmas.Map.Keys.{IsDistinct-head, IsDistinct-tail}
use Rattle.std.specs.List.{AllByRecursion, IsDistinct, find}
use Rattle.std.specs.Map.{lookup, set_value}
use Rattle.std.specs.Option.{option_map, option_map_or}
use Rattle.gem_tables.specs.Rows.{rows_of, with_row}

module _ {A V : Type 0} (key : A → ℕ) where
  -- where each row of another identifier stays, all of these stay
  left :
      (before after : A → V) (id : ℕ) → ((x : A) → nat_eq id (key x) ≡ false → before x ≡ after x)
      → (plan : List A) → AllByRecursion (λ other. nat_eq id other ≡ false) (map key plan)
      → rows_of key before plan ≡ rows_of key after plan
  left before after id stays [] all = refl
  left before after id stays (x ∷ plan) all =
      ap (λ v. (key x, v) ∷ rows_of key before plan) (stays x all.0)
      ∙ ap (λ t. (key x, after x) ∷ t) (left before after id stays plan all.1)

  -- a change behind the first row
  behind :
      (f : V → V) (test : ℕ → Bool) (e : ℕ × V) (es : List (ℕ × V)) (o : Option V)
      → option_map_or (λ v. e ∷ set_value test es (f v)) o (e ∷ es)
      ≡ e ∷ option_map_or (λ v. set_value test es (f v)) o es
  behind f test e es None = refl
  behind f test e es (Some v) = refl

  -- an entry that changes one row, and leaves the others
  pub changed :
      (before after : A → V) (id : ℕ) (f : V → V)
      → ((x : A) → nat_eq id (key x) ≡ true → f (before x) ≡ after x)
      → ((x : A) → nat_eq id (key x) ≡ false → before x ≡ after x)
      → (plan : List A) → IsDistinct nat_eq (map key plan)
      → with_row id f (rows_of key before plan) ≡ rows_of key after plan
  changed before after id f changes stays [] distinct = refl
  changed before after id f changes stays (x ∷ plan) distinct =
      go (nat_eq id (key x)) refl
      (changed before after id f changes stays plan (IsDistinct-tail nat_eq (key x) (map key plan) distinct))
    where
      e : ℕ × V
      e = (key x, before x)

      es : List (ℕ × V)
      es = rows_of key before plan

      go : (b : Bool) → nat_eq id (key x) ≡ b
          → with_row id f (rows_of key before plan) ≡ rows_of key after plan
          → option_map_or
          (λ v. cond b ((key x, f v) ∷ es) (e ∷ set_value (nat_eq id) es (f v)))
          (cond b (Some (before x)) (lookup (nat_eq id) es)) (e ∷ es)
          ≡ (key x, after x) ∷ rows_of key after plan
      go true same next =
          let apart = IsDistinct-head nat_eq (key x) (map key plan) distinct in
          let others = left before after (key x)
          (λ y other. stays y (ap (λ n. nat_eq n (key y)) (eqb-true id (key x) same) ∙ other)) plan apart in
          ap (λ v. (key x, v) ∷ es) (changes x same)
          ∙ ap (λ t. (key x, after x) ∷ t) others
      go false other next =
          behind f (nat_eq id) e es (lookup (nat_eq id) es)
          ∙ ap (λ t. e ∷ t) next
          ∙ ap (λ v. (key x, v) ∷ rows_of key after plan) (stays x other)

  -- what is looked up is of the planned element
  pub looked_up :
      (row : A → V) (plan : List A) (id : ℕ)
      → lookup (nat_eq id) (rows_of key row plan) ≡ option_map row (find (λ x. nat_eq id (key x)) plan)
  looked_up row [] id = refl
  looked_up row (x ∷ plan) id =
      elim (nat_eq id (key x)) as (λ b. cond b (Some (row x)) (lookup (nat_eq id) (rows_of key row plan))
      ≡ option_map row (cond b (Some x) (find (λ y. nat_eq id (key y)) plan)))
      [ true ↦ refl | false ↦ looked_up row plan id ]

  joined : {X : Type 0} (row : A → V) (f : V → X) (o : Option A)
      → option_map f (option_map row o) ≡ option_map (λ x. f (row x)) o
  joined row f None = refl
  joined row f (Some x) = refl

  -- and so is a part of it
  pub part_looked_up :
      {X : Type 0} (row : A → V) (f : V → X) (plan : List A) (id : ℕ)
      → option_map f (lookup (nat_eq id) (rows_of key row plan))
      ≡ option_map (λ x. f (row x)) (find (λ x. nat_eq id (key x)) plan)
  part_looked_up row f plan id =
      ap (option_map f) (looked_up row plan id) ∙ joined row f (find (λ x. nat_eq id (key x)) plan)
