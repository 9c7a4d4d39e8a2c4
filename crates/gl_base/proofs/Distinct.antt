-- Whether the keys of a list are distinct, element by element: what stands from here on is asked about.
use Rattle.std.proofs.Common.{◌≡◌, refl, sym, ◌∙◌, ap, Bool, true, false, ◌||◌, ◌↔◌, ℕ, ◌+◌, ◌<◌, ◌≤◌, List, [], ◌∷◌, length, map, drop, get_or, drop_of_length-le, drop-cons, add-one, IsTrue, subst}
use Rattle.std.proofs.lemmas.Map.Keys.{IsDistinct-cons, IsDistinct-head, IsDistinct-tail}
use Rattle.std.specs.List.{AllByRecursion, IsDistinct, list_any}

module _ {K : Type 0} (eq : K → K → Bool) where
  -- the key is none of these
  apart_in : (k : K) (ks : List K) → list_any (eq k) ks ≡ false → AllByRecursion (λ other. eq k other ≡ false) ks
  apart_in k [] none = tt
  apart_in k (n ∷ ks) none = go (eq k n) refl none (apart_in k ks)
    where
      go : (b : Bool) → eq k n ≡ b → (b || list_any (eq k) ks) ≡ false
          → (list_any (eq k) ks ≡ false → AllByRecursion (λ other. eq k other ≡ false) ks)
          → AllByRecursion (λ other. eq k other ≡ false) (n ∷ ks)
      go true is left rest = absurd (cc)
      go false is left rest = (is, rest left)

  none_in : (k : K) (ks : List K) → AllByRecursion (λ other. eq k other ≡ false) ks → list_any (eq k) ks ≡ false
  none_in k [] all = refl
  none_in k (n ∷ ks) all = rw all.0 (none_in k ks all.1)

  module _ {A : Type 0} (key : A → K) where
    any_key : (k : K) (xs : List A) → list_any (λ x. eq k (key x)) xs ≡ list_any (eq k) (map key xs)
    any_key k [] = refl
    any_key k (x ∷ xs) = ap (λ b. eq k (key x) || b) (any_key k xs)

    pub opened : (xs : List A) (i : ℕ) (d : A) → i < length xs → drop i xs ≡ get_or xs i d ∷ drop (i + 1) xs
    opened xs i d within = drop-cons xs i d within ∙ ap (λ n. get_or xs i d ∷ drop n xs) (sym (add-one i))

    -- the key at a place doesn't stand again behind it
    pub fresh :
        (xs : List A) (i : ℕ) (d : A) (P : Type 0) → i < length xs
        → list_any (λ x. eq (key (get_or xs i d)) (key x)) (drop (i + 1) xs) ≡ false
        → (IsDistinct eq (map key (drop i xs)) ↔ P)
        → IsDistinct eq (map key (drop (i + 1) xs)) ↔ P
    fresh xs i d P within none so_far =
        let x = get_or xs i d in
        let rest = drop (i + 1) xs in
        let parts = opened xs i d within in
        let all = apart_in (key x) (map key rest) (sym (any_key (key x) rest) ∙ none) in (
          λ distinct. so_far.0 (subst (λ rows. IsDistinct eq (map key rows)) (sym parts)
              (IsDistinct-cons eq (key x) (map key rest) all distinct)),
          λ h. IsDistinct-tail eq (key x) (map key rest)
              (subst (λ rows. IsDistinct eq (map key rows)) parts (so_far.1 h)),
        )

    -- it does
    pub not_distinct :
        (xs : List A) (i : ℕ) (d : A) (b : Bool) → i < length xs
        → b ≡ list_any (λ x. eq (key (get_or xs i d)) (key x)) (drop (i + 1) xs) → b ≡ true
        → (IsDistinct eq (map key (drop i xs)) ↔ IsDistinct eq (map key xs))
        → IsTrue false ↔ IsDistinct eq (map key xs)
    not_distinct xs i d b within is again so_far =
        let x = get_or xs i d in
        let rest = drop (i + 1) xs in (
          λ h. absurd (cc),
          λ h.
              let whole : IsDistinct eq (key x ∷ map key rest) =
              subst (λ rows. IsDistinct eq (map key rows)) (opened xs i d within) (so_far.1 h) in
              let none =
              any_key (key x) rest ∙ none_in (key x) (map key rest) (IsDistinct-head eq (key x) (map key rest) whole) in
              absurd (cc),
        )

    -- none is left
    pub all_distinct :
        (xs : List A) (i : ℕ) → length xs ≤ i
        → (IsDistinct eq (map key (drop i xs)) ↔ IsDistinct eq (map key xs))
        → IsTrue true ↔ IsDistinct eq (map key xs)
    unfolding IsDistinct
    all_distinct xs i past so_far =
        let none : drop i xs ≡ [] = drop_of_length-le xs past in
        let rest : IsDistinct eq (map key (drop i xs)) = rw none tt in
        (λ h. so_far.0 rest, λ h. refl)
