-- What changes in the list where one slot changes.
use Rattle.std.proofs.Common.{◌≡◌, ℕ, ◌+◌, ◌%◌, ◌<◌, ◌≤◌, ◌⊎◌, Bool, true, false, List, [], ◌∷◌, ◌++◌, refl, sym, ap, subst, ◌∙◌, arith, inl, inr}
use Rattle.std.proofs.lemmas.Bool.{cases_eq}
use Rattle.spool_file.specs.Area.{messages_below, put_by_number}
use Rattle.spool_file.specs.Run.{IsChainFrom}
use Rattle.spool_file.specs.Slot.{Message, width}
use Rattle.spool_file.proofs.Areas.{IsSameAt, all_same, each_made, one_more, put_before_last, put_first, put_last}
use Rattle.spool_file.proofs.Areas.{put_later, same_back}
use Rattle.spool_file.proofs.Runs.{IsBetween, IsKept, chain_last, some_width, within}

-- what slots hold, before and now
module _ (stands stands' : ℕ → Bool) (message message' : ℕ → Message) (n first next : ℕ) (is : IsKept stands message n first next) where
  abbrev before : List Message
  before = messages_below stands message n

  abbrev now : List Message
  now = messages_below stands' message' n

  -- the same in all of them
  module _ (same : (k : ℕ) → k < n → IsSameAt stands stands' message message' k) where
    pub same_list : now ≡ before
    same_list = all_same stands stands' message message' n same

    pub same_kept : IsKept stands' message' n first next
    same_kept = record {
      places = λ k less there.
          let at_k = same k less in
          let was : stands k ≡ true = sym at_k.stays ∙ there in
          ap (λ (m : Message). m.number % n) (at_k.same was) ∙ is.places k less was;
      chain = subst (IsChainFrom first next) (sym same_list) is.chain;
    }

  -- the same in all but one
  module _ (j : ℕ) (below : j < n) (same : (k : ℕ) → k < n → (k ≡ j → ⊥) → IsSameAt stands stands' message message' k) where
    -- a message in another one was there
    was_there : (k : ℕ) → k < n → (k ≡ j → ⊥) → stands' k ≡ true → stands k ≡ true
    was_there k less other there = sym (same k less other).stays ∙ there

    place_beside : (k : ℕ) → k < n → (k ≡ j → ⊥) → stands' k ≡ true → (message' k).number % n ≡ k
    place_beside k less other there =
        let was : stands k ≡ true = was_there k less other there in
        ap (λ (m : Message). m.number % n) ((same k less other).same was) ∙ is.places k less was

    -- which holds the next message now
    module _ (none : stands j ≡ false) (there : stands' j ≡ true) (place : (message' j).number % n ≡ j) (number : (message' j).number ≡ next) where
      less_than_next : (k : ℕ) → k < n → stands k ≡ true → (message k).number < next
      less_than_next k less is_there =
          let here : IsBetween first next (message k) = within stands message n first next is k less is_there in
          let some : 1 ≤ width (message k) = some_width (message k) in
          omega (arith, here.1, some)

      here_last : put_by_number (message' j) (messages_below stands message j) ≡ messages_below stands message j ++ message' j ∷ []
      here_last = put_last (message' j) (messages_below stands message j)
          (each_made (λ x. x.number < (message' j).number) stands message j
          (λ k less is_there. omega (arith, less_than_next k (omega (arith, less, below)) is_there, number)))

      pub opens : now ≡ before ++ message' j ∷ []
      opens = one_more stands stands' message message' j (message' j) (λ list. list ++ message' j ∷ []) none there refl here_last n below same
          (λ k less is_there list. put_before_last (message' j) (message k) list (omega (arith, less_than_next k less is_there, number)))

      place_at : (k : ℕ) → (k ≡ j) ⊎ (k ≡ j → ⊥) → k < n → stands' k ≡ true → (message' k).number % n ≡ k
      place_at k (inl here) less is_there = subst (λ i. (message' i).number % n ≡ i) (sym here) place
      place_at k (inr other) less is_there = place_beside k less other is_there

      pub opens_kept : IsKept stands' message' n first (next + width (message' j))
      opens_kept = record {
        places = λ k less is_there. place_at k (cases_eq k j) less is_there;
        chain = subst (IsChainFrom first (next + width (message' j))) (sym opens) (chain_last first next before (message' j) is.chain number);
      }

    -- which held the first message, and none now
    module _ (there : stands j ≡ true) (none : stands' j ≡ false) (number : (message j).number ≡ first) where
      not_here : (k : ℕ) → (k ≡ j) ⊎ (k ≡ j → ⊥) → stands' k ≡ true → k ≡ j → ⊥
      not_here k (inl here) is_there e = absurd (grind (arith, subst (λ i. stands' i ≡ true) here is_there, none))
      not_here k (inr other) is_there e = other e

      over : (k : ℕ) → k < n → stands' k ≡ true → first < (message' k).number
      over k less is_there =
          let other : (k ≡ j → ⊥) = not_here k (cases_eq k j) is_there in
          let was : stands k ≡ true = was_there k less other is_there in
          let from : first ≤ (message k).number = (within stands message n first next is k less was).0 in
          let differ : (first ≡ (message k).number) → ⊥ =
          λ e. other (sym (is.places k less was) ∙ ap (λ (x : ℕ). x % n) (sym e ∙ sym number) ∙ is.places j below there) in
          let more : first < (message k).number = grind (arith, from, differ) in
          subst (λ (m : Message). first < m.number) (sym ((same k less other).same was)) more

      here_first : put_by_number (message j) (messages_below stands' message' j) ≡ message j ∷ messages_below stands' message' j
      here_first = put_first (message j) (messages_below stands' message' j)
          (each_made (λ x. (message j).number < x.number) stands' message' j
          (λ k less is_there. omega (arith, over k (omega (arith, less, below)) is_there, number)))

      pub closes : before ≡ message j ∷ now
      closes = one_more stands' stands message' message j (message j) (λ list. message j ∷ list) none there refl here_first n below
          (λ k less other. same_back stands stands' message message' k (same k less other))
          (λ k less is_there list. put_later (message' k) (message j) list (omega (arith, over k less is_there, number)))

      pub closes_kept : IsKept stands' message' n (first + width (message j)) next
      closes_kept = record {
        places = λ k less is_there. place_beside k less (not_here k (cases_eq k j) is_there) is_there;
        chain = (subst (IsChainFrom first next) closes is.chain).1;
      }
