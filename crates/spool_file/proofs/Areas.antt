-- Lists of the messages that slots hold, where one slot holds one more.
use Rattle.std.proofs.Common.{◌≡◌, ℕ, zero, suc, ◌<◌, ◌≤◌, ◌⊎◌, nat_lt, Bool, true, false, if◌then◌else◌, List, [], ◌∷◌, ◌++◌, refl, sym, ap, subst, ◌∙◌, arith, inl, inr}
use Rattle.std.proofs.lemmas.Bool.{cases_eq}
use Rattle.std.proofs.lemmas.Bool.Decides.{nat_tests}
use Rattle.spool_file.specs.Area.{messages_below, put_by_number, put_if}
use Rattle.spool_file.specs.Slot.{Message}

-- all messages of a list
abbrev pub Each : (Message → Type 0) → List Message → Type 0
Each P [] = Unit {0}
Each P (x ∷ list) = P x × Each P list

pub each_so : (P Q : Message → Type 0) (list : List Message) → ((m : Message) → P m → Q m) → Each P list → Each Q list
each_so P Q [] so each = tt
each_so P Q (x ∷ list) so each = (so x each.0, each_so P Q list so each.1)

each_if : (P : Message → Type 0) (b : Bool) (m x : Message) (list more : List Message) → P m → P x → Each P list → Each P more →
    Each P (if b then m ∷ x ∷ list else x ∷ more)
each_if P true m x list more here first each rest = (here, (first, each))
each_if P false m x list more here first each rest = (first, rest)

pub each_put : (P : Message → Type 0) (m : Message) (list : List Message) → P m → Each P list → Each P (put_by_number m list)
each_put P m [] here each = (here, tt)
each_put P m (x ∷ list) here each =
    each_if P (nat_lt m.number x.number) m x list (put_by_number m list) here each.0 each.1 (each_put P m list here each.1)

each_from_if : (P : Message → Type 0) (b : Bool) (m x : Message) (list more : List Message) → (Each P more → P m × Each P list) →
    Each P (if b then m ∷ x ∷ list else x ∷ more) → P m × Each P (x ∷ list)
each_from_if P true m x list more rest each = (each.0, each.1)
each_from_if P false m x list more rest each = ((rest each.1).0, (each.0, (rest each.1).1))

pub each_from_put : (P : Message → Type 0) (m : Message) (list : List Message) → Each P (put_by_number m list) → P m × Each P list
each_from_put P m [] each = each
each_from_put P m (x ∷ list) each =
    each_from_if P (nat_lt m.number x.number) m x list (put_by_number m list) (each_from_put P m list) each

each_put_if : (P : Message → Type 0) (b : Bool) (m : Message) (list : List Message) → (b ≡ true → P m) → Each P list → Each P (put_if b m list)
each_put_if P true m list here each = each_put P m list (here refl) each
each_put_if P false m list here each = each

each_from_put_if : (P : Message → Type 0) (b : Bool) (m : Message) (list : List Message) → Each P (put_if b m list) → (b ≡ true → P m) × Each P list
each_from_put_if P true m list each = let both = each_from_put P m list each in (λ is. both.0, both.1)
each_from_put_if P false m list each = (λ is. absurd (grind (arith, is)), each)

-- what the messages of all slots have, all messages of the list have
pub each_made : (P : Message → Type 0) (stands : ℕ → Bool) (message : ℕ → Message) (n : ℕ) →
    ((k : ℕ) → k < n → stands k ≡ true → P (message k)) → Each P (messages_below stands message n)
each_made P stands message zero all = tt
each_made P stands message (suc n) all =
    each_put_if P (stands n) (message n) (messages_below stands message n) (all n (omega arith))
    (each_made P stands message n (λ k below. all k (omega (arith, below))))

-- and the other way round
at_or_below : (P : Message → Type 0) (stands : ℕ → Bool) (message : ℕ → Message) (k n : ℕ) → (k ≡ n) ⊎ (k ≡ n → ⊥) → k < suc n → stands k ≡ true →
    (stands n ≡ true → P (message n)) → (k < n → P (message k)) → P (message k)
at_or_below P stands message k n (inl same) below there here before =
    subst (λ j. P (message j)) (sym same) (here (subst (λ j. stands j ≡ true) same there))
at_or_below P stands message k n (inr other) below there here before = before (grind (arith, below, other))

pub each_there : (P : Message → Type 0) (stands : ℕ → Bool) (message : ℕ → Message) (n k : ℕ) → Each P (messages_below stands message n) → k < n →
    stands k ≡ true → P (message k)
each_there P stands message zero k each below there = absurd (omega (arith, below))
each_there P stands message (suc n) k each below there =
    let both = each_from_put_if P (stands n) (message n) (messages_below stands message n) each in
    at_or_below P stands message k n (cases_eq k n) below there both.0 (λ less. each_there P stands message n k both.1 less there)

-- where no slot holds a message there is none
pub none_there : (stands : ℕ → Bool) (message : ℕ → Message) (n : ℕ) → ((k : ℕ) → k < n → stands k ≡ false) → messages_below stands message n ≡ []
none_there stands message zero none = refl
none_there stands message (suc k) none =
    ap (λ (b : Bool). put_if b (message k) (messages_below stands message k)) (none k (omega arith))
    ∙ none_there stands message k (λ j below. none j (omega (arith, below)))

-- put at the end and in front
put_here : (m x : Message) (list : List Message) → m.number < x.number → put_by_number m (x ∷ list) ≡ m ∷ x ∷ list
put_here m x list less =
    let is : nat_lt m.number x.number ≡ true = grind (arith, nat_tests, less) in
    ap (λ (b : Bool). if b then m ∷ x ∷ list else x ∷ put_by_number m list) is

pub put_later : (m x : Message) (list : List Message) → x.number ≤ m.number → put_by_number m (x ∷ list) ≡ x ∷ put_by_number m list
put_later m x list less =
    let is : nat_lt m.number x.number ≡ false = grind (arith, nat_tests, less) in
    ap (λ (b : Bool). if b then m ∷ x ∷ list else x ∷ put_by_number m list) is

pub put_last : (m : Message) (list : List Message) → Each (λ x. x.number < m.number) list → put_by_number m list ≡ list ++ m ∷ []
put_last m [] each = refl
put_last m (x ∷ list) each = put_later m x list (omega (arith, each.0)) ∙ ap (λ (l : List Message). x ∷ l) (put_last m list each.1)

pub put_before_last : (m y : Message) (list : List Message) → y.number < m.number →
    put_by_number y (list ++ m ∷ []) ≡ put_by_number y list ++ m ∷ []
put_before_last m y [] less = put_here y m [] less
put_before_last m y (x ∷ list) less = by_test (nat_lt y.number x.number) (put_before_last m y list less) where
  by_test : (b : Bool) → put_by_number y (list ++ m ∷ []) ≡ put_by_number y list ++ m ∷ [] →
      (if b then y ∷ x ∷ (list ++ m ∷ []) else x ∷ put_by_number y (list ++ m ∷ [])) ≡ (if b then y ∷ x ∷ list else x ∷ put_by_number y list) ++ m ∷ []
  by_test true is = refl
  by_test false is = ap (λ (l : List Message). x ∷ l) is

pub put_first : (m : Message) (list : List Message) → Each (λ x. m.number < x.number) list → put_by_number m list ≡ m ∷ list
put_first m [] each = refl
put_first m (x ∷ list) each = put_here m x list each.0

-- a slot holds one message both times, or none both times
pub record IsSameAt (stands stands' : ℕ → Bool) (message message' : ℕ → Message) (k : ℕ) : Type 0 where
  pub stays : stands' k ≡ stands k
  pub same : stands k ≡ true → message' k ≡ message k

pub same_back : (stands stands' : ℕ → Bool) (message message' : ℕ → Message) (k : ℕ) → IsSameAt stands stands' message message' k →
    IsSameAt stands' stands message' message k
same_back stands stands' message message' k is = record { stays = sym is.stays; same = λ there. sym (is.same (sym is.stays ∙ there)) }

put_either : (b : Bool) (m m' : Message) (list : List Message) → (b ≡ true → m' ≡ m) → put_if b m' list ≡ put_if b m list
put_either true m m' list is = ap (λ x. put_by_number x list) (is refl)
put_either false m m' list is = refl

put_same : (stands stands' : ℕ → Bool) (message message' : ℕ → Message) (k : ℕ) → IsSameAt stands stands' message message' k → (list : List Message) →
    put_if (stands' k) (message' k) list ≡ put_if (stands k) (message k) list
put_same stands stands' message message' k is list =
    ap (λ b. put_if b (message' k) list) is.stays ∙ put_either (stands k) (message k) (message' k) list is.same

-- where all slots do, the list is the same
pub all_same : (stands stands' : ℕ → Bool) (message message' : ℕ → Message) (n : ℕ) → ((k : ℕ) → k < n → IsSameAt stands stands' message message' k) →
    messages_below stands' message' n ≡ messages_below stands message n
all_same stands stands' message message' zero same = refl
all_same stands stands' message message' (suc n) same =
    put_same stands stands' message message' n (same n (omega arith)) (messages_below stands' message' n)
    ∙ ap (λ list. put_if (stands n) (message n) list) (all_same stands stands' message message' n (λ k below. same k (omega (arith, below))))

-- one slot holds one more, of which the list is changed so
module _ (stands stands' : ℕ → Bool) (message message' : ℕ → Message) (j : ℕ) (m : Message) (change : List Message → List Message)
    (none : stands j ≡ false) (there : stands' j ≡ true) (is_m : message' j ≡ m)
    (here : put_by_number m (messages_below stands message j) ≡ change (messages_below stands message j)) where
  abbrev before : ℕ → List Message
  before n = messages_below stands message n

  abbrev now : ℕ → List Message
  now n = messages_below stands' message' n

  abbrev Same : ℕ → Type 0
  Same k = IsSameAt stands stands' message message' k

  -- what is put later is put into the changed list as into the other one
  abbrev Moves : ℕ → Type 0
  Moves k = stands k ≡ true → (list : List Message) → put_by_number (message k) (change list) ≡ change (put_by_number (message k) list)

  at_j : ((k : ℕ) → k < j → Same k) → now (suc j) ≡ change (before (suc j))
  at_j same =
      ap (λ b. put_if b (message' j) (now j)) there
      ∙ ap (λ x. put_by_number x (now j)) is_m
      ∙ ap (λ list. put_by_number m list) (all_same stands stands' message message' j same)
      ∙ here
      ∙ ap (λ b. change (put_if b (message j) (before j))) (sym none)

  change_if : (b : Bool) (x : Message) (list : List Message) → (b ≡ true → put_by_number x (change list) ≡ change (put_by_number x list)) →
      put_if b x (change list) ≡ change (put_if b x list)
  change_if true x list is = is refl
  change_if false x list is = refl

  after : (n : ℕ) → Same n → Moves n → now n ≡ change (before n) → now (suc n) ≡ change (before (suc n))
  after n same moves so_far =
      put_same stands stands' message message' n same (now n)
      ∙ ap (λ list. put_if (stands n) (message n) list) so_far
      ∙ change_if (stands n) (message n) (before n) (λ is. moves is (before n))

  by_place : (n : ℕ) → (j ≡ n) ⊎ (j ≡ n → ⊥) → j < suc n → ((k : ℕ) → k < suc n → (k ≡ j → ⊥) → Same k) →
      ((k : ℕ) → k < suc n → Moves k) → (j < n → now n ≡ change (before n)) → now (suc n) ≡ change (before (suc n))
  by_place n (inl is) within same moves so_far =
      subst (λ k. now (suc k) ≡ change (before (suc k))) is
      (at_j (λ k below. same k (omega (arith, below, is)) (λ e. omega (arith, e, below))))
  by_place n (inr other) within same moves so_far =
      let less : j < n = grind (arith, within, other) in
      after n (same n (omega arith) (λ e. other (sym e))) (moves n (omega arith)) (so_far less)

  pub one_more : (n : ℕ) → j < n → ((k : ℕ) → k < n → (k ≡ j → ⊥) → Same k) → ((k : ℕ) → k < n → Moves k) → now n ≡ change (before n)
  one_more zero within same moves = absurd (omega (arith, within))
  one_more (suc n) within same moves =
      by_place n (cases_eq j n) within same moves
      (λ less. one_more n less (λ k below. same k (omega (arith, below))) (λ k below. moves k (omega (arith, below))))
