-- A list of entries that is worked through from the front, each judged by what those before it leave.
use Rattle.std.proofs.Common.{◌≡◌, refl, sym, ◌∙◌, ap, subst, ℕ, ◌+◌, ◌<◌, ◌≤◌, List, [], ◌∷◌, length, drop, fold, get_or, add-one, drop_of_length-le, drop-cons}

module _ {P E A : Type 0} (answer_to : P → List E → A) (next : E → P → P) where
  -- what all of them leave
  abbrev pub after : P → List E → P
  after past list = fold (λ so_far entry. next entry so_far) past list

  -- those that are left are answered from here on as all from the start
  pub record IsWorking (Draft : P → Type 0) (past : P) (list rest : List E) : Type 0 where
    pub at : P
    pub draft : Draft at
    pub answer : answer_to at rest ≡ answer_to past list
    pub leaves : after at rest ≡ after past list

  pub begins : (Draft : P → Type 0) (past : P) (list : List E) → Draft past → IsWorking Draft past list list
  begins Draft past list draft = record { at = past; draft = draft; answer = refl; leaves = refl }

  opened : (list : List E) (i : ℕ) (d : E) → i < length list → drop i list ≡ get_or list i d ∷ drop (i + 1) list
  opened list i d within = drop-cons list i d within ∙ ap (λ n. get_or list i d ∷ drop n list) (sym (add-one i))

  -- one entry more, which isn't refused
  pub goes_on :
      (Before After : P → Type 0) (past : P) (list : List E) (i : ℕ) (d : E) → i < length list
      → ((at : P) → Before at → After (next (get_or list i d) at))
      → ((at : P) → Before at → (rest : List E)
      → answer_to (next (get_or list i d) at) rest ≡ answer_to at (get_or list i d ∷ rest))
      → IsWorking Before past list (drop i list) → IsWorking After past list (drop (i + 1) list)
  goes_on Before After past list i d within entered accepted so_far =
      let entry = get_or list i d in
      let at = so_far.at in
      let parts = opened list i d within in
      record {
        at = next entry at;
        draft = entered at so_far.draft;
        answer = accepted at so_far.draft (drop (i + 1) list) ∙ ap (answer_to at) (sym parts) ∙ so_far.answer;
        leaves = ap (after at) (sym parts) ∙ so_far.leaves;
      }

  -- one that is refused
  pub refuses :
      (Draft : P → Type 0) (past : P) (list : List E) (i : ℕ) (d : E) (answer : A) → i < length list
      → ((at : P) → Draft at → (rest : List E) → answer ≡ answer_to at (get_or list i d ∷ rest))
      → IsWorking Draft past list (drop i list) → answer ≡ answer_to past list
  refuses Draft past list i d answer within is so_far =
      is so_far.at so_far.draft (drop (i + 1) list)
      ∙ ap (answer_to so_far.at) (sym (opened list i d within)) ∙ so_far.answer

  -- none is left
  pub ends :
      (Draft : P → Type 0) (past : P) (list : List E) (i : ℕ) (done : A) → length list ≤ i
      → ((at : P) → done ≡ answer_to at []) → IsWorking Draft past list (drop i list)
      → (done ≡ answer_to past list) × Draft (after past list)
  ends Draft past list i done end is so_far =
      let none : drop i list ≡ [] = drop_of_length-le list end in
      let leaves : so_far.at ≡ after past list = ap (after so_far.at) (sym none) ∙ so_far.leaves in
      (is so_far.at ∙ ap (answer_to so_far.at) (sym none) ∙ so_far.answer, subst Draft leaves so_far.draft)
