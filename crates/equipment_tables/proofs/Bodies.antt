-- Bodies as bytes, and those that are too long.
use Rattle.std.proofs.Common.{◌≡◌, refl, sym, ◌∙◌, ap, subst, ℕ, Bool, true, false, cond, not, ◌||◌, ◌<◌, suc, List, [], ◌∷◌, get_or, length, nat_lt, is_some, Option, Some, None, Result, Ok, Err, arith}
use Rattle.std.proofs.lemmas.Bool.Decides.{nat_tests}
use Rattle.std.specs.List.{list_all}
use Rattle.std.specs.Prelude.{IfOk}
use Rattle.secs_items.specs.declared.encode_fault.EncodeFault.{EncodeFault}
use Rattle.secs_items.specs.declared.item.Item.{Item}
use Rattle.secs_items.specs.Encoding.{encode_fault}
use Rattle.secs_items.specs.Spelling.{shortest_spelling}
use Rattle.equipment_tables.specs.declared.answers.Answer.{Answer}
use Rattle.equipment_tables.specs.declared.answers.Answer.TheVariants as answer
use Rattle.equipment_tables.specs.Answers.{IsWithin, has_bytes, spelled_body}

abbrev by_tests : Bool → Bool → Bool → Item → Answer
by_tests past fault bytes item =
    cond (past || (fault || not bytes)) answer.TooLong (answer.Body (shortest_spelling item))

abbrev is_past : ℕ → Item → Bool
is_past max_body item = nat_lt max_body (length (shortest_spelling item))

-- past the limit
pub too_long :
    (max_body : ℕ) (item : Item) (b : Bool) → b ≡ is_past max_body item → b ≡ true
    → answer.TooLong ≡ spelled_body max_body item
too_long max_body item b is past =
    ap (λ (c : Bool). by_tests c (is_some (encode_fault item)) (has_bytes item) item) (sym past ∙ is)

-- without a spelling
pub not_spelled :
    (max_body : ℕ) (item : Item) (fault : EncodeFault) → is_past max_body item ≡ false
    → encode_fault item ≡ Some fault → answer.TooLong ≡ spelled_body max_body item
not_spelled max_body item fault within is =
    ap (λ (c : Bool). by_tests c true (has_bytes item) item) (sym within)
    ∙ ap (λ (o : Option EncodeFault). by_tests (is_past max_body item) (is_some o) (has_bytes item) item) (sym is)

-- spelled
pub body_is :
    (max_body : ℕ) (item : Item) (bytes : List ℕ) → is_past max_body item ≡ false → encode_fault item ≡ None
    → list_all (λ byte. nat_lt byte 256) bytes ≡ true → bytes ≡ shortest_spelling item
    → answer.Body bytes ≡ spelled_body max_body item
body_is max_body item bytes within none each is =
    let are : has_bytes item ≡ true = ap (list_all (λ byte. nat_lt byte 256)) (sym is) ∙ each in
    ap answer.Body is
    ∙ ap (λ (c : Bool). by_tests c false true item) (sym within)
    ∙ ap (λ (o : Option EncodeFault). by_tests (is_past max_body item) (is_some o) true item) (sym none)
    ∙ ap (λ (c : Bool). by_tests (is_past max_body item) (is_some (encode_fault item)) c item) (sym are)

-- a row's body that was built, since it isn't past the limit
pub row_is :
    {E : Type 0} (max_body : ℕ) (made wanted : Item) (b : Bool) (r : Result Answer E) → made ≡ wanted
    → b ≡ is_past max_body wanted → b ≡ false
    → ((m : ℕ) → is_past m made ≡ false → IfOk r (λ a. a ≡ spelled_body m made))
    → IfOk r (λ a. a ≡ spelled_body max_body wanted)
row_is max_body made wanted b r same is within spelled =
    subst (λ (i : Item). IfOk r (λ a. a ≡ spelled_body max_body i)) same
    (spelled max_body (ap (is_past max_body) same ∙ sym is ∙ within))

-- each element is a byte
pub all_bytes : (bytes : List ℕ) → ((i : ℕ) → get_or bytes i 0 < 256) → list_all (λ byte. nat_lt byte 256) bytes ≡ true
all_bytes [] each = refl
all_bytes (b ∷ bytes) each =
    let first : nat_lt b 256 ≡ true = let here = each 0 in grind (arith, nat_tests) in
    rw first (all_bytes bytes (λ i. each (suc i)))

-- ---- what is sent has no more bytes than may be sent

pub spelled_within : (max_body : ℕ) (item : Item) → IsWithin max_body (spelled_body max_body item)
spelled_within max_body item = go (is_past max_body item) (is_some (encode_fault item)) (has_bytes item) refl
  where
    go : (past fault bytes : Bool) → is_past max_body item ≡ past
        → IsWithin max_body (by_tests past fault bytes item)
    go true fault bytes past = tt
    go false true bytes past = tt
    go false false false past = tt
    go false false true past = grind (arith, nat_tests, past)

pub body_within :
    {E : Type 0} (max_body : ℕ) (item : Item) (r : Result Answer E) → IfOk r (λ a. a ≡ spelled_body max_body item)
    → IfOk r (IsWithin max_body)
body_within max_body item (Ok a) is = subst (IsWithin max_body) (sym is) (spelled_within max_body item)
body_within max_body item (Err e) is = tt
