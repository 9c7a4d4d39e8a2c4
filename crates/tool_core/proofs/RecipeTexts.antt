-- The text of a recipe, part by part, and whether it may be sent.
use Rattle.std.proofs.Common.{◌≡◌, ◌<◌, ◌≤◌, ◌+◌, ◌*◌, ◌/◌, ◌%◌, sym, ap, ◌∙◌, ℕ, Bool, true, false, cond, List, [], ◌∷◌, ◌++◌, length, length-append, nat_lt, not, ◌||◌, arith}
use Rattle.std.proofs.lemmas.Bool.Decides.{nat_tests}
use Rattle.std.specs.List.{list_all}
use Rattle.equipment_tables.specs.declared.answers.Answer.TheVariants as answer
use Rattle.secs_items.specs.declared.item.Item.TheFolds.{fold-roll-Item}
use Rattle.secs_items.specs.declared.item.Item.TheOpen.{Item-F}
use Rattle.secs_items.specs.declared.item.Item.TheVariants as item
use Rattle.secs_items.specs.declared.item.Item.TheVariants.{rolls-A}
use Rattle.secs_items.specs.declared.kind.Kind.TheVariants as kind
use Rattle.secs_items.specs.Kinds.{code_of}
use Rattle.secs_items.specs.Spelling.{shortest_head, shortest_layer, shortest_spelling}
use Rattle.tool_step.specs.Recipes.{bounded_text, recipe_text}

above : (n most : ℕ) → nat_lt n most ≡ true → n < most
above n most is = grind (arith, nat_tests)

not_above : (n most : ℕ) → nat_lt n most ≡ false → most ≤ n
not_above n most is = grind (arith, nat_tests)

below : (n most : ℕ) → n < most → nat_lt n most ≡ true
below n most less = grind (arith, nat_tests)

not_below : (n most : ℕ) → most ≤ n → nat_lt n most ≡ false
not_below n most more = grind (arith, nat_tests)

-- the length bytes of one that one byte holds, or that it doesn't
abbrev lengths_if : Bool → ℕ → List ℕ
lengths_if short n =
    cond short (n ∷ [])
    (cond (nat_lt n 65536) (n / 256 ∷ n % 256 ∷ []) (n / 65536 ∷ n / 256 % 256 ∷ n % 256 ∷ []))

short_head : (n : ℕ) → n < 256 → shortest_head kind.A n ≡ 65 ∷ n ∷ []
short_head n short =
    ap (λ b. (4 * code_of kind.A + length (lengths_if b n)) ∷ lengths_if b n) (below n 256 short)

-- A of fewer bytes than 256
short_spelling : (text : List ℕ) → length text < 256 → shortest_spelling (item.A text) ≡ 65 ∷ length text ∷ text
short_spelling text short =
    let same : 1 * length text ≡ length text = omega (arith) in
    ap shortest_spelling (sym (rolls-A text))
    ∙ fold-roll-Item (List ℕ) shortest_layer (Item-F.A text)
    ∙ ap (λ n. shortest_head kind.A n ++ text) same
    ∙ ap (λ head. head ++ text) (short_head (length text) short)

-- the text of a recipe: L of two, the head of its name, the name and its body
recipe_is :
    (name body : List ℕ) → length name < 256
    → ((1 ∷ 2 ∷ 65 ∷ length name ∷ []) ++ name) ++ body ≡ recipe_text name body
recipe_is name body short = sym (ap (λ spelled. 1 ∷ 2 ∷ (spelled ++ body)) (short_spelling name short))

recipe_long :
    (name body : List ℕ) → length name < 256 → length (recipe_text name body) ≡ length body + (4 + length name)
recipe_long name body short =
    let whole = ap (λ (text : List ℕ). length text) (sym (recipe_is name body short)) in
    let parts = length-append ((1 ∷ 2 ∷ 65 ∷ length name ∷ []) ++ name) body in
    let first = length-append (1 ∷ 2 ∷ 65 ∷ length name ∷ []) name in
    omega (arith, whole, parts, first)

-- ---- whether it may be sent

is_past : (most : ℕ) (text : List ℕ) → most < length text → answer.TooLong ≡ bounded_text most text
is_past most text more =
    sym
    (ap (λ b. cond (b || not (list_all (λ byte. nat_lt byte 256) text)) answer.TooLong (answer.Body text))
    (below most (length text) more))

is_sent :
    (most : ℕ) (text : List ℕ) → length text ≤ most → list_all (λ byte. nat_lt byte 256) text ≡ true
    → answer.Body text ≡ bounded_text most text
is_sent most text fits all =
    sym
    (ap (λ b. cond (b || not (list_all (λ byte. nat_lt byte 256) text)) answer.TooLong (answer.Body text))
    (not_below most (length text) fits)
    ∙ ap (λ b. cond (not b) answer.TooLong (answer.Body text)) all)

-- where the name and the body come to more bytes than may be sent
pub past_text :
    (most : ℕ) (name bytes body : List ℕ) → bytes ≡ name → length name < 256
    → nat_lt most (length body + (4 + length bytes)) ≡ true → answer.TooLong ≡ bounded_text most (recipe_text name body)
past_text most name bytes body same short more =
    let long = ap (λ (text : List ℕ). length text) same in
    let over = above most (length body + (4 + length bytes)) more in
    is_past most (recipe_text name body) (omega (arith, long, over, recipe_long name body short))

-- where they don't, the text is made of its parts
pub made_text :
    (most : ℕ) (name bytes body text : List ℕ) → bytes ≡ name → length name < 256
    → nat_lt most (length body + (4 + length bytes)) ≡ false
    → text ≡ ((1 ∷ 2 ∷ 65 ∷ length bytes ∷ []) ++ bytes) ++ body
    → list_all (λ byte. nat_lt byte 256) text ≡ true
    → (answer.Body text ≡ bounded_text most (recipe_text name body)) × (length text ≤ most)
made_text most name bytes body text same short fits made all =
    let is =
    made
    ∙ ap (λ (one : List ℕ). ((1 ∷ 2 ∷ 65 ∷ length one ∷ []) ++ one) ++ body) same
    ∙ recipe_is name body short in
    let long = ap (λ (one : List ℕ). length one) same in
    let size = ap (λ (one : List ℕ). length one) is in
    let within : length text ≤ most =
    omega (arith, long, size, not_above most (length body + (4 + length bytes)) fits, recipe_long name body short) in
    (is_sent most text within all ∙ ap (bounded_text most) is, within)
