-- What a message asks for as a function says what it asks for as a relation.
use Rattle.std.proofs.Common.{◌≡◌, refl, sym, ◌∙◌, ap, subst, ℕ, Bool, true, false, cond, ◌||◌, ◌==◌, ◌<◌, List, [], ◌∷◌, get_or, length, Option, Some, None, Result, Ok, Err, inl, inr, arith}
use Rattle.std.proofs.lemmas.Bool.{eqb-true}
use Rattle.std.specs.Option.{option_and_then, option_map_or}
use Rattle.std.specs.Prelude.{IfOk}
use Rattle.secs_items.specs.declared.item.Item.{Item, out-Item}
use Rattle.secs_items.specs.declared.item.Item.TheVariants as item
use Rattle.secs_items.specs.declared.item.Item.TheViews.{roll-out-Item}
use Rattle.secs_items.specs.declared.item_fault.ItemFault.{ItemFault}
use Rattle.secs_items.specs.Reading.{item_at}
use Rattle.secs_items.specs.Spelling.{Spells}
use Rattle.secs_items.proofs.SpellLaws.{read_spells, spells_read}
use Rattle.gem_shapes.specs.declared.primary.Primary.{Primary}
use Rattle.gem_shapes.specs.declared.request.Request.{Request}
use Rattle.gem_shapes.specs.Asked.{asked_by, is_nothing, item_in, request_of, whole_item}
use Rattle.gem_shapes.specs.Elements.{is_empty_list}
use Rattle.gem_shapes.specs.Primaries.{primary_with}
use Rattle.gem_shapes.specs.Requests.{Asks, AsksFor, FitsShape, IsAskedByItem, IsFound, IsNothing, Shape, behind_first, shape_of}
use Rattle.gem_shapes.specs.Requests.Shape.{Anything, ListAndBytes, Nothing, OneItem}
use Rattle.gem_shapes.proofs.Asking.{empty_is, opened_empty}

-- ---- the one item of a body

item_spelled : (i : Item) (body : List ℕ) → Spells i body → item_in body ≡ Some i
item_spelled i body spelled = ap whole_item (spells_read (length body) i body spelled)

no_rest : (rest : List ℕ) → (length rest == 0) ≡ true → rest ≡ []
no_rest [] none = refl
no_rest (b ∷ rest) none = absurd (omega (arith, eqb-true (length (b ∷ rest)) 0 none))

-- each of these is a byte
abbrev pub IsBytes : List ℕ → Type 0
IsBytes bytes = (i : ℕ) → get_or bytes i 0 < 256

spelled_item : (i : Item) (body : List ℕ) → IsBytes body → item_in body ≡ Some i → Spells i body
spelled_item i body bytes is = go (item_at (length body) 64 body) refl is
  where
    of_read : (x : Item × List ℕ) → item_at (length body) 64 body ≡ Ok x → (b : Bool) → (length x.1 == 0) ≡ b
        → cond b (Some x.0) None ≡ Some i → Spells i body
    of_read x read false rest here = absurd (cc)
    of_read x read true rest here =
        let same : x.0 ≡ i = cc in
        subst (λ (j : Item). Spells j body) same (read_spells body x.0 x.1 bytes read (no_rest x.1 rest))

    go : (r : Result (Item × List ℕ) ItemFault) → item_at (length body) 64 body ≡ r → whole_item r ≡ Some i
        → Spells i body
    go (Err e) read here = absurd (cc)
    go (Ok x) read here = of_read x read (length x.1 == 0) refl here

-- ---- nothing

or_true : (b : Bool) → (b || true) ≡ true
or_true true = refl
or_true false = refl

abbrev empty_list_in : Option Item → Bool
empty_list_in o = option_map_or (λ i. is_empty_list (out-Item i)) o false

is_nothing_true : (body : List ℕ) → IsNothing body → is_nothing body ≡ true
is_nothing_true body (inl none) = ap (λ bs. (length bs == 0) || empty_list_in (item_in bs)) none
is_nothing_true body (inr spelled) =
    ap (λ o. (length body == 0) || empty_list_in o) (item_spelled (item.L []) body spelled)
    ∙ ap (λ b. (length body == 0) || b) opened_empty ∙ or_true (length body == 0)

nothing_there : (body : List ℕ) → IsBytes body → is_nothing body ≡ true → IsNothing body
nothing_there body bytes is = go (length body == 0) refl (item_in body) refl is
  where
    go : (b : Bool) → (length body == 0) ≡ b → (o : Option Item) → item_in body ≡ o → (b || empty_list_in o) ≡ true
        → IsNothing body
    go true none o found here = inl (no_rest body none)
    go false some None found here = absurd (cc)
    go false some (Some i) found here =
        inr (subst (λ (j : Item). Spells j body) (empty_is (out-Item i) i (roll-out-Item i) here)
        (spelled_item i body bytes found))

-- ---- the shapes

item_found :
    (read : Item → Option Request) (body : List ℕ) (r : Request) → IsAskedByItem read body r
    → option_and_then read (item_in body) ≡ Some r
item_found read body r fits = ap (option_and_then read) (item_spelled fits.0 body fits.1) ∙ fits.2

item_fits :
    (read : Item → Option Request) (body : List ℕ) (r : Request) → IsBytes body
    → option_and_then read (item_in body) ≡ Some r → IsAskedByItem read body r
item_fits read body r bytes is = go (item_in body) refl is
  where
    go : (o : Option Item) → item_in body ≡ o → option_and_then read o ≡ Some r
        → (i : Item) × Spells i body × (read i ≡ Some r)
    go None found here = absurd (cc)
    go (Some i) found here = (i, spelled_item i body bytes found, here)

shape_found : (shape : Shape) (body : List ℕ) (r : Request) → FitsShape shape body r → asked_by shape body ≡ Some r
shape_found (Anything asked) body r fits = ap (λ q. Some q) (sym fits)
shape_found (Nothing asked) body r fits =
    ap (λ b. cond b (Some asked) None) (is_nothing_true body fits.0) ∙ ap (λ q. Some q) (sym fits.1)
shape_found (OneItem read) body r fits = item_found read body r fits
shape_found (ListAndBytes read) body r fits = item_found (λ item. read item (behind_first body)) body r fits

shape_fits :
    (shape : Shape) (body : List ℕ) (r : Request) → IsBytes body → asked_by shape body ≡ Some r
    → FitsShape shape body r
shape_fits (Anything asked) body r bytes is = cc
shape_fits (Nothing asked) body r bytes is = go (is_nothing body) refl is
  where
    go : (b : Bool) → is_nothing body ≡ b → cond b (Some asked) None ≡ Some r → IsNothing body × (r ≡ asked)
    go true nothing here = (nothing_there body bytes nothing, cc)
    go false some here = absurd (cc)
shape_fits (OneItem read) body r bytes is = item_fits read body r bytes is
shape_fits (ListAndBytes read) body r bytes is = item_fits (λ item. read item (behind_first body)) body r bytes is

abbrev asked_of_primary : List ℕ → Option Primary → Option Request
asked_of_primary body p = option_and_then (λ primary. asked_by (shape_of primary) body) p

found_for :
    (p : Option Primary) (body : List ℕ) (r : Request) → AsksFor p body r → asked_of_primary body p ≡ Some r
found_for None body r asks = absurd asks
found_for (Some p) body r asks = shape_found (shape_of p) body r asks

asks_for :
    (p : Option Primary) (body : List ℕ) (r : Request) → IsBytes body
    → asked_of_primary body p ≡ Some r → AsksFor p body r
asks_for None body r bytes is = absurd (cc)
asks_for (Some p) body r bytes is = shape_fits (shape_of p) body r bytes is

-- what was found is what the function says
found_is :
    (stream function : ℕ) (body : List ℕ) (found : Option Request) → IsBytes body
    → IsFound (Asks stream function body) found → found ≡ request_of stream function body
found_is stream function body (Some r) bytes is = sym (found_for (primary_with stream function) body r is)
found_is stream function body None bytes is = go (request_of stream function body) refl
  where
    go : (o : Option Request) → request_of stream function body ≡ o → None ≡ request_of stream function body
    go None none = sym none
    go (Some r) some = absurd (is r (asks_for (primary_with stream function) body r bytes some))

-- of a call that may run out of memory
pub answer_is :
    {E : Type 0} (stream function : ℕ) (body : List ℕ) (r : Result (Option Request) E) → IsBytes body
    → IfOk r (λ found. IsFound (Asks stream function body) found)
    → IfOk r (λ found. found ≡ request_of stream function body)
answer_is stream function body (Ok found) bytes is = found_is stream function body found bytes is
answer_is stream function body (Err e) bytes is = tt
