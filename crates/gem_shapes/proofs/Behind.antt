-- What stands behind the head of an item, and behind an item.
use Rattle.std.proofs.Common.{◌≡◌, ℕ, ◌+◌, ◌*◌, ◌%◌, ◌<◌, List, [], ◌∷◌, ◌++◌, drop, length, Option, Some, None, Ok, refl, sym, ap, ◌∙◌, arith}
use Rattle.std.specs.Option.{option_and_then, option_map, option_zip}
use Rattle.std.proofs.lemmas.List.{append-nil, drop_at}
use Rattle.secs_items.specs.declared.item.Item.{Item, out-Item}
use Rattle.secs_items.specs.Kinds.{code_of}
use Rattle.secs_items.specs.Layers.{kind_of, length_of}
use Rattle.secs_items.specs.Reading.{item_at}
use Rattle.secs_items.specs.Spelling.{HoldsLength, Spells, SpellsFront}
use Rattle.secs_items.specs.Views.{ShowsFront, Viewed}
use Rattle.secs_items.proofs.Faults.{item_rest, rest_of}
use Rattle.secs_items.proofs.SpellLaws.{one_value, spells_front}
use Rattle.gem_shapes.specs.declared.request.Request.{Request}
use Rattle.gem_shapes.specs.declared.request.Request.TheVariants as request
use Rattle.gem_shapes.specs.declared.request.RecipesRequest.TheVariants as recipes_request
use Rattle.gem_shapes.specs.Elements.{anything, ppid, two}
use Rattle.gem_shapes.specs.Requests.{IsAskedByItem, IsFound, behind_first, behind_head, behind_item, left_behind, sent}

-- behind an item that is spelled
pub item_left : (bytes : List ℕ) (item : Item) (rest : List ℕ) → SpellsFront item bytes rest → rest ≡ behind_item bytes
item_left bytes item rest s =
    let read : item_at (length bytes) 64 bytes ≡ Ok (item, rest) =
    ap (item_at (length bytes) 64) s.parts ∙ spells_front (length bytes) item s.front rest s.spelled in
    sym (ap left_behind (item_rest (length bytes) 64 bytes ∙ ap rest_of read))

-- a head has one to three length bytes
few_lengths : (n : ℕ) (lengths : List ℕ) → HoldsLength n lengths → length lengths < 4
few_lengths n [] holds = absurd holds
few_lengths n (a ∷ []) holds = omega (arith)
few_lengths n (a ∷ b ∷ []) holds = omega (arith)
few_lengths n (a ∷ b ∷ c ∷ []) holds = omega (arith)
few_lengths n (a ∷ b ∷ c ∷ d ∷ lengths) holds = absurd holds

-- behind the head of the item that the bytes are
pub head_left : (bytes : List ℕ) (v : Viewed) → ShowsFront bytes v [] → v.content ≡ behind_head bytes
head_left bytes v shown =
    let kind = kind_of (out-Item v.item) in
    let lengths = shown.is_head.lengths in
    let more : List ℕ = v.content ++ [] in
    let few = few_lengths (length_of (out-Item v.item)) lengths shown.is_head.holds in
    let count : (4 * code_of kind + length lengths) % 4 ≡ length lengths = omega (arith, few) in
    sym
    (ap behind_head shown.parts
    ∙ ap (λ (head : List ℕ). behind_head (head ++ more)) shown.is_head.placed
    ∙ ap (λ n. drop n (lengths ++ more)) count
    ∙ drop_at lengths more (length lengths) refl
    ∙ append-nil v.content)

-- ---- a name, and the bytes behind it

-- what S7F3 asks for, by its first item
abbrev sent_by : List ℕ → Option Item → Option Request
sent_by behind first =
    option_map (λ name. request.OfRecipes (recipes_request.Send name behind)) (option_and_then ppid first)

-- the first of the two items
abbrev first_of : Item → Option Item
first_of item = option_map (λ (items : Item × Item). items.0) (two item)

sent_is : (item : Item) (behind : List ℕ) → sent item behind ≡ sent_by behind (first_of item)
sent_is item behind = go (two item)
  where
    named : (items : Item × Item) (name : Option (List ℕ))
        → option_map (λ x. request.OfRecipes (recipes_request.Send x.0 behind)) (option_zip name (anything items.1))
        ≡ option_map (λ n. request.OfRecipes (recipes_request.Send n behind)) name
    named items None = refl
    named items (Some name) = refl

    go : (o : Option (Item × Item))
        → option_map (λ x. request.OfRecipes (recipes_request.Send x.0 behind))
        (option_and_then (λ items. option_zip (ppid items.0) (anything items.1)) o)
        ≡ sent_by behind (option_map (λ (items : Item × Item). items.0) o)
    go None = refl
    go (Some items) = named items (ppid items.0)

-- no recipe is read where there is no first item
pub none_sent : (item : Item) (behind : List ℕ) → None ≡ first_of item → None ≡ sent item behind
none_sent item behind none = ap (sent_by behind) none ∙ sym (sent_is item behind)

-- it is read by the name that the first item is, with what is behind that
pub recipe_sent :
    (item : Item) (behind rest : List ℕ) (first : Item) (name : Option (List ℕ)) → Some first ≡ first_of item
    → rest ≡ behind → name ≡ ppid first
    → option_map (λ n. request.OfRecipes (recipes_request.Send n rest)) name ≡ sent item behind
recipe_sent item behind rest first name is after named =
    ap (λ (bytes : List ℕ). option_map (λ n. request.OfRecipes (recipes_request.Send n bytes)) name) after
    ∙ ap (option_map (λ n. request.OfRecipes (recipes_request.Send n behind))) named
    ∙ ap (sent_by behind) is
    ∙ sym (sent_is item behind)

-- the request of S7F3 is the one that is read of the body's item
pub sent_found :
    (part : Viewed) (body : List ℕ) (found : Option Request) → Spells part.item body
    → part.content ≡ behind_head body → found ≡ sent part.item (behind_item part.content)
    → IsFound (IsAskedByItem (λ item. sent item (behind_first body)) body) found
sent_found part body found spelled content is = go found (is ∙ ap (λ bytes. sent part.item (behind_item bytes)) content)
  where
    no_request : (r : Request) → ◌≡◌ {A = Option Request} None (Some r) → ⊥
    no_request r same = cc

    go : (o : Option Request) → o ≡ sent part.item (behind_first body)
        → IsFound (IsAskedByItem (λ item. sent item (behind_first body)) body) o
    go None none = λ r asks.
        no_request r
        (none
        ∙ ap (λ item. sent item (behind_first body)) (one_value part.item asks.0 body spelled asks.1)
        ∙ asks.2)
    go (Some r) some = (part.item, spelled, sym some)
