-- What bodies ask for: one thing at most; and when a body is nothing.
use Rattle.std.proofs.Common.{◌≡◌, ℕ, suc, Bool, true, List, [], ◌∷◌, Option, Some, None, inl, inr, length, refl, sym, ap, subst, ◌∙◌, length-append, arith}
use Rattle.std.proofs.lemmas.Bool.{eqb-true}
use Rattle.std.specs.Prelude.{IfOk, IsTrue, Result, ◌↔◌}
use Rattle.secs_items.specs.declared.item.Item.{Item, out-Item}
use Rattle.secs_items.specs.declared.item.Item.TheOpen.{Item-F}
use Rattle.secs_items.specs.declared.item.Item.TheVariants as item
use Rattle.secs_items.specs.declared.item.Item.TheVariants.{rolls-L}
use Rattle.secs_items.specs.declared.item.Item.TheViews.{roll-Item, roll-out-Item, out-roll-Item}
use Rattle.secs_items.specs.Spelling.{IsSpelled, Spells, SpellsEach, SpellsWithin}
use Rattle.secs_items.proofs.SpellLaws.{one_value}
use Rattle.gem_shapes.specs.declared.primary.Primary.{Primary}
use Rattle.gem_shapes.specs.declared.primary.Primary.TheVariants as primary
use Rattle.gem_shapes.specs.declared.request.Request.{Request}
use Rattle.gem_shapes.specs.Elements.{is_empty_list}
use Rattle.gem_shapes.specs.Requests.{AsksFor, FitsShape, behind_first, IsAskedByItem, IsFound, IsNothing, Shape, request_in, shape_of}
use Rattle.gem_shapes.specs.Requests.Shape.{Anything, ListAndBytes, Nothing, OneItem}

-- ---- one thing at most

same_request : (r q : Request) → ◌≡◌ {A = Option Request} (Some r) (Some q) → r ≡ q
same_request r q e = cc

one_asked :
    (read : Item → Option Request) (body : List ℕ) (r q : Request) → IsAskedByItem read body r
    → IsAskedByItem read body q → r ≡ q
one_asked read body r q a b = same_request r q (sym a.2 ∙ ap read (one_value a.0 b.0 body a.1 b.1) ∙ b.2)

one_fits : (shape : Shape) (body : List ℕ) (r q : Request) → FitsShape shape body r → FitsShape shape body q → r ≡ q
one_fits (Anything asked) body r q a b = a ∙ sym b
one_fits (Nothing asked) body r q a b = a.1 ∙ sym b.1
one_fits (OneItem read) body r q a b = one_asked read body r q a b
one_fits (ListAndBytes read) body r q a b = one_asked (λ item. read item (behind_first body)) body r q a b

pub one_request : (primary : Option Primary) (body : List ℕ) (r q : Request) → AsksFor primary body r → AsksFor primary body q → r ≡ q
one_request None body r q a b = absurd a
one_request (Some primary) body r q a b = one_fits (shape_of primary) body r q a b

-- ---- nothing

pub empty_is : (x : Item-F Item) (i : Item) → roll-Item x ≡ i → is_empty_list x ≡ true → i ≡ item.L []
empty_is (Item-F.L []) i r e = sym r ∙ rolls-L []
empty_is (Item-F.L (j ∷ items)) i r e = absurd (omega (arith, eqb-true (length (j ∷ items)) 0 e))
empty_is (Item-F.B xs) i r e = absurd cc
empty_is (Item-F.Bool xs) i r e = absurd cc
empty_is (Item-F.A xs) i r e = absurd cc
empty_is (Item-F.J xs) i r e = absurd cc
empty_is (Item-F.I1 xs) i r e = absurd cc
empty_is (Item-F.I2 xs) i r e = absurd cc
empty_is (Item-F.I4 xs) i r e = absurd cc
empty_is (Item-F.I8 xs) i r e = absurd cc
empty_is (Item-F.U1 xs) i r e = absurd cc
empty_is (Item-F.U2 xs) i r e = absurd cc
empty_is (Item-F.U4 xs) i r e = absurd cc
empty_is (Item-F.U8 xs) i r e = absurd cc
empty_is (Item-F.F4 xs) i r e = absurd cc
empty_is (Item-F.F8 xs) i r e = absurd cc

pub opened_empty : is_empty_list (out-Item (item.L [])) ≡ true
opened_empty = ap is_empty_list (ap out-Item (sym (rolls-L [])) ∙ out-roll-Item (Item-F.L []))

-- no item is spelled by no bytes
no_bytes : (i : Item) → Spells i [] → ⊥
unfolding Spells
no_bytes i s =
    let t : IsSpelled (SpellsEach (SpellsWithin 63)) (out-Item i) [] = s in
    let long : length t.head ≡ suc (length t.begins.lengths) = ap length t.begins.placed in
    omega (arith, ap length t.placed, length-append t.head t.content, long)

-- a body that is an item is nothing exactly where the item is an empty list
pub nothing_is : (i : Item) (body : List ℕ) (b : Bool) → Spells i body → b ≡ is_empty_list (out-Item i) → IsTrue b ↔ IsNothing body
nothing_is i body b s e = (
  λ is. inr (subst (λ (j : Item). Spells j body) (empty_is (out-Item i) i (roll-out-Item i) (sym e ∙ is)) s),
  λ nothing.
      elim nothing [
        | inl none ↦ absurd (no_bytes i (subst (Spells i) none s))
        | inr spelled ↦ e ∙ ap (λ (j : Item). is_empty_list (out-Item j)) (one_value i (item.L []) body s spelled) ∙ opened_empty
      ],
)

-- ---- one item

-- of every other primary what it asks for is asked for by one item
pub by_item :
    {E : Type 0} (p : Primary) (body : List ℕ) (r : Result (Option Request) E) → (p ≡ primary.S1F1 → ⊥)
    → (p ≡ primary.S1F13 → ⊥) → (p ≡ primary.S1F15 → ⊥) → (p ≡ primary.S1F17 → ⊥) → (p ≡ primary.S5F7 → ⊥)
    → (p ≡ primary.S7F3 → ⊥) → (p ≡ primary.S7F19 → ⊥)
    → IfOk r (λ found. IsFound (IsAskedByItem (request_in (shape_of p)) body) found)
    → IfOk r (λ found. IsFound (AsksFor (Some p) body) found)
by_item primary.S1F1 body r a b c d e f g h = absurd (a refl)
by_item primary.S1F3 body r a b c d e f g h = h
by_item primary.S1F11 body r a b c d e f g h = h
by_item primary.S1F13 body r a b c d e f g h = absurd (b refl)
by_item primary.S1F15 body r a b c d e f g h = absurd (c refl)
by_item primary.S1F17 body r a b c d e f g h = absurd (d refl)
by_item primary.S2F13 body r a b c d e f g h = h
by_item primary.S2F15 body r a b c d e f g h = h
by_item primary.S2F23 body r a b c d e f g h = h
by_item primary.S2F29 body r a b c d e f g h = h
by_item primary.S2F33 body r a b c d e f g h = h
by_item primary.S2F35 body r a b c d e f g h = h
by_item primary.S2F37 body r a b c d e f g h = h
by_item primary.S2F39 body r a b c d e f g h = h
by_item primary.S2F41 body r a b c d e f g h = h
by_item primary.S2F43 body r a b c d e f g h = h
by_item primary.S5F3 body r a b c d e f g h = h
by_item primary.S5F5 body r a b c d e f g h = h
by_item primary.S5F7 body r a b c d e f g h = absurd (e refl)
by_item primary.S6F15 body r a b c d e f g h = h
by_item primary.S6F19 body r a b c d e f g h = h
by_item primary.S6F23 body r a b c d e f g h = h
by_item primary.S7F1 body r a b c d e f g h = h
by_item primary.S7F3 body r a b c d e f g h = absurd (f refl)
by_item primary.S7F5 body r a b c d e f g h = h
by_item primary.S7F17 body r a b c d e f g h = h
by_item primary.S7F19 body r a b c d e f g h = absurd (g refl)
by_item primary.S10F3 body r a b c d e f g h = h
by_item primary.S10F5 body r a b c d e f g h = h
