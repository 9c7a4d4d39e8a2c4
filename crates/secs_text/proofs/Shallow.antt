-- In what was read no list stands too deep.
use Rattle.std.proofs.Common.{◌≡◌, ℕ, zero, suc, false, ◌⊎◌, inl, inr, List, [], ◌∷◌, refl, sym, ap, subst}
use Rattle.std.specs.List.{AllByRecursion}
use Rattle.secs_items.specs.declared.item.Item.{Item, out-Item}
use Rattle.secs_items.specs.declared.item.Item.TheOpen.{Item-F}
use Rattle.secs_items.specs.Kinds.{is_list}
use Rattle.secs_items.specs.Layers.{items_of, kind_of}
use Rattle.secs_items.specs.Spelling.{HasContent, Spells, SpellsEach, SpellsWithin}
use Rattle.secs_text.specs.Grammar.{AfterBlanks, HasElements, InTurn, IsItemText, IsShallow, Kept, NestsWithin, ReadsAs, ReadsWithin}

list_or_leaf : (x : Item-F Item) → ((items : List Item) × (x ≡ Item-F.L items)) ⊎ ((is_list (kind_of x) ≡ false) × (items_of x ≡ []))
list_or_leaf (Item-F.L items) = inl (items, refl)
list_or_leaf (Item-F.B ys) = inr (refl, refl)
list_or_leaf (Item-F.Bool ys) = inr (refl, refl)
list_or_leaf (Item-F.A ys) = inr (refl, refl)
list_or_leaf (Item-F.J ys) = inr (refl, refl)
list_or_leaf (Item-F.I1 ys) = inr (refl, refl)
list_or_leaf (Item-F.I2 ys) = inr (refl, refl)
list_or_leaf (Item-F.I4 ys) = inr (refl, refl)
list_or_leaf (Item-F.I8 ys) = inr (refl, refl)
list_or_leaf (Item-F.U1 ys) = inr (refl, refl)
list_or_leaf (Item-F.U2 ys) = inr (refl, refl)
list_or_leaf (Item-F.U4 ys) = inr (refl, refl)
list_or_leaf (Item-F.U8 ys) = inr (refl, refl)
list_or_leaf (Item-F.F4 ys) = inr (refl, refl)
list_or_leaf (Item-F.F8 ys) = inr (refl, refl)

-- where the items of a list would show that there is none
leaf : (x : Item-F Item) → ((items : List Item) → x ≡ Item-F.L items → ⊥) → is_list (kind_of x) ≡ false
leaf x none = elim (list_or_leaf x) [ inl list ↦ absurd (none list.0 list.1) | inr simple ↦ simple.0 ]

each_nests : (Fits : Item → Type 0) (x : Item-F Item) → ((items : List Item) → x ≡ Item-F.L items → AllByRecursion Fits items)
    → AllByRecursion Fits (items_of x)
each_nests Fits x each = elim (list_or_leaf x) [
  | inl list ↦ subst (AllByRecursion Fits) (ap items_of (sym list.1)) (each list.0 list.1)
  | inr simple ↦ subst (AllByRecursion Fits) (sym simple.1) tt
]

-- ---- texts

turn_all : (Is : Item → List ℕ → Type 0) (Fits : Item → Type 0) → ((i : Item) (text : List ℕ) → Is i text → Fits i)
    → (items : List Item) (text : List ℕ) → InTurn (AfterBlanks Is) items text → AllByRecursion Fits items
turn_all Is Fits each [] text t = tt
turn_all Is Fits each (i ∷ items) text t = let a = t.3 in (each i a.1 a.5, turn_all Is Fits each items t.1 t.4)

text_nests : (depth : ℕ) (i : Item) (text : List ℕ) → ReadsWithin Kept depth i text → NestsWithin depth i
text_nests zero i text t = leaf (out-Item i) (λ items is. subst (λ (x : Item-F Item). HasElements Kept (λ _ _. ⊥) x t.elements) is t.holds)
text_nests (suc depth) i text t =
    each_nests (NestsWithin depth) (out-Item i) (λ items is.
    turn_all (ReadsWithin Kept depth) (NestsWithin depth) (text_nests depth) items t.elements (subst (λ (x : Item-F Item). HasElements Kept (InTurn (AfterBlanks (ReadsWithin Kept depth))) x t.elements) is t.holds))

pub text_shallow : (text : List ℕ) (item : Item) → ReadsAs text item → IsShallow item
unfolding IsItemText IsShallow
text_shallow text item r = text_nests 64 item r.inner r.reads

-- ---- bytes

each_all : (Spelled : Item → List ℕ → Type 0) (Fits : Item → Type 0) → ((i : Item) (bytes : List ℕ) → Spelled i bytes → Fits i)
    → (items : List Item) (content : List ℕ) → SpellsEach Spelled items content → AllByRecursion Fits items
each_all Spelled Fits each [] content s = tt
each_all Spelled Fits each (i ∷ items) content s = (each i s.0 s.3, each_all Spelled Fits each items s.1 s.4)

bytes_nest : (depth : ℕ) (i : Item) (bytes : List ℕ) → SpellsWithin depth i bytes → NestsWithin depth i
bytes_nest zero i bytes s = leaf (out-Item i) (λ items is. subst (λ (x : Item-F Item). HasContent (λ _ _. ⊥) x s.content) is s.holds)
bytes_nest (suc depth) i bytes s =
    each_nests (NestsWithin depth) (out-Item i) (λ items is.
    each_all (SpellsWithin depth) (NestsWithin depth) (bytes_nest depth) items s.content (subst (λ (x : Item-F Item). HasContent (SpellsEach (SpellsWithin depth)) x s.content) is s.holds))

pub bytes_shallow : (bytes : List ℕ) (item : Item) → Spells item bytes → IsShallow item
unfolding Spells IsShallow
bytes_shallow bytes item s = bytes_nest 64 item bytes s
