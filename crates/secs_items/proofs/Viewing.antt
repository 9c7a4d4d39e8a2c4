-- What a view shows, from the parts that it keeps.
use Rattle.std.proofs.Common.{◌≡◌, ℕ, zero, suc, ◌*◌, ◌/◌, true, false, List, [], ◌∷◌, length, drop, get_or, Some, None, Result, Ok, Err, refl, sym, ap, subst, ◌∙◌, arith}
use Rattle.std.specs.Int.{w8, w16, w32, w64, from_be_bytes}
use Rattle.std.proofs.lemmas.List.{take_all}
use Rattle.secs_items.specs.declared.item.Item.{Item, out-Item}
use Rattle.secs_items.specs.declared.item.Item.TheOpen.{Item-F}
use Rattle.secs_items.specs.declared.item_fault.ItemFault.{ItemFault}
use Rattle.secs_items.specs.declared.kind.Kind.{Kind}
use Rattle.secs_items.specs.declared.kind.Kind.TheVariants as kind
use Rattle.secs_items.specs.Elements.{elements_at, signed_at}
use Rattle.secs_items.specs.Kinds.{is_list, unit_of}
use Rattle.secs_items.specs.Layers.{kind_of, count_of, length_of, items_of}
use Rattle.secs_items.specs.Reading.{◌>>=◌, after_each, after_item, item_at, items_at}
use Rattle.secs_items.specs.Views.{IsWhole, item_in, items_read, number_of}
use Rattle.secs_items.proofs.Faults.{each_rest, item_rest, rest_of}
use Rattle.secs_items.proofs.HeadLaws.{bind_ok}
use Rattle.secs_items.proofs.ItemLoop.{Reader}
use Rattle.secs_items.proofs.Layers.{out_L, out_B, out_Bool, out_A, out_J, out_I1, out_I2, out_I4, out_I8, out_U1, out_U2, out_U4, out_U8, out_F4, out_F8}

-- ---- the kind

pub kind_in : (k : Kind) (count depth : ℕ) (content : List ℕ) → kind_of (out-Item (item_in k count depth content)) ≡ k
kind_in kind.L count depth content = ap kind_of (out_L (items_read (items_at (item_at 0 depth) count content)))
kind_in kind.B count depth content = ap kind_of (out_B content)
kind_in kind.Bool count depth content = ap kind_of (out_Bool content)
kind_in kind.A count depth content = ap kind_of (out_A content)
kind_in kind.J count depth content = ap kind_of (out_J content)
kind_in kind.I1 count depth content = ap kind_of (out_I1 (elements_at (signed_at w8) 1 (length content / 1) content))
kind_in kind.I2 count depth content = ap kind_of (out_I2 (elements_at (signed_at w16) 2 (length content / 2) content))
kind_in kind.I4 count depth content = ap kind_of (out_I4 (elements_at (signed_at w32) 4 (length content / 4) content))
kind_in kind.I8 count depth content = ap kind_of (out_I8 (elements_at (signed_at w64) 8 (length content / 8) content))
kind_in kind.U1 count depth content = ap kind_of (out_U1 content)
kind_in kind.U2 count depth content = ap kind_of (out_U2 (elements_at (from_be_bytes w16) 2 (length content / 2) content))
kind_in kind.U4 count depth content = ap kind_of (out_U4 (elements_at (from_be_bytes w32) 4 (length content / 4) content))
kind_in kind.U8 count depth content = ap kind_of (out_U8 (elements_at (from_be_bytes w64) 8 (length content / 8) content))
kind_in kind.F4 count depth content = ap kind_of (out_F4 (elements_at (λ raw. raw) 4 (length content / 4) content))
kind_in kind.F8 count depth content = ap kind_of (out_F8 (elements_at (λ raw. raw) 8 (length content / 8) content))

-- ---- how many items or elements

pub from_rest : {A : Type 0} (r : Result (A × List ℕ) ItemFault) (rest : List ℕ) → rest_of r ≡ Ok rest → (x : A) × (r ≡ Ok (x, rest))
from_rest (Ok x) rest e = let same : x.1 ≡ rest = cc in (x.0, ap (λ (bs : List ℕ). Ok (x.0, bs)) same)
from_rest (Err f) rest e = absurd cc

pub items_left : (total depth count : ℕ) (bytes rest : List ℕ) → after_each (after_item total depth) count bytes ≡ Ok rest
    → (items : List Item) × (items_at (item_at total depth) count bytes ≡ Ok (items, rest))
items_left total depth count bytes rest e =
    from_rest (items_at (item_at total depth) count bytes) rest (sym (each_rest (item_at total depth) (after_item total depth) (item_rest total depth) count bytes) ∙ e)

pub items_count : (one : Reader) (count : ℕ) (bytes : List ℕ) (x : List Item × List ℕ) → items_at one count bytes ≡ Ok x → length x.0 ≡ count
items_count one zero bytes x e =
    let none : List Item × List ℕ = ([], bytes) in
    let same : none ≡ x = cc in
    sym (ap (λ (y : List Item × List ℕ). length y.0) same)
items_count one (suc count) bytes x e =
    let a = bind_ok (one bytes) (λ (first : Item × List ℕ). items_at one count first.1 >>= λ others. Ok (first.0 ∷ others.0, others.1)) x e in
    let b = bind_ok (items_at one count a.0.1) (λ (others : List Item × List ℕ). Ok (a.0.0 ∷ others.0, others.1)) x a.2 in
    let made : List Item × List ℕ = (a.0.0 ∷ b.0.0, b.0.1) in
    let same : made ≡ x = cc (b.2) in
    sym (ap (λ (y : List Item × List ℕ). length y.0) same) ∙ ap suc (items_count one count a.0.1 b.0 b.1)

elements_count : {T : Type 0} (read : List ℕ → T) (size count : ℕ) (bytes : List ℕ) → length (elements_at read size count bytes) ≡ count
elements_count read size zero bytes = refl
elements_count read size (suc count) bytes = ap suc (elements_count read size count (drop size bytes))

pub read_as : (r : Result (List Item × List ℕ) ItemFault) (items : List Item) (rest : List ℕ) → r ≡ Ok (items, rest) → items_read r ≡ items
read_as r items rest e = ap items_read e

pub count_in : (k : Kind) (count depth : ℕ) (content : List ℕ) → IsWhole k count depth content
    → count_of (out-Item (item_in k count depth content)) ≡ count
count_in kind.L count depth content whole =
    let e = items_left 0 depth count content [] (whole.items refl) in
    ap count_of (out_L (items_read (items_at (item_at 0 depth) count content))) ∙ ap length (read_as (items_at (item_at 0 depth) count content) e.0 [] e.1) ∙ items_count (item_at 0 depth) count content (e.0, []) e.1
count_in kind.B count depth content whole = ap count_of (out_B content) ∙ omega (arith, whole.elements refl)
count_in kind.Bool count depth content whole = ap count_of (out_Bool content) ∙ omega (arith, whole.elements refl)
count_in kind.A count depth content whole = ap count_of (out_A content) ∙ omega (arith, whole.elements refl)
count_in kind.J count depth content whole = ap count_of (out_J content) ∙ omega (arith, whole.elements refl)
count_in kind.I1 count depth content whole =
    ap count_of (out_I1 (elements_at (signed_at w8) 1 (length content / 1) content)) ∙ elements_count (signed_at w8) 1 (length content / 1) content
    ∙ omega (arith, whole.elements refl)
count_in kind.I2 count depth content whole =
    ap count_of (out_I2 (elements_at (signed_at w16) 2 (length content / 2) content)) ∙ elements_count (signed_at w16) 2 (length content / 2) content
    ∙ omega (arith, whole.elements refl)
count_in kind.I4 count depth content whole =
    ap count_of (out_I4 (elements_at (signed_at w32) 4 (length content / 4) content)) ∙ elements_count (signed_at w32) 4 (length content / 4) content
    ∙ omega (arith, whole.elements refl)
count_in kind.I8 count depth content whole =
    ap count_of (out_I8 (elements_at (signed_at w64) 8 (length content / 8) content)) ∙ elements_count (signed_at w64) 8 (length content / 8) content
    ∙ omega (arith, whole.elements refl)
count_in kind.U1 count depth content whole = ap count_of (out_U1 content) ∙ omega (arith, whole.elements refl)
count_in kind.U2 count depth content whole =
    ap count_of (out_U2 (elements_at (from_be_bytes w16) 2 (length content / 2) content))
    ∙ elements_count (from_be_bytes w16) 2 (length content / 2) content ∙ omega (arith, whole.elements refl)
count_in kind.U4 count depth content whole =
    ap count_of (out_U4 (elements_at (from_be_bytes w32) 4 (length content / 4) content))
    ∙ elements_count (from_be_bytes w32) 4 (length content / 4) content ∙ omega (arith, whole.elements refl)
count_in kind.U8 count depth content whole =
    ap count_of (out_U8 (elements_at (from_be_bytes w64) 8 (length content / 8) content))
    ∙ elements_count (from_be_bytes w64) 8 (length content / 8) content ∙ omega (arith, whole.elements refl)
count_in kind.F4 count depth content whole =
    ap count_of (out_F4 (elements_at (λ raw. raw) 4 (length content / 4) content)) ∙ elements_count (λ raw. raw) 4 (length content / 4) content
    ∙ omega (arith, whole.elements refl)
count_in kind.F8 count depth content whole =
    ap count_of (out_F8 (elements_at (λ raw. raw) 8 (length content / 8) content)) ∙ elements_count (λ raw. raw) 8 (length content / 8) content
    ∙ omega (arith, whole.elements refl)

-- ---- the number

-- an item of other than one element has no number
pub no_number : (x : Item-F Item) → (count_of x ≡ 1 → ⊥) → number_of x ≡ None
no_number (Item-F.U1 []) other = refl
no_number (Item-F.U1 (n ∷ [])) other = absurd (other refl)
no_number (Item-F.U1 (n ∷ m ∷ ns)) other = refl
no_number (Item-F.U2 []) other = refl
no_number (Item-F.U2 (n ∷ [])) other = absurd (other refl)
no_number (Item-F.U2 (n ∷ m ∷ ns)) other = refl
no_number (Item-F.U4 []) other = refl
no_number (Item-F.U4 (n ∷ [])) other = absurd (other refl)
no_number (Item-F.U4 (n ∷ m ∷ ns)) other = refl
no_number (Item-F.U8 []) other = refl
no_number (Item-F.U8 (n ∷ [])) other = absurd (other refl)
no_number (Item-F.U8 (n ∷ m ∷ ns)) other = refl
no_number (Item-F.L xs) other = refl
no_number (Item-F.B xs) other = refl
no_number (Item-F.Bool xs) other = refl
no_number (Item-F.A xs) other = refl
no_number (Item-F.J xs) other = refl
no_number (Item-F.I1 xs) other = refl
no_number (Item-F.I2 xs) other = refl
no_number (Item-F.I4 xs) other = refl
no_number (Item-F.I8 xs) other = refl
no_number (Item-F.F4 xs) other = refl
no_number (Item-F.F8 xs) other = refl

-- neither has one of another kind
pub other_kind : (k : Kind) (x : Item-F Item) → kind_of x ≡ k → (k ≡ kind.U1 → ⊥) → (k ≡ kind.U2 → ⊥) → (k ≡ kind.U4 → ⊥) → (k ≡ kind.U8 → ⊥)
    → number_of x ≡ None
other_kind k (Item-F.L xs) e u1 u2 u4 u8 = refl
other_kind k (Item-F.B xs) e u1 u2 u4 u8 = refl
other_kind k (Item-F.Bool xs) e u1 u2 u4 u8 = refl
other_kind k (Item-F.A xs) e u1 u2 u4 u8 = refl
other_kind k (Item-F.J xs) e u1 u2 u4 u8 = refl
other_kind k (Item-F.I1 xs) e u1 u2 u4 u8 = refl
other_kind k (Item-F.I2 xs) e u1 u2 u4 u8 = refl
other_kind k (Item-F.I4 xs) e u1 u2 u4 u8 = refl
other_kind k (Item-F.I8 xs) e u1 u2 u4 u8 = refl
other_kind k (Item-F.F4 xs) e u1 u2 u4 u8 = refl
other_kind k (Item-F.F8 xs) e u1 u2 u4 u8 = refl
other_kind k (Item-F.U1 xs) e u1 u2 u4 u8 = absurd (u1 (sym e))
other_kind k (Item-F.U2 xs) e u1 u2 u4 u8 = absurd (u2 (sym e))
other_kind k (Item-F.U4 xs) e u1 u2 u4 u8 = absurd (u4 (sym e))
other_kind k (Item-F.U8 xs) e u1 u2 u4 u8 = absurd (u8 (sym e))

pub number_U1 : (depth : ℕ) (content : List ℕ) (n : ℕ) → length content ≡ 1 → n ≡ get_or content 0 0
    → number_of (out-Item (item_in kind.U1 1 depth content)) ≡ Some n
number_U1 depth [] n len e = absurd (omega (arith, len))
number_U1 depth (a ∷ []) n len e = ap number_of (out_U1 (a ∷ [])) ∙ ap Some (sym e)
number_U1 depth (a ∷ b ∷ content) n len e = absurd (omega (arith, len))

-- the one element of so many bytes
one_element : (read : List ℕ → ℕ) (size : ℕ) (count : ℕ) (content : List ℕ) → length content ≡ size → count ≡ 1
    → elements_at read size count content ≡ read content ∷ []
one_element read size count content len one = rw one (ap (λ (bs : List ℕ). read bs ∷ []) (take_all size content (omega (arith, len))))

pub number_U2 : (depth : ℕ) (content : List ℕ) (n : ℕ) → length content ≡ 2 → n ≡ from_be_bytes w16 content
    → number_of (out-Item (item_in kind.U2 1 depth content)) ≡ Some n
number_U2 depth content n len e =
    ap number_of (out_U2 (elements_at (from_be_bytes w16) 2 (length content / 2) content)) ∙ ap (λ (ns : List ℕ). number_of {A = Item} (Item-F.U2 ns)) (one_element (from_be_bytes w16) 2 (length content / 2) content len (omega (arith, len))) ∙ ap Some (sym e)

pub number_U4 : (depth : ℕ) (content : List ℕ) (n : ℕ) → length content ≡ 4 → n ≡ from_be_bytes w32 content
    → number_of (out-Item (item_in kind.U4 1 depth content)) ≡ Some n
number_U4 depth content n len e =
    ap number_of (out_U4 (elements_at (from_be_bytes w32) 4 (length content / 4) content)) ∙ ap (λ (ns : List ℕ). number_of {A = Item} (Item-F.U4 ns)) (one_element (from_be_bytes w32) 4 (length content / 4) content len (omega (arith, len))) ∙ ap Some (sym e)

pub number_U8 : (depth : ℕ) (content : List ℕ) (n : ℕ) → length content ≡ 8 → n ≡ from_be_bytes w64 content
    → number_of (out-Item (item_in kind.U8 1 depth content)) ≡ Some n
number_U8 depth content n len e =
    ap number_of (out_U8 (elements_at (from_be_bytes w64) 8 (length content / 8) content)) ∙ ap (λ (ns : List ℕ). number_of {A = Item} (Item-F.U8 ns)) (one_element (from_be_bytes w64) 8 (length content / 8) content len (omega (arith, len))) ∙ ap Some (sym e)

pub as_U1 : (k : Kind) (count depth : ℕ) (content : List ℕ) (n : ℕ) → k ≡ kind.U1 → count ≡ 1 → n ≡ get_or content 0 0 → IsWhole k count depth content
    → number_of (out-Item (item_in k count depth content)) ≡ Some n
as_U1 k count depth content n e one is =
    subst (λ (j : Kind). IsWhole j count depth content → number_of (out-Item (item_in j count depth content)) ≡ Some n) (sym e) (λ (w : IsWhole kind.U1 count depth content). number_U1 depth content n (omega (arith, w.elements refl, one)) is)

pub as_U2 : (k : Kind) (count depth : ℕ) (content : List ℕ) (n : ℕ) → k ≡ kind.U2 → count ≡ 1 → n ≡ from_be_bytes w16 content
    → IsWhole k count depth content → number_of (out-Item (item_in k count depth content)) ≡ Some n
as_U2 k count depth content n e one is =
    subst (λ (j : Kind). IsWhole j count depth content → number_of (out-Item (item_in j count depth content)) ≡ Some n) (sym e) (λ (w : IsWhole kind.U2 count depth content). number_U2 depth content n (omega (arith, w.elements refl, one)) is)

pub as_U4 : (k : Kind) (count depth : ℕ) (content : List ℕ) (n : ℕ) → k ≡ kind.U4 → count ≡ 1 → n ≡ from_be_bytes w32 content
    → IsWhole k count depth content → number_of (out-Item (item_in k count depth content)) ≡ Some n
as_U4 k count depth content n e one is =
    subst (λ (j : Kind). IsWhole j count depth content → number_of (out-Item (item_in j count depth content)) ≡ Some n) (sym e) (λ (w : IsWhole kind.U4 count depth content). number_U4 depth content n (omega (arith, w.elements refl, one)) is)

pub as_U8 : (k : Kind) (count depth : ℕ) (content : List ℕ) (n : ℕ) → k ≡ kind.U8 → count ≡ 1 → n ≡ from_be_bytes w64 content
    → IsWhole k count depth content → number_of (out-Item (item_in k count depth content)) ≡ Some n
as_U8 k count depth content n e one is =
    subst (λ (j : Kind). IsWhole j count depth content → number_of (out-Item (item_in j count depth content)) ≡ Some n) (sym e) (λ (w : IsWhole kind.U8 count depth content). number_U8 depth content n (omega (arith, w.elements refl, one)) is)

-- ---- lengths and items

pub length_in : (k : Kind) (count depth : ℕ) (content : List ℕ) → IsWhole k count depth content
    → length_of (out-Item (item_in k count depth content)) ≡ unit_of k * count
length_in k count depth content whole =
    let x = out-Item (item_in k count depth content) in
    ap (λ (j : Kind). unit_of j * count_of x) (kind_in k count depth content) ∙ ap (λ (n : ℕ). unit_of k * n) (count_in k count depth content whole)

no_items : (x : Item-F Item) → is_list (kind_of x) ≡ false → items_of x ≡ []
no_items (Item-F.L items) leaf = absurd cc
no_items (Item-F.B xs) leaf = refl
no_items (Item-F.Bool xs) leaf = refl
no_items (Item-F.A xs) leaf = refl
no_items (Item-F.J xs) leaf = refl
no_items (Item-F.I1 xs) leaf = refl
no_items (Item-F.I2 xs) leaf = refl
no_items (Item-F.I4 xs) leaf = refl
no_items (Item-F.I8 xs) leaf = refl
no_items (Item-F.U1 xs) leaf = refl
no_items (Item-F.U2 xs) leaf = refl
no_items (Item-F.U4 xs) leaf = refl
no_items (Item-F.U8 xs) leaf = refl
no_items (Item-F.F4 xs) leaf = refl
no_items (Item-F.F8 xs) leaf = refl

-- no item is in an item of another kind
pub no_items_in : (k : Kind) (count depth : ℕ) (content : List ℕ) → is_list k ≡ false → items_of (out-Item (item_in k count depth content)) ≡ []
no_items_in k count depth content leaf = no_items (out-Item (item_in k count depth content)) (ap is_list (kind_in k count depth content) ∙ leaf)

-- the items of a list are those that its content has
pub items_in : (k : Kind) (count depth : ℕ) (content : List ℕ) → is_list k ≡ true
    → items_of (out-Item (item_in k count depth content)) ≡ items_read (items_at (item_at 0 depth) count content)
items_in k count depth content listed = rw listed (ap items_of (out_L (items_read (items_at (item_at 0 depth) count content))))

list_items : (x : Item-F Item) → is_list (kind_of x) ≡ true → length (items_of x) ≡ count_of x
list_items (Item-F.L items) listed = refl
list_items (Item-F.B xs) listed = absurd cc
list_items (Item-F.Bool xs) listed = absurd cc
list_items (Item-F.A xs) listed = absurd cc
list_items (Item-F.J xs) listed = absurd cc
list_items (Item-F.I1 xs) listed = absurd cc
list_items (Item-F.I2 xs) listed = absurd cc
list_items (Item-F.I4 xs) listed = absurd cc
list_items (Item-F.I8 xs) listed = absurd cc
list_items (Item-F.U1 xs) listed = absurd cc
list_items (Item-F.U2 xs) listed = absurd cc
list_items (Item-F.U4 xs) listed = absurd cc
list_items (Item-F.U8 xs) listed = absurd cc
list_items (Item-F.F4 xs) listed = absurd cc
list_items (Item-F.F8 xs) listed = absurd cc

-- a list has as many items as its view counts
pub list_long : (k : Kind) (count depth : ℕ) (content : List ℕ) → is_list k ≡ true → IsWhole k count depth content
    → length (items_of (out-Item (item_in k count depth content))) ≡ count
list_long k count depth content listed whole =
    list_items (out-Item (item_in k count depth content)) (ap is_list (kind_in k count depth content) ∙ listed) ∙ count_in k count depth content whole
