-- What stands behind an item's head is its content.
use Rattle.std.proofs.Common.{◌≡◌, ℕ, zero, suc, ◌+◌, ◌*◌, List, [], ◌∷◌, ◌++◌, length, drop, refl, sym, ap, subst, ◌∙◌, append_assoc, arith}
use Rattle.std.proofs.lemmas.List.{append-nil, append_cancel_right, drop_at}
use Rattle.secs_items.specs.declared.item.Item.{Item, out-Item}
use Rattle.secs_items.specs.declared.item.Item.TheOpen.{Item-F}
use Rattle.secs_items.specs.declared.kind.Kind.{Kind}
use Rattle.secs_items.specs.Kinds.{code_of}
use Rattle.secs_items.specs.Layers.{kind_of, length_of}
use Rattle.secs_items.specs.Spelling.{HasContent, IsHead, IsSpelled, Spells, SpellsEach, SpellsFront, SpellsWithin}
use Rattle.secs_items.specs.Views.{ShowsFront, Viewed}
use Rattle.gem_shapes.specs.Parts.{IsFilled}

-- ---- lists may nest deeper

content_map : (P Q : List Item → List ℕ → Type 0) → ((items : List Item) (content : List ℕ) → P items content → Q items content)
    → (x : Item-F Item) (content : List ℕ) → HasContent P x content → HasContent Q x content
content_map P Q f (Item-F.L items) content h = f items content h
content_map P Q f (Item-F.B bytes) content h = h
content_map P Q f (Item-F.Bool bytes) content h = h
content_map P Q f (Item-F.A bytes) content h = h
content_map P Q f (Item-F.J bytes) content h = h
content_map P Q f (Item-F.I1 numbers) content h = h
content_map P Q f (Item-F.I2 numbers) content h = h
content_map P Q f (Item-F.I4 numbers) content h = h
content_map P Q f (Item-F.I8 numbers) content h = h
content_map P Q f (Item-F.U1 numbers) content h = h
content_map P Q f (Item-F.U2 numbers) content h = h
content_map P Q f (Item-F.U4 numbers) content h = h
content_map P Q f (Item-F.U8 numbers) content h = h
content_map P Q f (Item-F.F4 floats) content h = h
content_map P Q f (Item-F.F8 floats) content h = h

spelled_map : (P Q : List Item → List ℕ → Type 0) → ((items : List Item) (content : List ℕ) → P items content → Q items content)
    → (x : Item-F Item) (bytes : List ℕ) → IsSpelled P x bytes → IsSpelled Q x bytes
spelled_map P Q f x bytes s =
    record { head = s.head; content = s.content; begins = s.begins; holds = content_map P Q f x s.content s.holds; placed = s.placed }

each_map : (S T : Item → List ℕ → Type 0) → ((i : Item) (bytes : List ℕ) → S i bytes → T i bytes) → (items : List Item) (content : List ℕ)
    → SpellsEach S items content → SpellsEach T items content
each_map S T f [] content h = h
each_map S T f (i ∷ items) content h = (h.0, h.1, h.2, f i h.0 h.3, each_map S T f items h.1 h.4)

deeper : (depth : ℕ) (i : Item) (bytes : List ℕ) → SpellsWithin depth i bytes → SpellsWithin (suc depth) i bytes
deeper zero i bytes s = spelled_map (λ _ _. ⊥) (SpellsEach (SpellsWithin 0)) (λ items content none. absurd none) (out-Item i) bytes s
deeper (suc depth) i bytes s =
    spelled_map (SpellsEach (SpellsWithin depth)) (SpellsEach (SpellsWithin (suc depth)))
    (each_map (SpellsWithin depth) (SpellsWithin (suc depth)) (deeper depth)) (out-Item i) bytes s

-- ---- what stands behind a head

same_behind : (k : Kind) (n : ℕ) (head other rest others : List ℕ) → IsHead k n head → IsHead k n other → head ++ rest ≡ other ++ others
    → rest ≡ others
same_behind k n head other rest others a b e =
    let whole : (4 * code_of k + length a.lengths) ∷ (a.lengths ++ rest) ≡ (4 * code_of k + length b.lengths) ∷ (b.lengths ++ others) =
    sym (ap (λ (h : List ℕ). h ++ rest) a.placed) ∙ e ∙ ap (λ (h : List ℕ). h ++ others) b.placed in
    let first : 4 * code_of k + length a.lengths ≡ 4 * code_of k + length b.lengths = cc in
    let behind : a.lengths ++ rest ≡ b.lengths ++ others = cc in
    let long : length a.lengths ≡ length b.lengths = omega (arith, first) in
    sym (drop_at a.lengths rest (length b.lengths) long) ∙ ap (drop (length b.lengths)) behind ∙ drop_at b.lengths others (length b.lengths) refl

-- what is spelled and shown at the front of bytes is filled
pub front_filled : (bytes rest : List ℕ) (v : Viewed) → SpellsFront v.item bytes rest → ShowsFront bytes v rest → IsFilled v
unfolding Spells
front_filled bytes rest v s shown =
    let x = out-Item v.item in
    let t : IsSpelled (SpellsEach (SpellsWithin 63)) x s.front = s.spelled in
    let parts : t.head ++ (t.content ++ rest) ≡ shown.head ++ (v.content ++ rest) =
    sym (append_assoc t.head t.content rest) ∙ ap (λ (front : List ℕ). front ++ rest) (sym t.placed) ∙ sym s.parts ∙ shown.parts in
    let behind : t.content ++ rest ≡ v.content ++ rest =
    same_behind (kind_of x) (length_of x) t.head shown.head (t.content ++ rest) (v.content ++ rest) t.begins shown.is_head parts in
    let holds = subst (HasContent (SpellsEach (SpellsWithin 63)) x) (append_cancel_right t.content v.content rest behind) t.holds in
    content_map (SpellsEach (SpellsWithin 63)) (SpellsEach (SpellsWithin 64)) (each_map (SpellsWithin 63) (SpellsWithin 64) (deeper 63)) x v.content holds

-- so is what all of the bytes spell
pub filled : (bytes : List ℕ) (v : Viewed) → Spells v.item bytes → ShowsFront bytes v [] → IsFilled v
filled bytes v s shown = front_filled bytes [] v (record { front = bytes; spelled = s; parts = sym (append-nil bytes) }) shown
