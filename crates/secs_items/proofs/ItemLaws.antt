-- An item that is read is spelled by the bytes that were taken, and one that is spelled is read, whatever follows.
use Rattle.std.proofs.Common.{◌≡◌, ℕ, zero, suc, ◌*◌, ◌-◌, ◌%◌, ◌<◌, Bool, true, false, cond, List, [], ◌∷◌, ◌++◌, length, take, drop, Ok, refl, sym, ap, subst, ◌∙◌, append_assoc, length-append, length-take, arith}
use Rattle.std.proofs.lemmas.List.{take-append-drop, take_at, drop_at}
use Rattle.secs_items.specs.declared.item.Item.{Item, out-Item}
use Rattle.secs_items.specs.declared.item.Item.TheOpen.{Item-F}
use Rattle.secs_items.specs.declared.item.Item.TheViews.{roll-Item, roll-out-Item}
use Rattle.secs_items.specs.declared.item.Item.TheVariants as item
use Rattle.secs_items.specs.declared.item.Item.TheVariants.{rolls-L}
use Rattle.secs_items.specs.declared.kind.Kind.{Kind}
use Rattle.secs_items.specs.declared.kind.Kind.TheVariants as kind
use Rattle.secs_items.specs.Kinds.{is_list, unit_of}
use Rattle.secs_items.specs.Layers.{kind_of, count_of, length_of}
use Rattle.secs_items.specs.Reading.{◌>>=◌, Head, head_at, items_at, leaf_of, leaf_at, list_at, content_at, item_at}
use Rattle.secs_items.specs.Spelling.{HasContent, IsHead, IsSpelled, SpellsEach, SpellsWithin}
use Rattle.secs_items.proofs.HeadLaws.{bind_ok, TakesHead, head_takes, head_again}
use Rattle.secs_items.proofs.ItemLoop.{Reader}
use Rattle.secs_items.proofs.ItemSteps.{item_list, item_leaf}
use Rattle.secs_items.proofs.Layers.{out_L}
use Rattle.secs_items.proofs.Leaves.{leaf_takes, leaf_again}
use Rattle.secs_items.proofs.Numbers.{IsBytes, IsBytes-drop, IsBytes-take}

-- the bytes begin with something that is spelled, and this is left
pub record Takes (Spelled : List ℕ → Type 0) (bytes rest : List ℕ) : Type 0 where
  pub front : List ℕ
  pub spelled : Spelled front
  pub parts : bytes ≡ front ++ rest
  pub rest_fits : IsBytes rest

append_back : (a b c : List ℕ) → a ++ (b ++ c) ≡ (a ++ b) ++ c
append_back a b c = sym (append_assoc a b c)

-- ---- items one after another

abbrev pub TakesEach : (Item → List ℕ → Type 0) → List ℕ → List Item × List ℕ → Type 0
TakesEach Spelled bytes x = Takes (SpellsEach Spelled x.0) bytes x.1

pub each_takes : (one : Reader) (Spelled : Item → List ℕ → Type 0)
    → ((bytes : List ℕ) (x : Item × List ℕ) → IsBytes bytes → one bytes ≡ Ok x → Takes (Spelled x.0) bytes x.1)
    → (count : ℕ) (bytes : List ℕ) (x : List Item × List ℕ) → IsBytes bytes → items_at one count bytes ≡ Ok x
    → TakesEach Spelled bytes x × (length x.0 ≡ count)
each_takes one Spelled each zero bytes x fits e =
    let none : List Item × List ℕ = ([], bytes) in
    let same : none ≡ x = cc in
    subst (λ (y : List Item × List ℕ). TakesEach Spelled bytes y × (length y.0 ≡ 0)) same (record { front = []; spelled = refl; parts = refl; rest_fits = fits }, refl)
each_takes one Spelled each (suc count) bytes x fits e =
    let a = bind_ok (one bytes) (λ (first : Item × List ℕ). items_at one count first.1 >>= λ others. Ok (first.0 ∷ others.0, others.1)) x e in
    let b = bind_ok (items_at one count a.0.1) (λ (others : List Item × List ℕ). Ok (a.0.0 ∷ others.0, others.1)) x a.2 in
    let first = each bytes a.0 fits a.1 in
    let others = each_takes one Spelled each count a.0.1 b.0 first.rest_fits b.1 in
    let made : List Item × List ℕ = (a.0.0 ∷ b.0.0, b.0.1) in
    let same : made ≡ x = cc (b.2) in
    let whole : bytes ≡ (first.front ++ others.0.front) ++ b.0.1 =
    first.parts ∙ ap (λ (bs : List ℕ). first.front ++ bs) others.0.parts ∙ append_back first.front others.0.front b.0.1 in
    subst (λ (y : List Item × List ℕ). TakesEach Spelled bytes y × (length y.0 ≡ suc count)) same
    (record { front = first.front ++ others.0.front; spelled = (first.front, others.0.front, refl, first.spelled, others.0.spelled); parts = whole; rest_fits = others.0.rest_fits }, ap suc others.1)

pub each_again : (one : Reader) (Spelled : Item → List ℕ → Type 0)
    → ((i : Item) (front rest : List ℕ) → Spelled i front → one (front ++ rest) ≡ Ok (i, rest))
    → (items : List Item) (content rest : List ℕ) → SpellsEach Spelled items content
    → items_at one (length items) (content ++ rest) ≡ Ok (items, rest)
each_again one Spelled each [] content rest spelled = rw spelled refl
each_again one Spelled each (i ∷ items) content rest spelled =
    let front = spelled.0 in
    let others = spelled.1 in
    let regrouped : content ++ rest ≡ front ++ (others ++ rest) = ap (λ (bs : List ℕ). bs ++ rest) spelled.2 ∙ append_assoc front others rest in
    rw (regrouped, each i front (others ++ rest) spelled.3, each_again one Spelled each items others rest spelled.4) refl

-- ---- what is read is spelled

pub is_L : (k : Kind) → is_list k ≡ true → k ≡ kind.L
is_L kind.L listed = refl
is_L kind.B listed = absurd cc
is_L kind.Bool listed = absurd cc
is_L kind.A listed = absurd cc
is_L kind.J listed = absurd cc
is_L kind.I1 listed = absurd cc
is_L kind.I2 listed = absurd cc
is_L kind.I4 listed = absurd cc
is_L kind.I8 listed = absurd cc
is_L kind.U1 listed = absurd cc
is_L kind.U2 listed = absurd cc
is_L kind.U4 listed = absurd cc
is_L kind.U8 listed = absurd cc
is_L kind.F4 listed = absurd cc
is_L kind.F8 listed = absurd cc

pub head_as : (k k' : Kind) (n n' : ℕ) (front : List ℕ) → k' ≡ k → n' ≡ n → IsHead k n front → IsHead k' n' front
head_as k k' n n' front same_k same_n is = rw (same_k, same_n) is

list_spelled : (Spelled : Item → List ℕ → Type 0) (depth : ℕ) (bytes : List ℕ) (h : Head) (x : List Item × List ℕ) → is_list h.kind ≡ true
    → TakesHead depth bytes h → TakesEach Spelled h.rest x → length x.0 ≡ h.size
    → Takes (IsSpelled (SpellsEach Spelled) (out-Item (item.L x.0))) bytes x.1
list_spelled Spelled depth bytes h x listed t each len =
    let whole : IsSpelled (SpellsEach Spelled) (Item-F.L x.0) (t.front ++ each.front) = record { head = t.front; content = each.front; begins = head_as h.kind kind.L h.size (1 * length x.0) t.front (sym (is_L h.kind listed)) (omega (arith, len)) t.is_head; holds = each.spelled; placed = refl } in
    record {
      front = t.front ++ each.front;
      spelled = subst (λ (y : Item-F Item). IsSpelled (SpellsEach Spelled) y (t.front ++ each.front)) (sym (out_L x.0)) whole;
      parts = t.parts ∙ ap (λ (bs : List ℕ). t.front ++ bs) each.parts ∙ sym (append_assoc t.front each.front x.1);
      rest_fits = each.rest_fits;
    }

leaf_spelled : (InTurn : List Item → List ℕ → Type 0) (depth : ℕ) (bytes : List ℕ) (h : Head) → is_list h.kind ≡ false → TakesHead depth bytes h
    → Takes (IsSpelled InTurn (out-Item (leaf_of h.kind (take h.size h.rest)))) bytes (drop h.size h.rest)
leaf_spelled InTurn depth bytes h leaf t =
    let content = take h.size h.rest in
    let len : length content ≡ h.size = omega (arith, length-take h.size h.rest, t.whole leaf) in
    let even = subst (λ (n : ℕ). n % unit_of h.kind ≡ 0) (sym len) t.even in
    let l = leaf_takes InTurn h.kind content leaf (IsBytes-take h.size h.rest t.rest_fits) even in
    let x = out-Item (leaf_of h.kind content) in
    record {
      front = t.front ++ content;
      spelled = record { head = t.front; content = content; begins = head_as h.kind (kind_of x) h.size (length_of x) t.front l.same (l.long ∙ len) t.is_head; holds = l.holds; placed = refl };
      parts = t.parts ∙ ap (λ (bs : List ℕ). t.front ++ bs) (sym (take-append-drop h.size h.rest)) ∙ sym (append_assoc t.front content (drop h.size h.rest));
      rest_fits = IsBytes-drop h.size h.rest t.rest_fits;
    }

abbrev TakesLayer : (List Item → List ℕ → Type 0) → List ℕ → Item × List ℕ → Type 0
TakesLayer InTurn bytes x = Takes (IsSpelled InTurn (out-Item x.0)) bytes x.1

leaf_case : (InTurn : List Item → List ℕ → Type 0) (depth : ℕ) (bytes : List ℕ) (h : Head) (x : Item × List ℕ) → is_list h.kind ≡ false
    → TakesHead depth bytes h → leaf_at h ≡ Ok x → TakesLayer InTurn bytes x
leaf_case InTurn depth bytes h x leaf t e =
    let made : Item × List ℕ = (leaf_of h.kind (take h.size h.rest), drop h.size h.rest) in
    let same : made ≡ x = cc in
    subst (TakesLayer InTurn bytes) same (leaf_spelled InTurn depth bytes h leaf t)

content_takes : (one : Reader) (Spelled : Item → List ℕ → Type 0)
    → ((bytes : List ℕ) (x : Item × List ℕ) → IsBytes bytes → one bytes ≡ Ok x → Takes (Spelled x.0) bytes x.1)
    → (depth : ℕ) (bytes : List ℕ) (h : Head) (x : Item × List ℕ) (b : Bool) → is_list h.kind ≡ b → TakesHead depth bytes h
    → cond b (list_at one h) (leaf_at h) ≡ Ok x → TakesLayer (SpellsEach Spelled) bytes x
content_takes one Spelled each depth bytes h x true listed t e =
    let a = bind_ok (items_at one h.size h.rest) (λ (items : List Item × List ℕ). Ok (item.L items.0, items.1)) x e in
    let taken = each_takes one Spelled each h.size h.rest a.0 t.rest_fits a.1 in
    let made : Item × List ℕ = (item.L a.0.0, a.0.1) in
    let same : made ≡ x = cc (a.2) in
    subst (TakesLayer (SpellsEach Spelled) bytes) same (list_spelled Spelled depth bytes h a.0 listed t taken.0 taken.1)
content_takes one Spelled each depth bytes h x false leaf t e = leaf_case (SpellsEach Spelled) depth bytes h x leaf t e

none_deep : (b : Bool) → (b ≡ true → 0 < 0) → b ≡ false
none_deep true deep = absurd (omega (arith, deep refl))
none_deep false deep = refl

pub item_takes : (total depth : ℕ) (bytes : List ℕ) (x : Item × List ℕ) → IsBytes bytes → item_at total depth bytes ≡ Ok x
    → Takes (SpellsWithin depth x.0) bytes x.1
unfolding item_at
item_takes total zero bytes x fits e =
    let a = bind_ok (head_at total zero bytes) leaf_at x e in
    let t = head_takes total zero bytes a.0 fits a.1 in
    leaf_case (λ _ _. ⊥) zero bytes a.0 x (none_deep (is_list a.0.kind) t.deep) t a.2
item_takes total (suc depth) bytes x fits e =
    let a = bind_ok (head_at total (suc depth) bytes) (content_at (item_at total depth)) x e in
    let t = head_takes total (suc depth) bytes a.0 fits a.1 in
    content_takes (item_at total depth) (SpellsWithin depth) (item_takes total depth) (suc depth) bytes a.0 x (is_list a.0.kind) refl t a.2

-- ---- what is spelled is read

pub even_length : (k : Kind) (n : ℕ) → (unit_of k * n) % unit_of k ≡ 0
even_length kind.L n = omega arith
even_length kind.B n = omega arith
even_length kind.Bool n = omega arith
even_length kind.A n = omega arith
even_length kind.J n = omega arith
even_length kind.I1 n = omega arith
even_length kind.I2 n = omega arith
even_length kind.I4 n = omega arith
even_length kind.I8 n = omega arith
even_length kind.U1 n = omega arith
even_length kind.U2 n = omega arith
even_length kind.U4 n = omega arith
even_length kind.U8 n = omega arith
even_length kind.F4 n = omega arith
even_length kind.F8 n = omega arith

leaf_item : (total depth : ℕ) (InTurn : List Item → List ℕ → Type 0) (x : Item-F Item) (i : Item) (front rest : List ℕ) → roll-Item x ≡ i
    → is_list (kind_of x) ≡ false → IsSpelled InTurn x front → item_at total depth (front ++ rest) ≡ Ok (i, rest)
leaf_item total depth InTurn x i front rest rolls leaf s =
    let l = leaf_again InTurn x i s.content rolls leaf s.holds in
    let regrouped : front ++ rest ≡ s.head ++ (s.content ++ rest) = ap (λ (bs : List ℕ). bs ++ rest) s.placed ∙ append_assoc s.head s.content rest in
    let h : Head = record { kind = kind_of x; size = length_of x; rest = s.content ++ rest } in
    let head : head_at total depth (s.head ++ (s.content ++ rest)) ≡ Ok h =
    head_again total depth (kind_of x) (length_of x) s.head (s.content ++ rest) s.begins (λ (listed : is_list (kind_of x) ≡ true). absurd (cc)) (even_length (kind_of x) (count_of x)) (λ (other : is_list (kind_of x) ≡ false). omega (arith, length-append s.content rest, l.1)) in
    ap (item_at total depth) regrouped ∙ item_leaf total depth (s.head ++ (s.content ++ rest)) h head leaf ∙ rw (take_at s.content rest (length_of x) l.1, drop_at s.content rest (length_of x) l.1, l.0) refl

list_item : (total depth : ℕ) (Spelled : Item → List ℕ → Type 0)
    → ((i : Item) (front rest : List ℕ) → Spelled i front → item_at total depth (front ++ rest) ≡ Ok (i, rest))
    → (x : Item-F Item) (i : Item) (front rest : List ℕ) → roll-Item x ≡ i → is_list (kind_of x) ≡ true → IsSpelled (SpellsEach Spelled) x front
    → item_at total (suc depth) (front ++ rest) ≡ Ok (i, rest)
list_item total depth Spelled each (Item-F.L items) i front rest rolls listed s =
    let regrouped : front ++ rest ≡ s.head ++ (s.content ++ rest) = ap (λ (bs : List ℕ). bs ++ rest) s.placed ∙ append_assoc s.head s.content rest in
    let h : Head = record { kind = kind.L; size = 1 * length items; rest = s.content ++ rest } in
    let head : head_at total (suc depth) (s.head ++ (s.content ++ rest)) ≡ Ok h =
    head_again total (suc depth) kind.L (1 * length items) s.head (s.content ++ rest) s.begins (λ (listed : true ≡ true). omega arith) (even_length kind.L (length items)) (λ (other : true ≡ false). absurd cc) in
    let less : suc depth - 1 ≡ depth = omega arith in
    let count : 1 * length items ≡ length items = omega arith in
    let same : item.L items ≡ i = sym (rolls-L items) ∙ rolls in
    ap (item_at total (suc depth)) regrouped ∙ item_list total (suc depth) (s.head ++ (s.content ++ rest)) h (omega arith) head refl
    ∙ rw (less, count, each_again (item_at total depth) Spelled each items s.content rest s.holds, same) refl
list_item total depth Spelled each (Item-F.B xs) i front rest rolls listed s = absurd cc
list_item total depth Spelled each (Item-F.Bool xs) i front rest rolls listed s = absurd cc
list_item total depth Spelled each (Item-F.A xs) i front rest rolls listed s = absurd cc
list_item total depth Spelled each (Item-F.J xs) i front rest rolls listed s = absurd cc
list_item total depth Spelled each (Item-F.I1 xs) i front rest rolls listed s = absurd cc
list_item total depth Spelled each (Item-F.I2 xs) i front rest rolls listed s = absurd cc
list_item total depth Spelled each (Item-F.I4 xs) i front rest rolls listed s = absurd cc
list_item total depth Spelled each (Item-F.I8 xs) i front rest rolls listed s = absurd cc
list_item total depth Spelled each (Item-F.U1 xs) i front rest rolls listed s = absurd cc
list_item total depth Spelled each (Item-F.U2 xs) i front rest rolls listed s = absurd cc
list_item total depth Spelled each (Item-F.U4 xs) i front rest rolls listed s = absurd cc
list_item total depth Spelled each (Item-F.U8 xs) i front rest rolls listed s = absurd cc
list_item total depth Spelled each (Item-F.F4 xs) i front rest rolls listed s = absurd cc
list_item total depth Spelled each (Item-F.F8 xs) i front rest rolls listed s = absurd cc

-- where no list may stand, none does
no_list : (x : Item-F Item) (content : List ℕ) → HasContent (λ _ _. ⊥) x content → is_list (kind_of x) ≡ false
no_list (Item-F.L items) content holds = absurd holds
no_list (Item-F.B xs) content holds = refl
no_list (Item-F.Bool xs) content holds = refl
no_list (Item-F.A xs) content holds = refl
no_list (Item-F.J xs) content holds = refl
no_list (Item-F.I1 xs) content holds = refl
no_list (Item-F.I2 xs) content holds = refl
no_list (Item-F.I4 xs) content holds = refl
no_list (Item-F.I8 xs) content holds = refl
no_list (Item-F.U1 xs) content holds = refl
no_list (Item-F.U2 xs) content holds = refl
no_list (Item-F.U4 xs) content holds = refl
no_list (Item-F.U8 xs) content holds = refl
no_list (Item-F.F4 xs) content holds = refl
no_list (Item-F.F8 xs) content holds = refl

by_kind : (total depth : ℕ) (Spelled : Item → List ℕ → Type 0)
    → ((i : Item) (front rest : List ℕ) → Spelled i front → item_at total depth (front ++ rest) ≡ Ok (i, rest))
    → (i : Item) (front rest : List ℕ) (b : Bool) → is_list (kind_of (out-Item i)) ≡ b → IsSpelled (SpellsEach Spelled) (out-Item i) front
    → item_at total (suc depth) (front ++ rest) ≡ Ok (i, rest)
by_kind total depth Spelled each i front rest true listed s = list_item total depth Spelled each (out-Item i) i front rest (roll-out-Item i) listed s
by_kind total depth Spelled each i front rest false leaf s =
    leaf_item total (suc depth) (SpellsEach Spelled) (out-Item i) i front rest (roll-out-Item i) leaf s

pub item_again : (total depth : ℕ) (i : Item) (front rest : List ℕ) → SpellsWithin depth i front → item_at total depth (front ++ rest) ≡ Ok (i, rest)
item_again total zero i front rest s =
    leaf_item total zero (λ _ _. ⊥) (out-Item i) i front rest (roll-out-Item i) (no_list (out-Item i) s.content s.holds) s
item_again total (suc depth) i front rest s =
    by_kind total depth (SpellsWithin depth) (item_again total depth) i front rest (is_list (kind_of (out-Item i))) refl s
