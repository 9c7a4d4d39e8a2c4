-- What reading with values has in common with reading without, and what both say of whole inputs.
use Rattle.std.proofs.Common.{◌≡◌, ℕ, zero, suc, ◌-◌, Bool, true, false, cond, List, [], ◌∷◌, length, drop, Some, None, Result, Ok, Err, refl, sym, ap, ◌∙◌}
use Rattle.secs_items.specs.declared.item.Item.{Item}
use Rattle.secs_items.specs.declared.item.Item.TheVariants as item
use Rattle.secs_items.specs.declared.item_fault.ItemFault.{ItemFault}
use Rattle.secs_items.specs.declared.item_fault.ItemFault.TheVariants as fault
use Rattle.secs_items.specs.Kinds.{is_list}
use Rattle.secs_items.specs.Reading.{◌>>=◌, Head, head_at, after_each, after_content, after_item, fault_after, first_fault, items_at, leaf_at, content_at, item_at}
use Rattle.secs_items.proofs.ItemLoop.{Reader}

abbrev pub Skipper : Type 0
Skipper = List ℕ → Result (List ℕ) ItemFault

-- what is left after a value
abbrev pub rest_of : {A : Type 0} → Result (A × List ℕ) ItemFault → Result (List ℕ) ItemFault
rest_of r = r >>= λ x. Ok x.1

rest_behind : {A B : Type 0} (r : Result (A × List ℕ) ItemFault) (f : A → B) → rest_of (r >>= λ x. Ok (f x.0, x.1)) ≡ rest_of r
rest_behind (Ok x) f = refl
rest_behind (Err e) f = refl

bind_rest : {A B : Type 0} (r : Result A ItemFault) (f : A → Result (List ℕ) ItemFault) (g : A → Result (B × List ℕ) ItemFault)
    → ((x : A) → f x ≡ rest_of (g x)) → (r >>= f) ≡ rest_of (r >>= g)
bind_rest (Ok x) f g same = same x
bind_rest (Err e) f g same = refl

each_step : (one : Reader) (after : Skipper) (count : ℕ) (r : Result (Item × List ℕ) ItemFault)
    → ((bytes : List ℕ) → after_each after count bytes ≡ rest_of (items_at one count bytes))
    → (rest_of r >>= after_each after count) ≡ rest_of (r >>= λ first. items_at one count first.1 >>= λ others. Ok (first.0 ∷ others.0, others.1))
each_step one after count (Ok x) same = same x.1 ∙ sym (rest_behind (items_at one count x.1) (λ others. x.0 ∷ others))
each_step one after count (Err e) same = refl

pub each_rest : (one : Reader) (after : Skipper) → ((bytes : List ℕ) → after bytes ≡ rest_of (one bytes)) → (count : ℕ) (bytes : List ℕ)
    → after_each after count bytes ≡ rest_of (items_at one count bytes)
each_rest one after same zero bytes = refl
each_rest one after same (suc count) bytes =
    ap (λ (r : Result (List ℕ) ItemFault). r >>= after_each after count) (same bytes) ∙ each_step one after count (one bytes) (each_rest one after same count)

content_cases : (one : Reader) (after : Skipper) (h : Head) (b : Bool) → after_each after h.size h.rest ≡ rest_of (items_at one h.size h.rest)
    → cond b (after_each after h.size h.rest) (Ok (drop h.size h.rest)) ≡ rest_of (cond b (items_at one h.size h.rest >>= λ x. Ok (item.L x.0, x.1)) (leaf_at h))
content_cases one after h true same = same ∙ sym (rest_behind (items_at one h.size h.rest) (λ items. item.L items))
content_cases one after h false same = refl

content_rest : (one : Reader) (after : Skipper) → ((bytes : List ℕ) → after bytes ≡ rest_of (one bytes)) → (h : Head)
    → after_content after h ≡ rest_of (content_at one h)
content_rest one after same h = content_cases one after h (is_list h.kind) (each_rest one after same h.size h.rest)

pub item_rest : (total depth : ℕ) (bytes : List ℕ) → after_item total depth bytes ≡ rest_of (item_at total depth bytes)
unfolding after_item item_at
item_rest total zero bytes = bind_rest (head_at total zero bytes) (λ h. Ok (drop h.size h.rest)) leaf_at (λ h. refl)
item_rest total (suc depth) bytes =
    bind_rest (head_at total (suc depth) bytes) (after_content (after_item total depth)) (content_at (item_at total depth))
    (content_rest (item_at total depth) (after_item total depth) (item_rest total depth))

-- ---- whole inputs

pub read_fault : (bytes : List ℕ) (e : ItemFault) → item_at (length bytes) 64 bytes ≡ Err e → first_fault bytes ≡ Some e
unfolding first_fault
read_fault bytes e h = rw (item_rest (length bytes) 64 bytes, h) refl

pub read_none : (bytes : List ℕ) (item : Item) (rest : List ℕ) → item_at (length bytes) 64 bytes ≡ Ok (item, rest) → rest ≡ []
    → first_fault bytes ≡ None
unfolding first_fault
read_none bytes item rest h none = rw (item_rest (length bytes) 64 bytes, h, none) refl

trailing : (total : ℕ) (rest : List ℕ) → (rest ≡ [] → ⊥) → fault_after total (Ok rest) ≡ Some (fault.Trailing (total - length rest))
trailing total [] some = absurd (some refl)
trailing total (b ∷ rest) some = refl

pub read_trailing : (bytes : List ℕ) (item : Item) (rest : List ℕ) → item_at (length bytes) 64 bytes ≡ Ok (item, rest) → (rest ≡ [] → ⊥)
    → first_fault bytes ≡ Some (fault.Trailing (length bytes - length rest))
unfolding first_fault
read_trailing bytes item rest h some = rw (item_rest (length bytes) 64 bytes, h) (trailing (length bytes) rest some)
