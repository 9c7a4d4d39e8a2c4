-- One step of reading an item, whether its head is read or not.
use Rattle.std.proofs.Common.{◌≡◌, ℕ, zero, suc, ◌-◌, ◌+◌, ◌<◌, Bool, true, false, List, drop, Result, Ok, Err, refl, sym, ◌∙◌, arith}
use Rattle.secs_items.specs.declared.item_fault.ItemFault.{ItemFault}
use Rattle.secs_items.specs.Kinds.{is_list}
use Rattle.secs_items.specs.Reading.{Head, head_at, after_content, after_each, after_item, item_at, list_at, leaf_at}

pub item_no_head : (total depth : ℕ) (bytes : List ℕ) (e : ItemFault) → head_at total depth bytes ≡ Err e → item_at total depth bytes ≡ Err e
unfolding item_at
item_no_head total zero bytes e h = rw h refl
item_no_head total (suc depth) bytes e h = rw h refl

pub item_list : (total depth : ℕ) (bytes : List ℕ) (h : Head) → 0 < depth → head_at total depth bytes ≡ Ok h → is_list h.kind ≡ true
    → item_at total depth bytes ≡ list_at (item_at total (depth - 1)) h
unfolding item_at
item_list total zero bytes h deep e listed = absurd (omega arith)
item_list total (suc depth) bytes h deep e listed =
    let less : suc depth - 1 ≡ depth = omega arith in
    rw (less, e, listed) refl

pub item_leaf : (total depth : ℕ) (bytes : List ℕ) (h : Head) → head_at total depth bytes ≡ Ok h → is_list h.kind ≡ false
    → item_at total depth bytes ≡ leaf_at h
unfolding item_at
item_leaf total zero bytes h e leaf = rw e refl
item_leaf total (suc depth) bytes h e leaf = rw (e, leaf) refl

-- ---- the same where items are passed over

pub after_no_head : (total depth : ℕ) (bytes : List ℕ) (e : ItemFault) → head_at total depth bytes ≡ Err e → after_item total depth bytes ≡ Err e
unfolding after_item
after_no_head total zero bytes e h = rw h refl
after_no_head total (suc depth) bytes e h = rw h refl

no_list_content : (after : List ℕ → Result (List ℕ) ItemFault) (h : Head) (b : Bool) → is_list h.kind ≡ b → (b ≡ true → ⊥)
    → after_content after h ≡ Ok (drop h.size h.rest)
no_list_content after h true e shallow = absurd (shallow refl)
no_list_content after h false e shallow = rw e refl

pub after_head : (total depth : ℕ) (bytes : List ℕ) (h : Head) → (is_list h.kind ≡ true → 0 < depth) → head_at total depth bytes ≡ Ok h
    → after_item total depth bytes ≡ after_content (after_item total (depth - 1)) h
unfolding after_item
after_head total zero bytes h deep e =
    rw e (sym (no_list_content (after_item total (0 - 1)) h (is_list h.kind) refl (λ (listed : is_list h.kind ≡ true). omega (arith, deep listed))))
after_head total (suc depth) bytes h deep e =
    let less : suc depth - 1 ≡ depth = omega arith in
    rw (less, e) refl

pub skip_more : (after : List ℕ → Result (List ℕ) ItemFault) (count i : ℕ) (bytes rest : List ℕ) (all : Result (List ℕ) ItemFault) → i < count
    → after bytes ≡ Ok rest → after_each after (count - i) bytes ≡ all → after_each after (count - (i + 1)) rest ≡ all
skip_more after count i bytes rest all lt e so_far =
    let k : count - i ≡ suc (count - (i + 1)) = omega arith in
    let step : after_each after (count - i) bytes ≡ after_each after (count - (i + 1)) rest = rw (k, e) refl in
    sym step ∙ so_far

pub skip_ends : (after : List ℕ → Result (List ℕ) ItemFault) (f : ItemFault) (count i : ℕ) (bytes : List ℕ) (all : Result (List ℕ) ItemFault)
    → i < count → after bytes ≡ Err f → after_each after (count - i) bytes ≡ all → all ≡ Err f
skip_ends after f count i bytes all lt e so_far =
    let k : count - i ≡ suc (count - (i + 1)) = omega arith in
    let step : after_each after (count - i) bytes ≡ Err f = rw (k, e) refl in
    sym so_far ∙ step
