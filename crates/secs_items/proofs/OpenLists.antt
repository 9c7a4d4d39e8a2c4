-- Open lists in an array: one more, one less, and one item less of the innermost.
use Rattle.std.proofs.Common.{◌≡◌, ℕ, zero, suc, ◌+◌, ◌-◌, ◌<◌, ◌≤◌, List, [], ◌∷◌, length, take, drop, sym, ap, ◌∙◌, arith}
use Rattle.std.specs.Prelude.{reverse}
use Rattle.std.proofs.Math.ListN.{replicate, set, get_or}
use Rattle.std.proofs.Math.Seq.{take-suc}
use Rattle.std.proofs.lemmas.List.{drop_more, reverse-append, take_more_set}
use Rattle.secs_items.specs.Checking.{open_behind}

-- what is behind those that are open
pub clear_less : (left : List ℕ) (d : ℕ) → d < 64 → length left ≡ 64 → drop d left ≡ replicate (64 - d) 0
    → drop (d + 1) left ≡ replicate (64 - (d + 1)) 0
clear_less left d few long clear =
    let n : 64 - d ≡ suc (64 - (d + 1)) = omega (arith, few) in
    let all : get_or left d 0 ∷ drop (d + 1) left ≡ 0 ∷ replicate (64 - (d + 1)) 0 =
    sym (drop_more left d 0 (omega (arith, few, long))) ∙ clear ∙ ap (λ (k : ℕ). replicate k 0) n in
    ap (drop 1) all

pub clear_more : (left : List ℕ) (top depth : ℕ) → depth ≡ top + 1 → depth ≤ 64 → length left ≡ 64 → get_or left top 0 ≡ 0
    → drop depth left ≡ replicate (64 - depth) 0 → drop top left ≡ replicate (64 - top) 0
clear_more left top depth next few long none clear =
    let n : suc (64 - depth) ≡ 64 - top = omega (arith, next, few) in
    drop_more left top 0 (omega (arith, next, few, long)) ∙ ap (λ (k : ℕ). get_or left top 0 ∷ drop k left) (sym next)
    ∙ ap (λ (zs : List ℕ). get_or left top 0 ∷ zs) clear ∙ ap (λ (k : ℕ). k ∷ replicate (64 - depth) 0) none
    ∙ ap (λ (k : ℕ). replicate k 0) n

-- the innermost list comes first
pub shown_set : (left : List ℕ) (top depth v : ℕ) → depth ≡ top + 1 → top < length left
    → reverse (take depth (set left top v)) ≡ v ∷ reverse (take top left)
shown_set left top depth v next within =
    ap (λ (k : ℕ). reverse (take k (set left top v))) next ∙ ap reverse (take_more_set left top v within)
    ∙ reverse-append (take top left) (v ∷ [])

pub shown_next : (left : List ℕ) (top depth : ℕ) → depth ≡ top + 1 → top < length left
    → reverse (take depth left) ≡ get_or left top 0 ∷ reverse (take top left)
shown_next left top depth next within =
    let n : depth ≡ suc top = omega (arith, next) in
    ap (λ (k : ℕ). reverse (take k left)) n ∙ ap reverse (take-suc left top 0 within)
    ∙ reverse-append (take top left) (get_or left top 0 ∷ [])

pub behind_none : (left : List ℕ) (top depth : ℕ) → depth ≡ top + 1 → top < length left → get_or left top 0 ≡ 0
    → open_behind (reverse (take depth left)) ≡ open_behind (reverse (take top left))
behind_none left top depth next within none =
    ap open_behind (shown_next left top depth next within ∙ ap (λ (n : ℕ). n ∷ reverse (take top left)) none)

-- one item of the innermost list has ended, and it wants more
pub behind_some : (left : List ℕ) (top depth v : ℕ) → depth ≡ top + 1 → top < length left → get_or left top 0 ≡ v → 0 < v
    → open_behind (reverse (take depth left)) ≡ reverse (take depth (set left top (v - 1)))
behind_some left top depth v next within is some =
    ap open_behind (shown_next left top depth next within ∙ ap (λ (n : ℕ). n ∷ reverse (take top left)) is)
    ∙ one_less v some ∙ sym (shown_set left top depth (v - 1) next within)
  where
    less : (n : ℕ) → n ≡ suc n - 1
    less n = omega arith

    one_less : (n : ℕ) → 0 < n → open_behind (n ∷ reverse (take top left)) ≡ (n - 1) ∷ reverse (take top left)
    one_less zero some = absurd (omega (arith, some))
    one_less (suc n) some = ap (λ (k : ℕ). k ∷ reverse (take top left)) (less n)
