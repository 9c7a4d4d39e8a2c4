-- Open lists as an array: its front, innermost last, and zeros behind it. They fix the array.
use Rattle.std.proofs.Common.{◌≡◌, ℕ, ◌-◌, ◌≤◌, List, ◌++◌, length, take, drop, sym, ap, subst, ◌∙◌, take-append-drop, length-take-le}
use Rattle.std.specs.Prelude.{reverse}
use Rattle.std.proofs.Math.ListN.{replicate}
use Rattle.std.proofs.lemmas.List.{length-reverse, reverse-reverse}

pub same_depth : (left : List ℕ) (depth : ℕ) → depth ≤ 64 → length left ≡ 64 → length (reverse (take depth left)) ≡ depth
same_depth left depth few long =
    length-reverse (take depth left) ∙ length-take-le depth left (subst (λ (n : ℕ). depth ≤ n) (sym long) few)

pub same_left : (left : List ℕ) (depth : ℕ) → depth ≤ 64 → length left ≡ 64
    → drop depth left ≡ replicate (64 - depth) 0
    → reverse (reverse (take depth left)) ++ replicate (64 - length (reverse (take depth left))) 0 ≡ left
same_left left depth few long clear =
    ap (λ (n : ℕ). reverse (reverse (take depth left)) ++ replicate (64 - n) 0) (same_depth left depth few long)
    ∙ ap (λ (front : List ℕ). front ++ replicate (64 - depth) 0) (reverse-reverse (take depth left))
    ∙ ap (λ (behind : List ℕ). take depth left ++ behind) (sym clear) ∙ take-append-drop depth left
