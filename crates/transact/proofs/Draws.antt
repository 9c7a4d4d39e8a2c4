-- What draws give, one after another.
use Rattle.std.proofs.Common.{◌≡◌, refl, ◌∙◌, ap, arith, false, cond, ℕ, zero, suc, ◌+◌, ◌∷◌, ◌++◌, map, Some, None, nat_eq}
use Rattle.std.specs.Prelude.{replicate}
use Rattle.std.specs.List.{range_with_len}
use Rattle.std.proofs.lemmas.Bool.{eq-eqb, ne_eqb}
use Rattle.transact.specs.Numbers.{NumbersView, draws}

abbrev between : ℕ → ℕ → NumbersView
between next end = record { next = next; end = end }

-- a draw where none is left, and where one is
none-left : (more n : ℕ) → draws (between n n) (suc more) ≡ None ∷ draws (between n n) more
none-left more n =
    ap (λ b. cond b None (Some n) ∷ draws (cond b (between n n) (between (n + 1) n)) more) (eq-eqb n n refl)

one-left :
    (more first end : ℕ) → nat_eq first end ≡ false
    → draws (between first end) (suc more) ≡ Some first ∷ draws (between (first + 1) end) more
one-left more first end left =
    ap (λ b. cond b None (Some first) ∷ draws (cond b (between first end) (between (first + 1) end)) more) left

spent : (more n : ℕ) → draws (between n n) more ≡ replicate more None
spent zero n = refl
spent (suc more) n = none-left more n ∙ ap (λ ns. None ∷ ns) (spent more n)

pub once :
    (count more first end : ℕ) → end ≡ first + count
    → draws (between first end) (count + more)
    ≡ map (λ number. Some number) (range_with_len first count) ++ replicate more None
once zero more first end e =
    let same : end ≡ first = omega arith in
    let none : 0 + more ≡ more = omega arith in
    ap (draws (between first end)) none ∙ ap (λ n. draws (between first n) more) same ∙ spent more first
once (suc count) more first end e =
    let next : suc count + more ≡ suc (count + more) = omega arith in
    let left : nat_eq first end ≡ false = ne_eqb first end (λ (same : first ≡ end). omega arith) in
    ap (draws (between first end)) next ∙ one-left (count + more) first end left
    ∙ ap (λ ns. Some first ∷ ns) (once count more (first + 1) end (omega arith))
