-- One sample more: the steps at which samples are due, and those since the last S6F1.
use Rattle.std.proofs.Common.{◌≡◌, refl, sym, ◌∙◌, ap, arith, Bool, true, false, cond, ℕ, zero, suc, ◌+◌, ◌-◌, ◌*◌, ◌/◌, ◌%◌, ◌==◌, List, [], ◌∷◌, ◌++◌, drop, length, nat_le, nat_lt}
use Rattle.std.proofs.Math.Nat.{div-add-mod, mod-eq_of_lt, mod-zero, mod_self, mul-add-mod_self_left}
use Rattle.std.proofs.lemmas.Bool.{eqb-true, ltb-true}
use Rattle.std.proofs.lemmas.Bool.Decides.{nat_tests}
use Rattle.std.proofs.lemmas.List.{drop-append-le, drop_all, length-append}
use Rattle.std.proofs.lemmas.Nat.{mod_below}
use Rattle.gem_trace.specs.History.{Look, last_of, samples_of, since_last_body}

-- whether a step a sample behind these is due, and what it adds
abbrev pub due_after : ℕ → ℕ → List Look → Look → Bool
due_after period last samples look = nat_le (last_of last samples + period) look.now

pub one-sample :
    (period last : ℕ) (looks : List Look) (look : Look)
    → samples_of period last (looks ++ look ∷ [])
    ≡ samples_of period last looks
    ++ cond (due_after period last (samples_of period last looks) look) (look ∷ []) []
one-sample period last [] look = refl
one-sample period last (first ∷ looks) look =
    go (nat_le (last + period) first.now) (one-sample period first.now looks look) (one-sample period last looks look)
  where
    end : ℕ → List Look → List Look
    end at samples = cond (due_after period at samples look) (look ∷ []) []

    all : ℕ → List Look
    all at = samples_of period at (looks ++ look ∷ [])

    before : ℕ → List Look
    before at = samples_of period at looks

    go : (b : Bool) → all first.now ≡ before first.now ++ end first.now (before first.now)
        → all last ≡ before last ++ end last (before last)
        → cond b (first ∷ all first.now) (all last)
        ≡ cond b (first ∷ before first.now) (before last) ++ end last (cond b (first ∷ before first.now) (before last))
    go true taken passed = ap (λ ls. first ∷ ls) taken
    go false taken passed = passed

pub last-is : (at : ℕ) (samples : List Look) (look : Look) → last_of at (samples ++ look ∷ []) ≡ look.now
last-is at [] look = refl
last-is at (first ∷ samples) look = last-is first.now samples look

-- the remainder of one more, unless a group ends
more-mod : (n g : ℕ) → ((n + 1) % g == 0) ≡ false → (n + 1) % g ≡ n % g + 1
more-mod n zero h = mod-zero (n + 1) ∙ ap (λ m. m + 1) (sym (mod-zero n))
more-mod n (suc k) h = go (nat_lt (n % suc k + 1) (suc k)) refl
  where
    split : n + 1 ≡ suc k * (n / suc k) + (n % suc k + 1)
    split = let whole = div-add-mod n (suc k) in omega arith

    same : (n + 1) % suc k ≡ (n % suc k + 1) % suc k
    same = ap (λ m. m % suc k) split ∙ mul-add-mod_self_left (suc k) (n / suc k) (n % suc k + 1)

    go : (b : Bool) → nat_lt (n % suc k + 1) (suc k) ≡ b → (n + 1) % suc k ≡ n % suc k + 1
    go true less = same ∙ mod-eq_of_lt (ltb-true (n % suc k + 1) (suc k) less)
    go false more =
        let below = mod_below n (suc k) (omega arith) in
        let full : n % suc k + 1 ≡ suc k = grind (arith, nat_tests) in
        let none : (n + 1) % suc k ≡ 0 = same ∙ ap (λ m. m % suc k) full ∙ mod_self (suc k) in
        absurd (grind (arith, nat_tests))

pub since-more :
    (group : ℕ) (samples : List Look) (look : Look)
    → since_last_body group (samples ++ look ∷ [])
    ≡ cond ((length samples + 1) % group == 0) [] (since_last_body group samples ++ look ∷ [])
since-more group samples look = go ((length samples + 1) % group == 0) refl
  where
    n : ℕ
    n = length samples

    longer : length (samples ++ look ∷ []) ≡ n + 1
    longer = length-append samples (look ∷ [])

    counted :
        length (samples ++ look ∷ []) - length (samples ++ look ∷ []) % group ≡ n + 1 - (n + 1) % group
    counted = ap (λ (m : ℕ). m - m % group) longer

    go : (b : Bool) → ((n + 1) % group == 0) ≡ b
        → since_last_body group (samples ++ look ∷ []) ≡ cond b [] (since_last_body group samples ++ look ∷ [])
    go true ends =
        let none : (n + 1) % group ≡ 0 = eqb-true ((n + 1) % group) 0 ends in
        let long = longer in
        ap (λ (m : ℕ). drop m (samples ++ look ∷ [])) (counted ∙ ap (λ (m : ℕ). n + 1 - m) none)
        ∙ drop_all (n + 1 - 0) (samples ++ look ∷ []) (omega arith)
    go false goes =
        let rest : (n + 1) % group ≡ n % group + 1 = more-mod n group goes in
        let least : n + 1 - (n % group + 1) ≡ n - n % group = omega arith in
        ap (λ (m : ℕ). drop m (samples ++ look ∷ [])) (counted ∙ ap (λ (m : ℕ). n + 1 - m) rest ∙ least)
        ∙ drop-append-le (n - n % group) samples (look ∷ []) (omega arith)
