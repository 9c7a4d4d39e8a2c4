-- What is kept of a line is all of it that counts.
use Rattle.std.proofs.Common.{◌≡◌, ℕ, zero, suc, ◌+◌, ◌-◌, ◌<◌, ◌≤◌, min, Bool, true, false, nat_lt, List, [], ◌∷◌, ◌++◌, length, take, refl, sym, ap, ◌∙◌, arith, length-take-le, take_all}
use Rattle.std.proofs.lemmas.List.{take_min}
use Rattle.std.proofs.lemmas.Bool.{lt-ltb, ltb-false, ltb-true}
use Rattle.line_schedule.specs.Reading.{is_passed_over}
use Rattle.live_commands.specs.declared.asks.Asks.TheVariants.{Nothing}
use Rattle.live_commands.specs.Coming.{Standing, kept, with_bytes}
use Rattle.live_commands.specs.Commands.{asked_by, line_limit}

abbrev standing : ℕ → List ℕ → Standing
standing number line = record { number = number; line = line }

-- ---- more bytes behind what is kept

take_behind : (n : ℕ) (line bytes : List ℕ) → take n (take n line ++ bytes) ≡ take n (line ++ bytes)
take_behind zero line bytes = refl
take_behind (suc n) [] bytes = refl
take_behind (suc n) (b ∷ line) bytes = ap (λ (l : List ℕ). b ∷ l) (take_behind n line bytes)

pub kept_behind : (line bytes : List ℕ) → kept (kept line ++ bytes) ≡ kept (line ++ bytes)
kept_behind line bytes = take_behind (line_limit + 1) line bytes

take_again : (n : ℕ) (line : List ℕ) → take n (take n line) ≡ take n line
take_again zero line = refl
take_again (suc n) [] = refl
take_again (suc n) (b ∷ line) = ap (λ (l : List ℕ). b ∷ l) (take_again n line)

pub kept_again : (line : List ℕ) → kept (kept line) ≡ kept line
kept_again line = take_again (line_limit + 1) line

pub kept_short : (line : List ℕ) → length line ≤ line_limit + 1 → kept line ≡ line
kept_short line short = take_all (line_limit + 1) line short

-- so many more bytes as there is room for
take_front : (n : ℕ) (line bytes : List ℕ) → length line ≤ n →
    take n (line ++ bytes) ≡ line ++ take (n - length line) bytes
take_front n [] bytes short = let all : n ≡ n - 0 = omega arith in ap (λ (m : ℕ). take m bytes) all
take_front zero (b ∷ line) bytes short = absurd (omega (arith, short))
take_front (suc n) (b ∷ line) bytes short =
    let same : n - length line ≡ suc n - suc (length line) = omega arith in
    ap (λ (l : List ℕ). b ∷ l)
    (take_front n line bytes (omega (arith, short)) ∙ ap (λ (m : ℕ). line ++ take m bytes) same)

pub kept_more : (line bytes : List ℕ) → length line ≤ line_limit + 1 →
    kept (line ++ bytes) ≡ line ++ take (min (line_limit + 1 - length line) (length bytes)) bytes
kept_more line bytes short =
    take_front (line_limit + 1) line bytes short
    ∙ ap (λ (more : List ℕ). line ++ more) (sym (take_min (line_limit + 1 - length line) bytes))

-- as a row stands then
pub kept_put : (number : ℕ) (line bytes now : List ℕ) → length line ≤ line_limit + 1
    → now ≡ line ++ take (min (line_limit + 1 - length line) (length bytes)) bytes
    → standing number now ≡ with_bytes bytes (standing number line)
kept_put number line bytes now short is = ap (standing number) (is ∙ sym (kept_more line bytes short))

-- ---- whether a line is passed over, and what it asks for

passed_take : (n : ℕ) (line : List ℕ) → is_passed_over (take (suc n) line) ≡ is_passed_over line
passed_take n [] = refl
passed_take n (b ∷ line) = refl

pub passed_kept : (line : List ℕ) → is_passed_over (kept line) ≡ is_passed_over line
passed_kept line = passed_take line_limit line

pub too_long : (line : List ℕ) → line_limit < length line → asked_by line ≡ Nothing line_limit
too_long line long = rw (lt-ltb line_limit (length line) long) refl

pub asked_kept : (line : List ℕ) → asked_by (kept line) ≡ asked_by line
asked_kept line = go (nat_lt line_limit (length line)) refl where
  go : (t : Bool) → nat_lt line_limit (length line) ≡ t → asked_by (kept line) ≡ asked_by line
  go false short = ap asked_by (kept_short line (omega (arith, ltb-false line_limit (length line) short)))
  go true long =
      let past = ltb-true line_limit (length line) long in
      let all : length (kept line) ≡ line_limit + 1 = length-take-le (line_limit + 1) line (omega (arith, past)) in
      too_long (kept line) (omega (arith, all)) ∙ sym (too_long line past)
