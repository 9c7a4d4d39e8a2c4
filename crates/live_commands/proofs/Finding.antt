-- Where the open line ends among bytes, and where it doesn't.
use Rattle.std.proofs.Common.{◌≡◌, ℕ, suc, ◌+◌, ◌<◌, eqb, List, [], ◌∷◌, ◌++◌, append-nil, append_assoc, drop, length, take, Some, None, position, refl, sym, ap, subst, ◌∙◌, arith}
use Rattle.line_schedule.proofs.Places.{Lacks, lacks_first, stands_at, stands_nowhere}
use Rattle.live_commands.specs.Coming.{Ends, Passes, Standing, TakesLine, asked_with, behind, kept, with_bytes}
use Rattle.live_commands.specs.Commands.{Numbered}
use Rattle.live_commands.proofs.Cutting.{asked_cut, stands_cut}
use Rattle.live_commands.proofs.Kept.{kept_again, kept_behind}

-- ---- no end

asked_none : (bytes : List ℕ) (s : Standing) → Lacks 10 bytes → asked_with s bytes ≡ []
asked_none [] s lacks = refl
asked_none (b ∷ bytes) s lacks =
    let l = lacks_first 10 b bytes lacks in rw (l.0) (asked_none bytes (with_bytes (b ∷ []) s) l.1)

stands_with : (bytes : List ℕ) (s : Standing) → Lacks 10 bytes → kept s.line ≡ s.line →
    behind s bytes ≡ with_bytes bytes s
stands_with [] s lacks is =
    ap (λ (l : List ℕ). record { number = s.number; line = l }) (sym (ap kept (append-nil s.line) ∙ is))
stands_with (b ∷ bytes) s lacks is =
    let l = lacks_first 10 b bytes lacks in
    let next = with_bytes (b ∷ []) s in
    let line : kept (kept (s.line ++ b ∷ []) ++ bytes) ≡ kept (s.line ++ b ∷ bytes) =
    kept_behind (s.line ++ b ∷ []) bytes ∙ ap kept (append_assoc s.line (b ∷ []) bytes) in
    rw (l.0) (
    stands_with bytes next l.1 (kept_again (s.line ++ b ∷ []))
    ∙ ap (λ (l : List ℕ). record { number = s.number; line = l }) line)

pub no_end : (bytes : List ℕ) (s : Standing) → Lacks 10 bytes → kept s.line ≡ s.line →
    Passes s bytes (with_bytes bytes s)
no_end bytes s lacks is = record { asked = asked_none bytes s lacks; stands = stands_with bytes s lacks is }

-- ---- an end

pub an_end : (front rest : List ℕ) (s : Standing) → Lacks 10 front → kept s.line ≡ s.line →
    Ends s (front ++ 10 ∷ rest) (with_bytes front s) rest
an_end front rest s lacks is = record {
  asked =
      asked_cut s front (10 ∷ rest)
      ∙ ap (λ (asked : List Numbered). asked ++ asked_with (behind s front) (10 ∷ rest)) (asked_none front s lacks)
      ∙ ap (λ (here : Standing). asked_with here (10 ∷ rest)) (stands_with front s lacks is);
  stands =
      stands_cut s front (10 ∷ rest)
      ∙ ap (λ (here : Standing). behind here (10 ∷ rest)) (stands_with front s lacks is);
}

-- ---- by where an LF stands first

pub line_taken : (bytes : List ℕ) (s : Standing) (at : ℕ) → position (λ b. eqb b 10) bytes ≡ Some at →
    at < length bytes → kept s.line ≡ s.line → TakesLine s bytes (with_bytes (take at bytes) s) (Some (at + 1))
line_taken bytes s at found within is =
    let here = stands_at 10 bytes at found in
    let next : suc at ≡ at + 1 = omega arith in
    let to = with_bytes (take at bytes) s in
    let ends : Ends s bytes to (drop (suc at) bytes) =
    subst (λ text. Ends s text to (drop (suc at) bytes)) (sym here.0)
    (an_end (take at bytes) (drop (suc at) bytes) s here.1 is) in
    (omega arith, omega (arith, within), subst (λ n. Ends s bytes to (drop n bytes)) next ends)

pub line_open : (bytes : List ℕ) (s : Standing) → position (λ b. eqb b 10) bytes ≡ None → kept s.line ≡ s.line →
    TakesLine s bytes (with_bytes bytes s) None
line_open bytes s found is = no_end bytes s (stands_nowhere 10 bytes found) is
