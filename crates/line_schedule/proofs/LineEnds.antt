-- The first line of a text.
use Rattle.std.proofs.Common.{◌≡◌, ◌≢◌, ℕ, suc, ◌+◌, ◌-◌, eqb, List, [], ◌∷◌, ◌++◌, length, take, drop, Some, None, refl, sym, ap, ◌∙◌, arith, length-drop}
use Rattle.std.proofs.lemmas.List.{take_all}
use Rattle.std.specs.List.{position}
use Rattle.line_schedule.specs.Lines.{lines_of}
use Rattle.line_schedule.proofs.Places.{Lacks, lacks_first, stands_at, stands_nowhere}

-- a line with its end
pub ended : (line rest : List ℕ) → Lacks 10 line → lines_of (line ++ 10 ∷ rest) ≡ line ∷ lines_of rest
ended [] rest h = refl
ended (b ∷ line) rest h = let l = lacks_first 10 b line h in rw (l.0, ended line rest l.1) refl

-- a last line without an end
pub unended : (b : ℕ) (line : List ℕ) → Lacks 10 (b ∷ line) → lines_of (b ∷ line) ≡ (b ∷ line) ∷ []
unended b [] h = rw ((lacks_first 10 b [] h).0) refl
unended b (c ∷ line) h = let l = lacks_first 10 b (c ∷ line) h in rw (l.0, unended c line l.1) refl

-- the line before an end
pub first_line : (text : List ℕ) (at : ℕ) → position (λ b. eqb b 10) text ≡ Some at →
    lines_of text ≡ take at text ∷ lines_of (take (length text - (at + 1)) (drop (at + 1) text))
first_line text at e =
    let s = stands_at 10 text at e in
    let next : suc at ≡ at + 1 = omega arith in
    let rest : take (length text - (at + 1)) (drop (at + 1) text) ≡ drop (suc at) text =
    take_all _ _ (omega (arith, length-drop (at + 1) text)) ∙ ap (λ n. drop n text) (sym next) in
    ap lines_of s.0 ∙ ended (take at text) (drop (suc at) text) s.1 ∙ ap (λ r. take at text ∷ lines_of r) (sym rest)

-- a text without an end
pub only_line : (text : List ℕ) → text ≢ [] → position (λ b. eqb b 10) text ≡ None → lines_of text ≡ text ∷ []
only_line [] some e = absurd (some refl)
only_line (b ∷ line) some e = unended b line (stands_nowhere 10 (b ∷ line) e)
