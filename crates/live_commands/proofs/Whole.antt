-- Byte by byte a row asks for what its lines do.
use Rattle.std.proofs.Common.{◌≡◌, ℕ, Bool, true, false, cond, eqb, List, [], ◌∷◌, ◌++◌, append-nil, append_assoc, refl, sym, ap, ◌∙◌}
use Rattle.std.specs.List.{concat}
use Rattle.gl_base.specs.Faults.{one_more}
use Rattle.line_schedule.specs.Lines.{lines_of, with_front}
use Rattle.line_schedule.specs.Reading.{is_passed_over}
use Rattle.live_commands.specs.Coming.{Standing, asked_at_end, asked_with, at_start, behind, closed, kept, with_bytes}
use Rattle.live_commands.specs.Commands.{Numbered, asked_by, asked_from}
use Rattle.live_commands.specs.Laws.{PartsAreCommands}
use Rattle.live_commands.proofs.Cutting.{in_parts}
use Rattle.live_commands.proofs.Kept.{asked_kept, kept_behind, passed_kept}

-- ---- a front before the first line

abbrev put : List ℕ → List (List ℕ) → List (List ℕ)
put front [] = front ∷ []
put front (line ∷ lines) = (front ++ line) ∷ lines

put_none : (n : ℕ) (lines : List (List ℕ)) → asked_from n (put [] lines) ≡ asked_from n lines
put_none n [] = refl
put_none n (line ∷ lines) = refl

put_byte : (front : List ℕ) (b : ℕ) (lines : List (List ℕ)) →
    put front (with_front b lines) ≡ put (front ++ b ∷ []) lines
put_byte front b [] = refl
put_byte front b (line ∷ lines) = ap (λ (l : List ℕ). l ∷ lines) (sym (append_assoc front (b ∷ []) line))

-- ---- a row behind lines that count, and a line that is open

abbrev standing : ℕ → List ℕ → Standing
standing n line = record { number = n; line = kept line }

-- what is to come of it
abbrev to_come : Standing → List ℕ → List Numbered
to_come s text = asked_with s text ++ asked_at_end (behind s text)

-- of all lines from there on
abbrev Comes : List ℕ → Type 0
Comes text = (n : ℕ) (line : List ℕ) → to_come (standing n line) text ≡ asked_from n (put line (lines_of text))

-- a line that is passed over, or counts, and what is behind it
asked_end : (n : ℕ) (line : List ℕ) →
    asked_at_end (standing n line) ≡ cond (is_passed_over line) [] ((one_more n, asked_by line) ∷ [])
asked_end n line = rw (passed_kept line, asked_kept line) refl

closed_end : (n : ℕ) (line : List ℕ) →
    closed (standing n line) ≡ standing (cond (is_passed_over line) n (one_more n)) []
closed_end n line = rw (passed_kept line) refl

from_line : (n : ℕ) (line : List ℕ) (lines : List (List ℕ)) →
    cond (is_passed_over line) [] ((one_more n, asked_by line) ∷ [])
    ++ asked_from (cond (is_passed_over line) n (one_more n)) lines
    ≡ asked_from n (line ∷ lines)
from_line n line lines = go (is_passed_over line) refl where
  go : (t : Bool) → is_passed_over line ≡ t →
      cond t [] ((one_more n, asked_by line) ∷ []) ++ asked_from (cond t n (one_more n)) lines
      ≡ asked_from n (line ∷ lines)
  go true e = rw e refl
  go false e = rw e refl

-- ---- byte by byte

at_none : Comes []
at_none n line = asked_end n line ∙ sym (append-nil _) ∙ from_line n line []

at_lf : (text : List ℕ) → Comes text → (n : ℕ) (line : List ℕ) →
    (asked_at_end (standing n line) ++ asked_with (closed (standing n line)) text)
    ++ asked_at_end (behind (closed (standing n line)) text)
    ≡ asked_from n (line ∷ lines_of text)
at_lf text comes n line =
    let after = cond (is_passed_over line) n (one_more n) in
    let here = cond (is_passed_over line) [] ((one_more n, asked_by line) ∷ []) in
    append_assoc (asked_at_end (standing n line)) _ _
    ∙ ap (λ (s : Standing). asked_at_end (standing n line) ++ to_come s text) (closed_end n line)
    ∙ ap (λ (asked : List Numbered). asked ++ to_come (standing after []) text) (asked_end n line)
    ∙ ap (λ (more : List Numbered). here ++ more) (comes after [] ∙ put_none after (lines_of text))
    ∙ from_line n line (lines_of text)

at_other : (b : ℕ) (text : List ℕ) → Comes text → (n : ℕ) (line : List ℕ) →
    to_come (with_bytes (b ∷ []) (standing n line)) text ≡ asked_from n (put line (with_front b (lines_of text)))
at_other b text comes n line =
    ap (λ (l : List ℕ). to_come (record { number = n; line = l }) text) (kept_behind line (b ∷ []))
    ∙ comes n (line ++ b ∷ [])
    ∙ ap (asked_from n) (sym (put_byte line b (lines_of text)))

-- by whether the byte ends the line
by_byte : (b : ℕ) (text : List ℕ) → Comes text → (n : ℕ) (line : List ℕ) (is_lf : Bool) →
    (cond is_lf (asked_at_end (standing n line)) []
    ++ asked_with (cond is_lf (closed (standing n line)) (with_bytes (b ∷ []) (standing n line))) text)
    ++ asked_at_end (behind (cond is_lf (closed (standing n line)) (with_bytes (b ∷ []) (standing n line))) text)
    ≡ asked_from n (put line (cond is_lf ([] ∷ lines_of text) (with_front b (lines_of text))))
by_byte b text comes n line true =
    at_lf text comes n line ∙ ap (λ (l : List ℕ). asked_from n (l ∷ lines_of text)) (sym (append-nil line))
by_byte b text comes n line false = at_other b text comes n line

at_byte : (b : ℕ) (text : List ℕ) → Comes text → Comes (b ∷ text)
at_byte b text comes = λ n line. by_byte b text comes n line (eqb b 10)

comes : (text : List ℕ) → Comes text
comes [] = at_none
comes (b ∷ text) = at_byte b text (comes text)

pub parts_are : PartsAreCommands
parts_are parts =
    in_parts parts at_start ∙ comes (concat parts) 0 [] ∙ put_none 0 (lines_of (concat parts))
