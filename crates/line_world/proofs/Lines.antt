-- The lines of a log are counted part by part, since each part ends where a line ends.
use Rattle.std.proofs.Common.{◌≡◌, ◌==◌, ◌+◌, ℕ, Bool, true, false, List, [], ◌∷◌, ◌++◌, fold, cond, codes, decimal, Option, Some, None, if◌then◌else◌, refl, sym, ap, ◌∙◌, append_assoc}
use Rattle.std.specs.List.{count_by}
use Rattle.std.specs.Option.{option_map_or}
use Rattle.hex.specs.Hex.{encode_upper}
use Rattle.line_schedule.specs.Lines.{lines_of, with_front}
use Rattle.message_flow.specs.declared.step.Note.{Note}
use Rattle.gl_base.specs.declared.side.Side.{Side}
use Rattle.trace_log.specs.Log.{Entry}
use Rattle.trace_log.specs.Log.Entry.{Ended, Noted, Slipped}
use Rattle.trace_log.specs.Text.{entry_text, frame_text, head_text, note_line, printed_note, text_of}
use Rattle.line_world.specs.Counting.{no_lines, with_line, with_lines}
use Rattle.line_world.specs.declared.counting.Counts.{Counts}

-- ---- lines of texts one after the other

abbrev pub Joins : List ℕ → Type 0
Joins text = (more : List ℕ) → lines_of (text ++ more) ≡ lines_of text ++ lines_of more

-- a text with an end of a line has a first line
record HasLine (lines : List (List ℕ)) : Type 0 where
  line : List ℕ
  rest : List (List ℕ)
  is : lines ≡ line ∷ rest

by-end : (b : ℕ) (lines : List (List ℕ)) (test : Bool) → HasLine lines
    → HasLine (if test then [] ∷ lines else with_front b lines)
by-end b lines true has = record { line = []; rest = lines; is = refl }
by-end b lines false has = record { line = b ∷ has.line; rest = has.rest; is = ap (with_front b) has.is }

has-line : (text : List ℕ) → HasLine (lines_of (text ++ 10 ∷ []))
has-line [] = record { line = []; rest = []; is = refl }
has-line (b ∷ text) = by-end b (lines_of (text ++ 10 ∷ [])) (b == 10) (has-line text)

front-on : (b : ℕ) (lines others : List (List ℕ)) → HasLine lines
    → with_front b (lines ++ others) ≡ with_front b lines ++ others
front-on b lines others has =
    ap (λ (all : List (List ℕ)). with_front b (all ++ others)) has.is
    ∙ sym (ap (λ (all : List (List ℕ)). with_front b all ++ others) has.is)

joins-one : (b : ℕ) (lines others all : List (List ℕ)) (test : Bool) → HasLine lines → all ≡ lines ++ others
    → (if test then [] ∷ all else with_front b all) ≡ (if test then [] ∷ lines else with_front b lines) ++ others
joins-one b lines others all true has is = ap (λ (rest : List (List ℕ)). [] ∷ rest) is
joins-one b lines others all false has is = ap (with_front b) is ∙ front-on b lines others has

joins-end : (text : List ℕ) → Joins (text ++ 10 ∷ [])
joins-end [] more = refl
joins-end (b ∷ text) more =
    joins-one b (lines_of (text ++ 10 ∷ [])) (lines_of more) (lines_of ((text ++ 10 ∷ []) ++ more)) (b == 10)
    (has-line text) (joins-end text more)

joins-both : (first second : List ℕ) → Joins first → Joins second → Joins (first ++ second)
joins-both first second one two more =
    ap lines_of (append_assoc first second more) ∙ one (second ++ more)
    ∙ ap (λ (lines : List (List ℕ)). lines_of first ++ lines) (two more)
    ∙ sym (append_assoc (lines_of first) (lines_of second) (lines_of more))
    ∙ ap (λ (lines : List (List ℕ)). lines ++ lines_of more) (sym (one second))

-- ---- the text of a log

record EndsLine (text : List ℕ) : Type 0 where
  front : List ℕ
  is : text ≡ front ++ 10 ∷ []

behind : (front text : List ℕ) → EndsLine text → EndsLine (front ++ text)
behind front text ends = record {
  front = front ++ ends.front;
  is = ap (λ (rest : List ℕ). front ++ rest) ends.is ∙ sym (append_assoc front ends.front (10 ∷ []));
}

joins-ended : (text : List ℕ) → EndsLine text → Joins text
joins-ended text ends more =
    ap (λ (all : List ℕ). lines_of (all ++ more)) ends.is ∙ joins-end ends.front more
    ∙ ap (λ (all : List ℕ). lines_of all ++ lines_of more) (sym ends.is)

note-ends : (moment : ℕ) (side : Side) (note : Note) → EndsLine (note_line moment side note)
note-ends moment side note = record { front = head_text moment side ++ note.text; is = refl }

entry-joins : (entry : Entry) → Joins (entry_text entry)
entry-joins (Noted moment side what) = go (printed_note what)
  where
    go : (note : Option Note) → Joins (option_map_or (note_line moment side) note [])
    go None more = refl
    go (Some note) more = joins-ended (note_line moment side note) (note-ends moment side note) more
entry-joins (Slipped moment side frame characters) =
    joins-ended (entry_text (Slipped moment side frame characters))
    (record {
      front = head_text moment side ++ codes "slip " ++ frame_text frame ++ codes " " ++ encode_upper characters;
      is = refl;
    })
entry-joins (Ended moment) =
    joins-ended (entry_text (Ended moment))
    (behind (decimal moment) (codes " end\n") (record { front = codes " end"; is = refl }))

pub text-joins : (log : List Entry) → Joins (text_of log)
text-joins [] more = refl
text-joins (entry ∷ before) more =
    joins-both (text_of before) (entry_text entry) (text-joins before) (entry-joins entry) more

-- ---- counts

pub counts-both : (counts : Counts) (lines others : List (List ℕ))
    → with_lines counts (lines ++ others) ≡ with_lines (with_lines counts lines) others
counts-both counts [] others = refl
counts-both counts (line ∷ lines) others = counts-both (with_line counts line) lines others

-- behind the text of a log
pub counts-on : (counts : Counts) (log : List Entry) (more : List ℕ)
    → with_lines counts (lines_of (text_of log ++ more))
    ≡ with_lines (with_lines counts (lines_of (text_of log))) (lines_of more)
counts-on counts log more =
    ap (with_lines counts) (text-joins log more) ∙ counts-both counts (lines_of (text_of log)) (lines_of more)

-- one count of them is that of such lines
module _ (is : List ℕ → Bool) (count : Counts → ℕ)
    (more : (counts : Counts) (line : List ℕ) → count (with_line counts line) ≡ count counts + cond (is line) 1 0) where
  counts-from : (lines : List (List ℕ)) (counts : Counts)
      → count (with_lines counts lines) ≡ fold (λ n line. n + cond (is line) 1 0) (count counts) lines
  counts-from [] counts = refl
  counts-from (line ∷ lines) counts =
      counts-from lines (with_line counts line)
      ∙ ap (λ (n : ℕ). fold (λ n line. n + cond (is line) 1 0) n lines) (more counts line)

  pub counts-such : (lines : List (List ℕ)) → count no_lines ≡ 0 → count (with_lines no_lines lines) ≡ count_by is lines
  counts-such lines none =
      counts-from lines no_lines ∙ ap (λ (n : ℕ). fold (λ n line. n + cond (is line) 1 0) n lines) none
