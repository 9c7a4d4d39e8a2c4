-- What stands before a fault in hex digits, quotes or numbers can be completed.
use Rattle.std.proofs.Common.{◌≡◌, ℕ, zero, suc, ◌-◌, ◌+◌, ◌*◌, ◌^◌, ◌<◌, ℤ, pos, negsuc, Bool, true, false, not, cond, eqb, ltb, leb, ◌&&◌, ◌||◌, ◌⊎◌, inl, inr, List, [], ◌∷◌, ◌++◌, length, drop, Option, Some, None, Result, Ok, Err, refl, sym, ap, subst, ◌∙◌, append_assoc, lit<, arith}
use Rattle.std.specs.Prelude.{decimal, FitsSigned}
use Rattle.std.specs.Int.{Width}
use Rattle.std.specs.Option.{ok_or}
use Rattle.std.proofs.lemmas.List.{append-nil}
use Rattle.std.proofs.lemmas.Bool.{and_left, and_right, cases_Bool, eqb-true, eqb-false, lt-leb, ltb-true, ltb-false, or_parts}
use Rattle.std.proofs.lemmas.Fmt.{decimal_digit}
use Rattle.std.proofs.lemmas.Nat.{pow_pos}
use Rattle.hex.specs.Hex.{hex_digit_value}
use Rattle.secs_text.specs.declared.text_fault.TextFault.{TextFault}
use Rattle.secs_text.specs.declared.text_fault.TextFault.TheVariants as fault
use Rattle.secs_text.specs.Grammar.{AfterBlanks, AreBlanks, Bounds, Kept, Free, InTurn, IsHexByte, IsHexBytes, IsNumber, IsQuoted, IsShown, IsSigned, IsUnsigned}
use Rattle.short_text.specs.Shown.{stands_for_itself}
use Rattle.secs_text.specs.Reading.{◌>>=◌, Next, Ends, Goes, after_blanks, after_byte, after_end, after_space, as_signed, as_unsigned, begins, begins_escape, syntax_fault, byte_in, each_at, each_from, escape_at, hex_byte_at, hex_bytes_at, magnitude_at, number_at, quoted_at, shown_at, shown_next, signed_of, text_at, unsigned_of, within_at}
use Rattle.secs_text.proofs.Blanks.{begins_there, blanks_found, byte_there, in_table}
use Rattle.secs_text.proofs.Elements.{hex_byte_takes}
use Rattle.secs_text.proofs.Fronts.{Fronts, HasFronts, Leads, Limit, Sign, Size, Depth, Stands, bind_err, byte_err, chosen_err, failed, fine, fronts_here, grouped, none, none_left, ok_or_err, plain_behind, plain_here, plain_map, table_err}
use Rattle.secs_text.proofs.LocalWords.{with_high, with_low}
use Rattle.secs_text.proofs.Numerals.{zero_text}
use Rattle.secs_text.proofs.Quotes.{next_shown, quoted_takes, shown_takes, space_there}

-- ---- hex

zeros_byte : IsHexByte 0 (48 ∷ 48 ∷ [])
zeros_byte = (0, 0, refl, refl, refl)

pub hex_byte_fronts : (total : ℕ) (bytes : List ℕ) (e : TextFault) → hex_byte_at total bytes ≡ Err e → Fronts (Leads IsHexByte) none total bytes e
unfolding hex_byte_at
hex_byte_fronts total bytes e h =
    elim (bind_err (byte_in hex_digit_value total bytes) (λ (high : ℕ × List ℕ). byte_in hex_digit_value total high.1 >>= λ low. Ok (16 * high.0 + low.0, low.1)) e h) [
      | inl g ↦ plain_here (Leads IsHexByte) total bytes e (table_err hex_digit_value total bytes e g) (48 ∷ 48 ∷ [], 0, zeros_byte)
      | inr g ↦
          let high = in_table hex_digit_value total bytes g.0 g.1 in
          elim (bind_err (byte_in hex_digit_value total g.0.1) (λ (low : ℕ × List ℕ). Ok (16 * g.0.0 + low.0, low.1)) e g.2) [
            | inl l ↦
                plain_behind (λ f. Leads IsHexByte (high.0 ∷ f)) (Leads IsHexByte) total (high.0 ∷ []) bytes g.0.1 e high.2 (λ f may. may)
                (plain_here (λ f. Leads IsHexByte (high.0 ∷ f)) total g.0.1 e (table_err hex_digit_value total g.0.1 e l) (48 ∷ [], 16 * g.0.0 + 0, (g.0.0, 0, high.1, refl, refl)))
            | inr l ↦ absurd (fine (16 * g.0.0 + l.0.0, l.0.1) e l.2)
          ]
    ]

zeros : (size : ℕ) → Leads (IsHexBytes size) []
zeros zero = ([], [], (refl, refl))
zeros (suc size) = let z = zeros size in (48 ∷ 48 ∷ z.0, 0 ∷ z.1, (ap suc z.2.0, (48 ∷ 48 ∷ [], z.0, refl, zeros_byte, z.2.1)))

pub hex_bytes_fronts : (size total : ℕ) (bytes : List ℕ) (e : TextFault) → hex_bytes_at size total bytes ≡ Err e
    → Fronts (Leads (IsHexBytes size)) none total bytes e
hex_bytes_fronts zero total bytes e h = absurd (fine ([], bytes) e h)
hex_bytes_fronts (suc size) total bytes e h =
    elim (bind_err (hex_byte_at total bytes) (λ (byte : ℕ × List ℕ). hex_bytes_at size total byte.1 >>= λ others. Ok (byte.0 ∷ others.0, others.1)) e h) [
      | inl g ↦
          plain_map (Leads IsHexByte) (Leads (IsHexBytes (suc size))) total bytes e (λ f may.
          let z = zeros size in
          (may.0 ++ z.0, may.1 ∷ z.1, (ap suc z.2.0, (f ++ may.0, z.0, sym (append_assoc f may.0 z.0), may.2, z.2.1)))) (hex_byte_fronts total bytes e g)
      | inr g ↦
          let first = hex_byte_takes total bytes g.0 g.1 in
          elim (bind_err (hex_bytes_at size total g.0.1) (λ (others : List ℕ × List ℕ). Ok (g.0.0 ∷ others.0, others.1)) e g.2) [
            | inl l ↦
                plain_behind (Leads (IsHexBytes size)) (Leads (IsHexBytes (suc size))) total first.0 bytes g.0.1 e first.2 (λ f may.
                (may.0, g.0.0 ∷ may.1, (ap suc may.2.0, (first.0, f ++ may.0, append_assoc first.0 f may.0, first.1, may.2.1)))) (hex_bytes_fronts size total g.0.1 e l)
            | inr l ↦ absurd (fine (g.0.0 ∷ l.0.0, l.0.1) e l.2)
          ]
    ]

-- ---- quotes

-- a low digit that makes a byte that doesn't stand for itself
abbrev Low : ℕ → Type 0
Low h = (d : ℕ) × (l : ℕ) × (hex_digit_value d ≡ Some l) × (stands_for_itself (16 * h + l) ≡ false)

low_byte : (b : ℕ) → b < 32 → stands_for_itself b ≡ false
low_byte b low =
    and_left (leb 32 b && leb b 126 && not (eqb b 34)) (not (eqb b 92))
    (and_left (leb 32 b && leb b 126) (not (eqb b 34)) (and_left (leb 32 b) (leb b 126) (lt-leb 32 b low)))

high_byte : (b : ℕ) → 126 < b → stands_for_itself b ≡ false
high_byte b high =
    and_left (leb 32 b && leb b 126 && not (eqb b 34)) (not (eqb b 92))
    (and_left (leb 32 b && leb b 126) (not (eqb b 34)) (and_right (leb 32 b) (leb b 126) (lt-leb b 126 high)))

not_these : (t : Bool) → not t ≡ true → t ≡ false
not_these true h = absurd cc
not_these false h = refl

low_of : (h : ℕ) → begins_escape h ≡ true → Low h
low_of h begins =
    let p = or_parts (eqb h 3 || eqb h 4) (eqb h 6) (not_these (eqb h 3 || eqb h 4 || eqb h 6) begins) in
    let q = or_parts (eqb h 3) (eqb h 4) p.0 in
    elim (cases_Bool (eqb h 2)) [
      | inl e ↦ subst Low (sym (eqb-true h 2 e)) (50, 2, refl, refl)
      | inr n2 ↦ elim (cases_Bool (eqb h 5)) [
        | inl e ↦ subst Low (sym (eqb-true h 5 e)) (67, 12, refl, refl)
        | inr n5 ↦ elim (cases_Bool (eqb h 7)) [
          | inl e ↦ subst Low (sym (eqb-true h 7 e)) (70, 15, refl, refl)
          | inr n7 ↦ elim (cases_Bool (ltb h 2)) [
            | inl l ↦ (48, 0, refl, low_byte (16 * h + 0) (omega (arith, ltb-true h 2 l)))
            | inr l ↦ (48, 0, refl, high_byte (16 * h + 0) (omega (arith, ltb-false h 2 l, eqb-false h 2 n2, eqb-false h 3 q.0, eqb-false h 4 q.1, eqb-false h 5 n5, eqb-false h 6 p.1, eqb-false h 7 n7)))
          ]
        ]
      ]
    ]

-- the digits of an escape
abbrev IsEscape : ℕ → List ℕ → Type 0
IsEscape b digits = (stands_for_itself b ≡ false) × IsHexByte b digits

escape_fronts : (total : ℕ) (bytes : List ℕ) (e : TextFault) → escape_at total bytes ≡ Err e → Fronts (Leads IsEscape) none total bytes e
unfolding escape_at
escape_fronts total bytes e h =
    let zero_there : Leads IsEscape [] = (48 ∷ 48 ∷ [], 0, (refl, zeros_byte)) in
    elim (bind_err (byte_in hex_digit_value total bytes) (with_high total bytes) e h) [
      | inl g ↦ plain_here (Leads IsEscape) total bytes e (table_err hex_digit_value total bytes e g) zero_there
      | inr g ↦
          let high = in_table hex_digit_value total bytes g.0 g.1 in
          elim (cases_Bool (begins_escape g.0.0)) [
            | inr b ↦
                let chosen : ◌≡◌ {A = Result (ℕ × List ℕ) TextFault} (syntax_fault total bytes) (Err e) = sym (rw b refl) ∙ g.2 in
                plain_here (Leads IsEscape) total bytes e (failed (fault.Syntax (total - length bytes)) e chosen) zero_there
            | inl b ↦
                let l = low_of g.0.0 b in
                let broken_low : e ≡ fault.Syntax (total - length g.0.1) = low_err total g.0.0 g.0.1 e (sym (rw b refl) ∙ g.2) in
                plain_behind (λ f. Leads IsEscape (high.0 ∷ f)) (Leads IsEscape) total (high.0 ∷ []) bytes g.0.1 e high.2 (λ f may. may)
                (plain_here (λ f. Leads IsEscape (high.0 ∷ f)) total g.0.1 e broken_low (l.0 ∷ [], 16 * g.0.0 + l.1, (l.3, (g.0.0, l.1, high.1, l.2, refl))))
          ]
    ] where
      low_err : (total h : ℕ) (rest : List ℕ) (e : TextFault) → (byte_in hex_digit_value total rest >>= with_low h total rest) ≡ Err e
          → e ≡ fault.Syntax (total - length rest)
      low_err total h rest e g =
          elim (bind_err (byte_in hex_digit_value total rest) (with_low h total rest) e g) [
            | inl t ↦ table_err hex_digit_value total rest e t
            | inr t ↦ elim (chosen_err (stands_for_itself (16 * h + t.0.0)) (syntax_fault total rest) (Ok (16 * h + t.0.0, t.0.1)) e t.2) [
              | inl s ↦ failed (fault.Syntax (total - length rest)) e s.1
              | inr s ↦ absurd (fine (16 * h + t.0.0, t.0.1) e s.1)
            ]
          ]

shown_a : Leads IsShown []
shown_a = (97 ∷ [], 97, inl (refl, refl))

shown_cases_err : (total b : ℕ) (rest : List ℕ) (e : TextFault)
    → cond (stands_for_itself b) (Ok (b, rest)) (cond (eqb b 92) (after_byte 120 total rest >>= escape_at total) (Err (fault.Syntax (total - suc (length rest))))) ≡ Err e
    → Fronts (Leads IsShown) none total (b ∷ rest) e
shown_cases_err total b rest e h =
    elim (chosen_err (stands_for_itself b) (Ok (b, rest)) (cond (eqb b 92) (after_byte 120 total rest >>= escape_at total) (Err (fault.Syntax (total - suc (length rest))))) e h) [
      | inl g ↦ absurd (fine (b, rest) e g.1)
      | inr g ↦ elim (chosen_err (eqb b 92) (after_byte 120 total rest >>= escape_at total) (Err (fault.Syntax (total - suc (length rest)))) e g.1) [
        | inr k ↦ plain_here (Leads IsShown) total (b ∷ rest) e (failed (fault.Syntax (total - suc (length rest))) e k.1) shown_a
        | inl k ↦
            let slash : b ∷ rest ≡ 92 ∷ rest = ap (λ (c : ℕ). c ∷ rest) (eqb-true b 92 k.0) in
            elim (bind_err (after_byte 120 total rest) (escape_at total) e k.1) [
              | inl x ↦
                  plain_behind (λ f. Leads IsShown (92 ∷ f)) (Leads IsShown) total (92 ∷ []) (b ∷ rest) rest e slash (λ f may. may)
                  (plain_here (λ f. Leads IsShown (92 ∷ f)) total rest e (byte_err 120 total rest e x) (120 ∷ 48 ∷ 48 ∷ [], 0, inr (refl, 48 ∷ 48 ∷ [], refl, zeros_byte)))
              | inr x ↦
                  plain_behind (Leads IsEscape) (Leads IsShown) total (92 ∷ 120 ∷ []) (b ∷ rest) x.0 e (slash ∙ ap (λ (s : List ℕ). 92 ∷ s) (byte_there 120 total rest x.0 x.1)) (λ f may. (may.0, may.1, inr (may.2.0, f ++ may.0, refl, may.2.1)))
                  (escape_fronts total x.0 e x.2)
            ]
      ]
    ]

shown_fronts : (total : ℕ) (bytes : List ℕ) (e : TextFault) → shown_at total bytes ≡ Err e → Fronts (Leads IsShown) none total bytes e
unfolding shown_at
shown_fronts total [] e h = plain_here (Leads IsShown) total [] e (failed (fault.Syntax total) e h ∙ none_left total) shown_a
shown_fronts total (b ∷ rest) e h = shown_cases_err total b rest e h

-- bytes up to the closing quote
abbrev ToQuote : List ℕ → List ℕ → Type 0
ToQuote xs text = (inner : List ℕ) × InTurn IsShown xs inner × (text ≡ inner ++ 34 ∷ [])

quote_there : Leads ToQuote []
quote_there = (34 ∷ [], [], ([], refl, refl))

shown_never : (total : ℕ) (bytes : List ℕ) (e : TextFault) → shown_next total bytes ≡ Err e → ⊥
unfolding shown_next
shown_never total bytes e h =
    elim (chosen_err (begins 34 bytes) (Ok (Ends (drop 1 bytes))) (Ok (Goes bytes)) e h) [
      | inl g ↦ fine (Ends (drop 1 bytes)) e g.1
      | inr g ↦ fine (Goes bytes) e g.1
    ]

from_shown_err : (most total : ℕ)
    → ((bytes : List ℕ) (e : TextFault) → each_at shown_next shown_at most total bytes ≡ Err e → Fronts (Leads ToQuote) none total bytes e)
    → (bytes : List ℕ) (n : Next) (e : TextFault) → shown_next total bytes ≡ Ok n
    → each_from (each_at shown_next shown_at most total) (shown_at total) n ≡ Err e → Fronts (Leads ToQuote) none total bytes e
from_shown_err most total others bytes (Ends after) e found h = absurd (fine ([], after) e h)
from_shown_err most total others bytes (Goes after) e found h =
    let same : bytes ≡ after = elim (next_shown total bytes (Goes after) found) [ inl g ↦ absurd (cc (g.1)) | inr g ↦ cc (g) ] in
    elim (bind_err (shown_at total after) (λ (first : ℕ × List ℕ). each_at shown_next shown_at most total first.1 >>= λ ys. Ok (first.0 ∷ ys.0, ys.1)) e h) [
      | inl g ↦
          plain_behind (Leads IsShown) (Leads ToQuote) total [] bytes after e same (λ f may.
          (may.0 ++ 34 ∷ [], may.1 ∷ [], (f ++ may.0, (f ++ may.0, [], sym (append-nil (f ++ may.0)), may.2, refl), sym (append_assoc f may.0 (34 ∷ []))))) (shown_fronts total after e g)
      | inr g ↦
          let first = shown_takes total after g.0 g.1 in
          elim (bind_err (each_at shown_next shown_at most total g.0.1) (λ (ys : List ℕ × List ℕ). Ok (g.0.0 ∷ ys.0, ys.1)) e g.2) [
            | inl l ↦
                plain_behind (Leads ToQuote) (Leads ToQuote) total first.0 bytes g.0.1 e (same ∙ first.2) (λ f may.
                (may.0, g.0.0 ∷ may.1, (first.0 ++ may.2.0, (first.0, may.2.0, refl, first.1, may.2.1), append_assoc first.0 f may.0 ∙ ap (λ (s : List ℕ). first.0 ++ s) may.2.2 ∙ sym (append_assoc first.0 may.2.0 (34 ∷ []))))) (others g.0.1 e l)
            | inr l ↦ absurd (fine (g.0.0 ∷ l.0.0, l.0.1) e l.2)
          ]
    ]

each_shown_err : (most total : ℕ) (bytes : List ℕ) (e : TextFault) → each_at shown_next shown_at most total bytes ≡ Err e
    → Fronts (Leads ToQuote) none total bytes e
each_shown_err zero total bytes e h = plain_here (Leads ToQuote) total bytes e (failed (fault.Syntax (total - length bytes)) e h) quote_there
each_shown_err (suc most) total bytes e h =
    elim (bind_err (shown_next total bytes) (each_from (each_at shown_next shown_at most total) (shown_at total)) e h) [
      | inl g ↦ absurd (shown_never total bytes e g)
      | inr g ↦ from_shown_err most total (each_shown_err most total) bytes g.0 e g.1 g.2
    ]

quoted_fronts : (total : ℕ) (bytes : List ℕ) (e : TextFault) → quoted_at total bytes ≡ Err e → Fronts (Leads IsQuoted) none total bytes e
unfolding quoted_at
quoted_fronts total bytes e h =
    elim (bind_err (after_byte 34 total bytes) (λ (inner : List ℕ). each_at shown_next shown_at (length inner) total inner) e h) [
      | inl g ↦ plain_here (Leads IsQuoted) total bytes e (byte_err 34 total bytes e g) (34 ∷ 34 ∷ [], [], ([], refl, refl))
      | inr g ↦
          plain_behind (Leads ToQuote) (Leads IsQuoted) total (34 ∷ []) bytes g.0 e (byte_there 34 total bytes g.0 g.1) (λ f may. (may.0, may.1, (may.2.0, ap (λ (s : List ℕ). 34 ∷ s) may.2.2, may.2.1)))
          (each_shown_err (length g.0) total g.0 e g.2)
    ]

-- ---- the one element of an A

-- an A's text and its end
abbrev pub TextEnd : List ℕ → List ℕ → Type 0
TextEnd xs text =
    (elements : List ℕ) × (blanks : List ℕ) × AfterBlanks IsQuoted xs elements × AreBlanks blanks × (text ≡ elements ++ (blanks ++ 62 ∷ []))

space_err : (total : ℕ) (bytes : List ℕ) (e : TextFault) → after_space total bytes ≡ Err e → e ≡ fault.Syntax (total - length bytes)
space_err total bytes e h =
    elim (chosen_err (eqb (length (after_blanks bytes)) (length bytes)) (syntax_fault total bytes) (Ok (after_blanks bytes)) e h) [
      | inl g ↦ failed (fault.Syntax (total - length bytes)) e g.1
      | inr g ↦ absurd (fine (after_blanks bytes) e g.1)
    ]

one_space : Leads TextEnd []
one_space =
    (32 ∷ 34 ∷ 34 ∷ 62 ∷ [], [], (32 ∷ 34 ∷ 34 ∷ [], [], (32 ∷ [], 34 ∷ 34 ∷ [], refl, (refl, tt), (λ (e : 32 ∷ [] ≡ []). cc), ([], refl, refl)), tt, refl))

pub text_fronts : (total : ℕ) (bytes : List ℕ) (e : TextFault) → text_at total bytes ≡ Err e → Fronts (Leads TextEnd) none total bytes e
unfolding text_at
text_fronts total bytes e h =
    elim (bind_err (after_space total bytes) (λ front. quoted_at total front >>= λ text. after_end total text.1 >>= λ rest. Ok (text.0, rest)) e h) [
      | inl g ↦ plain_here (Leads TextEnd) total bytes e (space_err total bytes e g) one_space
      | inr g ↦
          let s = space_there total bytes g.0 (eqb (length (after_blanks bytes)) (length bytes)) refl g.1 in
          elim (bind_err (quoted_at total g.0) (λ (text : List ℕ × List ℕ). after_end total text.1 >>= λ rest. Ok (text.0, rest)) e g.2) [
            | inl q ↦
                plain_behind (Leads IsQuoted) (Leads TextEnd) total s.0 bytes g.0 e s.3 (λ f may.
                (may.0 ++ 62 ∷ [], may.1, (s.0 ++ (f ++ may.0), [], (s.0, f ++ may.0, refl, s.1, s.2, may.2), tt, regrouped s.0 f may.0 (62 ∷ [])))) (quoted_fronts total g.0 e q)
            | inr q ↦
                let text = quoted_takes total g.0 q.0 q.1 in
                elim (bind_err (after_end total q.0.1) (λ (rest : List ℕ). Ok (q.0.0, rest)) e q.2) [
                  | inl l ↦
                      let b = blanks_found q.0.1 in
                      let pre = s.0 ++ (text.0 ++ b.0) in
                      plain_behind (λ f. Leads TextEnd (pre ++ f)) (Leads TextEnd) total pre bytes (after_blanks q.0.1) e (s.3 ∙ ap (λ (t : List ℕ). s.0 ++ t) (text.2 ∙ ap (λ (t : List ℕ). text.0 ++ t) b.2) ∙ grouped s.0 text.0 b.0 (after_blanks q.0.1)) (λ f may. may)
                      (plain_here (λ f. Leads TextEnd (pre ++ f)) total (after_blanks q.0.1) e (byte_err 62 total (after_blanks q.0.1) e l)
                      (62 ∷ [], q.0.0, (s.0 ++ text.0, b.0, (s.0, text.0, refl, s.1, s.2, text.1), b.1, four s.0 text.0 b.0 (62 ∷ []))))
                  | inr l ↦ absurd (fine (q.0.0, l.0) e l.2)
                ]
          ]
    ] where
      regrouped : (s f m end : List ℕ) → (s ++ f) ++ (m ++ end) ≡ (s ++ (f ++ m)) ++ end
      regrouped s f m end = simp append_assoc

      four : (s t b end : List ℕ) → ((s ++ (t ++ b)) ++ []) ++ end ≡ (s ++ t) ++ (b ++ end)
      four s t b end = simp (append_assoc, append-nil)

-- ---- numbers

-- Where numbers are kept within their kinds, a minus may be one too many, and a number that is outside begins at once.
abbrev pub past_number : Bounds → Limit → List ℕ → Type 0
past_number Kept Sign front = Unit {0}
past_number Kept Size front = front ≡ []
past_number Kept Depth front = ⊥
past_number Free limit front = ⊥

magnitude_err : (negative : Bool) (total : ℕ) (bytes : List ℕ) (e : TextFault) → magnitude_at negative total bytes ≡ Err e
    → e ≡ fault.Syntax (total - length bytes)
unfolding magnitude_at
magnitude_err negative total [] e h = failed (fault.Syntax total) e h ∙ none_left total
magnitude_err negative total (b ∷ rest) e h =
    elim (chosen_err (leb 49 b && leb b 57) _ (Err (fault.Syntax (total - suc (length rest)))) e h) [
      | inl g ↦ absurd (fine _ e g.1)
      | inr g ↦ failed (fault.Syntax (total - suc (length rest))) e g.1
    ]

-- behind a minus a number goes on, or there may be none
abbrev Minus : (List ℕ → Type 0) → (Limit → List ℕ → Type 0) → Type 0
Minus May Past = May (45 ∷ []) ⊎ Past Sign []

minus_there : (May : List ℕ → Type 0) (Past : Limit → List ℕ → Type 0) (total : ℕ) (bytes : List ℕ) (e : TextFault) → Minus May Past → May []
    → begins 45 bytes ≡ true
    → e ≡ fault.Syntax (total - length (drop 1 bytes)) → Fronts May Past total bytes e
minus_there May Past total bytes e minus may begun h =
    subst (Fronts May Past total bytes) (sym h) (record { front = 45 ∷ []; tail = drop 1 bytes; placed = begins_there 45 bytes begun; there = refl; stands = behind minus }) where
      behind : Minus May Past → Stands May Past (fault.Syntax (total - length (drop 1 bytes))) (45 ∷ [])
      behind (inl goes) = inl goes
      behind (inr past) = inr ([], refl, may, past)

number_fronts : (May : List ℕ → Type 0) (Past : Limit → List ℕ → Type 0) (total : ℕ) (bytes : List ℕ) (e : TextFault) → Minus May Past → May []
    → number_at total bytes ≡ Err e → Fronts May Past total bytes e
unfolding number_at
number_fronts May Past total bytes e minus may h =
    elim (chosen_err (begins 48 bytes) (Ok (Some (pos 0), drop 1 bytes)) (cond (begins 45 bytes) (magnitude_at true total (drop 1 bytes)) (magnitude_at false total bytes)) e h) [
      | inl g ↦ absurd (fine (Some (pos 0), drop 1 bytes) e g.1)
      | inr g ↦ elim (chosen_err (begins 45 bytes) (magnitude_at true total (drop 1 bytes)) (magnitude_at false total bytes) e g.1) [
        | inl k ↦ minus_there May Past total bytes e minus may k.0 (magnitude_err true total (drop 1 bytes) e k.1)
        | inr k ↦ fronts_here May Past total bytes e (magnitude_err false total bytes e k.1) may
      ]
    ]

within_fronts : {T : Type 0} (fits : Option ℤ → Option T) (May : List ℕ → Type 0) (Past : Limit → List ℕ → Type 0) (total : ℕ) (bytes : List ℕ) (e : TextFault)
    → Minus May Past → May [] → ((n : Option ℤ) → fits n ≡ None → Past Size []) → within_at fits total bytes ≡ Err e → Fronts May Past total bytes e
within_fronts {T} fits May Past total bytes e minus may outside h =
    elim (bind_err (number_at total bytes) (λ (n : Option ℤ × List ℕ). ok_or (fits n.0) (fault.Range (total - length bytes)) >>= λ value. Ok (value, n.1)) e h) [
      | inl g ↦ number_fronts May Past total bytes e minus may g
      | inr g ↦ elim (bind_err (ok_or (fits g.0.0) (fault.Range (total - length bytes))) (λ (value : T). Ok (value, g.0.1)) e g.2) [
        | inl k ↦
            let o = ok_or_err (fits g.0.0) (fault.Range (total - length bytes)) e k in
            subst (Fronts May Past total bytes) (sym o.0) (record { front = []; tail = bytes; placed = refl; there = refl; stands = (may, outside g.0.0 o.1) })
        | inr k ↦ absurd (fine (k.0, g.0.1) e k.2)
      ]
    ]

one_text : decimal 1 ≡ 49 ∷ []
one_text = decimal_digit 1 (lit< tt)

-- any number, taken for this value
free_fronts : {T : Type 0} (value : T) → HasFronts (within_at (λ n. Some value)) (λ x text. (x ≡ value) × IsNumber text) (past_number Free)
free_fronts {T} value total bytes e h =
    let Is : T → List ℕ → Type 0 = λ x text. (x ≡ value) × IsNumber text in
    within_fronts (λ n. Some value) (Leads Is) (past_number Free) total bytes e (inl (49 ∷ [], value, (refl, inr (inr (49 ∷ [], refl, (refl, refl))))))
    (48 ∷ [], value, (refl, inl refl)) (λ n never. absurd cc) h

pub unsigned_fronts : (bounds : Bounds) (bits : ℕ) → HasFronts (unsigned_of bounds bits) (IsUnsigned bounds (2 ^ bits)) (past_number bounds)
unsigned_fronts Kept bits total bytes e h =
    within_fronts (as_unsigned (2 ^ bits)) (Leads (IsUnsigned Kept (2 ^ bits))) (past_number Kept) total bytes e (inr tt) (48 ∷ [], 0, (pow_pos bits, sym zero_text)) (λ n outside. refl) h
unsigned_fronts Free bits total bytes e h = free_fronts 0 total bytes e h

pub signed_fronts : (bounds : Bounds) (w : Width) (bits : ℕ) → HasFronts (signed_of bounds bits) (IsSigned bounds w) (past_number bounds)
signed_fronts Kept w bits total bytes e h =
    let zero_fits : FitsSigned w (pos 0) = record { sfits = pow_pos _ } in
    let minus_fits : FitsSigned w (negsuc 0) = record { sfits = pow_pos _ } in
    within_fronts (as_signed (2 ^ (bits - 1))) (Leads (IsSigned Kept w)) (past_number Kept) total bytes e (inl (49 ∷ [], negsuc 0, (minus_fits, ap (λ (s : List ℕ). 45 ∷ s) (sym one_text))))
    (48 ∷ [], pos 0, (zero_fits, sym zero_text)) (λ n outside. refl) h
signed_fronts Free w bits total bytes e h = free_fronts (pos 0) total bytes e h
