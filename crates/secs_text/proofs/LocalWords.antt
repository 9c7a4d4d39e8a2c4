-- What the readers of names, hex digits, quoted bytes and blanks answer depends on the bytes that they have seen.
use Rattle.std.proofs.Common.{◌≡◌, ℕ, zero, suc, ◌-◌, ◌+◌, ◌*◌, Bool, true, false, cond, eqb, ◌⊎◌, inl, inr, List, [], ◌∷◌, ◌++◌, length, Option, Some, None, Result, Ok, Err, refl, sym, ap, subst, ◌∙◌, append_assoc, arith}
use Rattle.std.specs.Option.{ok_or, option_and_then}
use Rattle.std.proofs.lemmas.List.{append-nil}
use Rattle.std.proofs.lemmas.Bool.{cases_Bool, eqb-true, eq-eqb, ne_eqb}
use Rattle.hex.specs.Hex.{hex_digit_value}
use Rattle.secs_items.specs.declared.kind.Kind.{Kind}
use Rattle.secs_items.specs.declared.kind.Kind.TheVariants as kind
use Rattle.secs_text.specs.declared.text_fault.TextFault.{TextFault}
use Rattle.secs_text.specs.declared.text_fault.TextFault.TheVariants as fault
use Rattle.secs_text.specs.Grammar.{AreBlanks}
use Rattle.secs_text.specs.Names.{is_blank}
use Rattle.short_text.specs.Shown.{stands_for_itself}
use Rattle.secs_text.specs.Reading.{◌>>=◌, Next, Ends, Goes, Reader, after_blanks, after_byte, after_word, begins_escape, binary_at, syntax_fault, byte_in, element_next, escape_at, float_kind, hex_byte_at, hex_bytes_at, integer_kind, kind_at, name_at, shown_at, shown_next, unsigned_kind}
use Rattle.secs_text.proofs.Blanks.{blanks_alone, blanks_skipped, end_again, goes_again, stays}
use Rattle.secs_text.proofs.Each.{Finder}
use Rattle.secs_text.proofs.Locality.{At, Local, Told, at_after, at_all, at_broken, at_left, at_same, at_taken, behind, local_behind, local_byte, local_pure, pure}

-- ---- what is passed over

abbrev pub Skip : Type 0
Skip = ℕ → List ℕ → Result (List ℕ) TextFault

abbrev pub passed : Result (List ℕ) TextFault → Result (Unit {0} × List ℕ) TextFault
passed result = result >>= λ rest. Ok (tt, rest)

abbrev pub skip : Skip → Reader (Unit {0})
skip s total bytes = passed (s total bytes)

skipped : {B : Type 0} (result : Result (List ℕ) TextFault) (f : List ℕ → Result B TextFault) → (result >>= f) ≡ (passed result >>= λ x. f x.1)
skipped (Ok rest) f = refl
skipped (Err e) f = refl

regrouped : {A B C : Type 0} (result : Result A TextFault) (f : A → Result B TextFault) (g : B → Result C TextFault)
    → ((result >>= f) >>= g) ≡ (result >>= λ x. f x >>= g)
regrouped (Ok x) f g = refl
regrouped (Err e) f g = refl

then_same : {T : Type 0} (s : Skip) (r : Reader T) (total : ℕ) (bytes : List ℕ) → (s total bytes >>= r total) ≡ behind (skip s) (λ _. r) total bytes
unfolding behind
then_same s r total bytes = skipped (s total bytes) (r total)

pub local_then : {T : Type 0} (s : Skip) (r whole : Reader T) → ((total : ℕ) (bytes : List ℕ) → whole total bytes ≡ (s total bytes >>= r total))
    → Local (skip s) → Local r → Local whole
local_then s r whole same first next total bytes =
    at_same (behind (skip s) (λ _. r)) whole total bytes (λ total bytes. same total bytes ∙ then_same s r total bytes) (local_behind (skip s) (λ _. r) first (λ _. next) total bytes)

-- ---- single bytes and words

byte_cases : (wanted c total : ℕ) (rest : List ℕ) → (eqb c wanted ≡ true) ⊎ (eqb c wanted ≡ false) → At (skip (after_byte wanted)) total (c ∷ rest)
unfolding pure
byte_cases wanted c total rest (inl h) =
    at_after (skip (after_byte wanted)) (pure tt) c total rest (λ total rest. rw h refl) (local_pure tt total rest)
byte_cases wanted c total rest (inr h) = at_broken (skip (after_byte wanted)) c total rest (λ total rest. rw h refl)

pub local_after_byte : (wanted : ℕ) → Local (skip (after_byte wanted))
local_after_byte wanted total [] = inl refl
local_after_byte wanted total (c ∷ rest) = byte_cases wanted c total rest (cases_Bool (eqb c wanted))

pub local_word : (word : List ℕ) → Local (skip (after_word word))
unfolding pure
local_word [] total bytes = at_same (pure tt) (skip (after_word [])) total bytes (λ total bytes. refl) (local_pure tt total bytes)
local_word (b ∷ word) total bytes =
    local_then (after_byte b) (skip (after_word word)) (skip (after_word (b ∷ word))) (λ total bytes. regrouped (after_byte b total bytes) (after_word word total) (λ rest. Ok (tt, rest))) (local_after_byte b) (local_word word) total bytes

-- ---- names

oolean : Reader Kind
oolean total bytes = after_word (79 ∷ 76 ∷ 69 ∷ 65 ∷ 78 ∷ []) total bytes >>= λ rest. Ok (kind.Bool, rest)

local_oolean : Local oolean
unfolding oolean pure
local_oolean total bytes =
    local_then (after_word (79 ∷ 76 ∷ 69 ∷ 65 ∷ 78 ∷ [])) (pure kind.Bool) oolean (λ total bytes. refl) (local_word (79 ∷ 76 ∷ 69 ∷ 65 ∷ 78 ∷ []))
    (local_pure kind.Bool) total bytes

binary_cases : (c total : ℕ) (rest : List ℕ) → (eqb c 79 ≡ true) ⊎ (eqb c 79 ≡ false) → At binary_at total (c ∷ rest)
unfolding binary_at oolean
binary_cases c total rest (inl h) = at_after binary_at oolean c total rest (λ total rest. rw h refl) (local_oolean total rest)
binary_cases c total rest (inr h) = at_left binary_at [] c total rest kind.B (λ total rest. rw h refl)

local_binary : Local binary_at
unfolding binary_at
local_binary total [] = at_all binary_at [] total kind.B refl
local_binary total (c ∷ rest) = binary_cases c total rest (cases_Bool (eqb c 79))

local_name : Local name_at
unfolding name_at pure
local_name total [] = inl refl
local_name total (c ∷ rest) =
    elim (cases_Bool (eqb c 76)) [
      | inl h ↦ at_after name_at (pure kind.L) c total rest (λ total rest. rw h refl) (local_pure kind.L total rest)
      | inr h1 ↦ elim (cases_Bool (eqb c 65)) [
        | inl h ↦ at_after name_at (pure kind.A) c total rest (λ total rest. rw (h1, h) refl) (local_pure kind.A total rest)
        | inr h2 ↦ elim (cases_Bool (eqb c 74)) [
          | inl h ↦ at_after name_at (pure kind.J) c total rest (λ total rest. rw (h1, h2, h) refl) (local_pure kind.J total rest)
          | inr h3 ↦ elim (cases_Bool (eqb c 66)) [
            | inl h ↦ at_after name_at binary_at c total rest (λ total rest. rw (h1, h2, h3, h) refl) (local_binary total rest)
            | inr h4 ↦ elim (cases_Bool (eqb c 73)) [
              | inl h ↦ at_after name_at (byte_in integer_kind) c total rest (λ total rest. rw (h1, h2, h3, h4, h) refl) (local_byte integer_kind total rest)
              | inr h5 ↦ elim (cases_Bool (eqb c 85)) [
                | inl h ↦ at_after name_at (byte_in unsigned_kind) c total rest (λ total rest. rw (h1, h2, h3, h4, h5, h) refl) (local_byte unsigned_kind total rest)
                | inr h6 ↦ elim (cases_Bool (eqb c 70)) [
                  | inl h ↦ at_after name_at (byte_in float_kind) c total rest (λ total rest. rw (h1, h2, h3, h4, h5, h6, h) refl) (local_byte float_kind total rest)
                  | inr h7 ↦ at_broken name_at c total rest (λ total rest. rw (h1, h2, h3, h4, h5, h6, h7) refl)
                ]
              ]
            ]
          ]
        ]
      ]
    ]

pub local_kind : Local kind_at
unfolding kind_at
local_kind = local_then (after_byte 60) name_at kind_at (λ total bytes. refl) (local_after_byte 60) local_name

-- ---- hex digits

pub local_hex_byte : Local hex_byte_at
unfolding hex_byte_at behind pure
local_hex_byte total bytes =
    at_same (behind (byte_in hex_digit_value) (λ h. behind (byte_in hex_digit_value) (λ l. pure (16 * h + l)))) hex_byte_at total bytes (λ total bytes. refl)
    (local_behind (byte_in hex_digit_value) (λ h. behind (byte_in hex_digit_value) (λ l. pure (16 * h + l))) (local_byte hex_digit_value) (λ h. local_behind (byte_in hex_digit_value) (λ l. pure (16 * h + l)) (local_byte hex_digit_value) (λ l. local_pure (16 * h + l))) total bytes)

pub local_hex_bytes : (size : ℕ) → Local (hex_bytes_at size)
unfolding behind pure
local_hex_bytes zero total bytes = at_same (pure []) (hex_bytes_at 0) total bytes (λ total bytes. refl) (local_pure [] total bytes)
local_hex_bytes (suc size) total bytes =
    at_same (behind hex_byte_at (λ b. behind (hex_bytes_at size) (λ others. pure (b ∷ others)))) (hex_bytes_at (suc size)) total bytes (λ total bytes. refl)
    (local_behind hex_byte_at (λ b. behind (hex_bytes_at size) (λ others. pure (b ∷ others))) local_hex_byte (λ b. local_behind (hex_bytes_at size) (λ others. pure (b ∷ others)) (local_hex_bytes size) (λ others. local_pure (b ∷ others))) total bytes)

-- ---- quoted bytes

high_digit : ℕ → Option ℕ
high_digit c = option_and_then (λ h. cond (begins_escape h) (Some h) None) (hex_digit_value c)

low_digit : ℕ → ℕ → Option ℕ
low_digit h d = option_and_then (λ l. cond (stands_for_itself (16 * h + l)) None (Some (16 * h + l))) (hex_digit_value d)

-- a value, and these bytes behind it
abbrev taken : {T : Type 0} → List ℕ → Result T TextFault → Result (T × List ℕ) TextFault
taken rest result = result >>= λ value. Ok (value, rest)

-- the byte of two digits, where it doesn't stand for itself
abbrev pub with_low : ℕ → ℕ → List ℕ → ℕ × List ℕ → Result (ℕ × List ℕ) TextFault
with_low h total rest low = cond (stands_for_itself (16 * h + low.0)) (syntax_fault total rest) (Ok (16 * h + low.0, low.1))

abbrev pub with_high : ℕ → List ℕ → ℕ × List ℕ → Result (ℕ × List ℕ) TextFault
with_high total bytes high =
    (cond (begins_escape high.0) (byte_in hex_digit_value total high.1) (syntax_fault total bytes)) >>= with_low high.0 total high.1

low_same : (h total : ℕ) (rest : List ℕ) → (byte_in hex_digit_value total rest >>= with_low h total rest) ≡ byte_in (low_digit h) total rest
unfolding low_digit
low_same h total [] = refl
low_same h total (d ∷ rest) = of (hex_digit_value d) where
  e : TextFault
  e = fault.Syntax (total - suc (length rest))

  chosen_low : (b : Bool) (v : ℕ) → cond b (syntax_fault {A = ℕ × List ℕ} total (d ∷ rest)) (Ok (v, rest)) ≡ taken rest (ok_or (cond b None (Some v)) e)
  chosen_low true v = refl
  chosen_low false v = refl

  of : (o : Option ℕ)
      → (taken rest (ok_or o e) >>= with_low h total (d ∷ rest)) ≡ taken rest (ok_or (option_and_then (λ l. cond (stands_for_itself (16 * h + l)) None (Some (16 * h + l))) o) e)
  of None = refl
  of (Some l) = chosen_low (stands_for_itself (16 * h + l)) (16 * h + l)

escape_same : (total : ℕ) (bytes : List ℕ) → escape_at total bytes ≡ behind (byte_in high_digit) (λ h. byte_in (low_digit h)) total bytes
unfolding escape_at behind high_digit
escape_same total [] = refl
escape_same total (c ∷ rest) = of (hex_digit_value c) where
  e : TextFault
  e = fault.Syntax (total - suc (length rest))

  chosen_high : (b : Bool) (h : ℕ)
      → ((cond b (byte_in hex_digit_value total rest) (syntax_fault total (c ∷ rest))) >>= with_low h total rest) ≡ (taken rest (ok_or (cond b (Some h) None) e) >>= λ x. byte_in (low_digit x.0) total x.1)
  chosen_high true h = low_same h total rest
  chosen_high false h = refl

  of : (o : Option ℕ)
      → (taken rest (ok_or o e) >>= with_high total (c ∷ rest)) ≡ (taken rest (ok_or (option_and_then (λ h. cond (begins_escape h) (Some h) None) o) e) >>= λ x. byte_in (low_digit x.0) total x.1)
  of None = refl
  of (Some h) = chosen_high (begins_escape h) h

local_escape : Local escape_at
local_escape total bytes =
    at_same (behind (byte_in high_digit) (λ h. byte_in (low_digit h))) escape_at total bytes escape_same
    (local_behind (byte_in high_digit) (λ h. byte_in (low_digit h)) (local_byte high_digit) (λ h. local_byte (low_digit h)) total bytes)

escaped : Reader ℕ
escaped total bytes = after_byte 120 total bytes >>= escape_at total

local_escaped : Local escaped
unfolding escaped
local_escaped = local_then (after_byte 120) escape_at escaped (λ total bytes. refl) (local_after_byte 120) local_escape

pub local_shown : Local shown_at
unfolding shown_at escaped pure
local_shown total [] = inl refl
local_shown total (c ∷ rest) =
    elim (cases_Bool (stands_for_itself c)) [
      | inl h ↦ at_after shown_at (pure c) c total rest (λ total rest. rw h refl) (local_pure c total rest)
      | inr h ↦ elim (cases_Bool (eqb c 92)) [
        | inl g ↦ at_after shown_at escaped c total rest (λ total rest. rw (h, g) refl) (local_escaped total rest)
        | inr g ↦ at_broken shown_at c total rest (λ total rest. rw (h, g) refl)
      ]
    ]

-- ---- what stands at a place in a run

abbrev pub found : Next → Bool × List ℕ
found (Ends rest) = (false, rest)
found (Goes rest) = (true, rest)

abbrev pub find : Finder → Reader Bool
find next total bytes = next total bytes >>= λ n. Ok (found n)

pub local_shown_next : Local (find shown_next)
unfolding shown_next pure
local_shown_next total [] = at_all (find shown_next) [] total true refl
local_shown_next total (c ∷ rest) =
    elim (cases_Bool (eqb c 34)) [
      | inl h ↦ at_after (find shown_next) (pure false) c total rest (λ total rest. rw h refl) (local_pure false total rest)
      | inr h ↦ at_left (find shown_next) [] c total rest true (λ total rest. rw h refl)
    ]

-- no blank stands at the front
abbrev pub Solid_front : List ℕ → Type 0
Solid_front [] = Unit {0}
Solid_front (b ∷ rest) = is_blank b ≡ false

split_step : (b : ℕ) (rest : List ℕ) → (is_blank b ≡ true) ⊎ (is_blank b ≡ false)
    → (blanks : List ℕ) × (after : List ℕ) × AreBlanks blanks × (rest ≡ blanks ++ after) × Solid_front after
    → (blanks : List ℕ) × (after : List ℕ) × AreBlanks blanks × (b ∷ rest ≡ blanks ++ after) × Solid_front after
split_step b rest (inl h) s = (b ∷ s.0, s.1, (h, s.2), ap (λ (t : List ℕ). b ∷ t) s.3, s.4)
split_step b rest (inr h) s = ([], b ∷ rest, tt, refl, h)

pub blanks_split : (bytes : List ℕ) → (blanks : List ℕ) × (after : List ℕ) × AreBlanks blanks × (bytes ≡ blanks ++ after) × Solid_front after
blanks_split [] = ([], [], tt, refl, tt)
blanks_split (b ∷ rest) = split_step b rest (cases_Bool (is_blank b)) (blanks_split rest)

pub after_split : (blanks : List ℕ) (c : ℕ) (rest : List ℕ) → AreBlanks blanks → is_blank c ≡ false → after_blanks (blanks ++ c ∷ rest) ≡ c ∷ rest
after_split blanks c rest h solid = blanks_skipped blanks (c ∷ rest) h ∙ stays c rest solid

-- neither blanks nor `>`
next_broken : (c total : ℕ) (rest : List ℕ) → is_blank c ≡ false → eqb c 62 ≡ false
    → find element_next total (c ∷ rest) ≡ Err (fault.Syntax (total - suc (length rest)))
unfolding element_next
next_broken c total rest solid other = rw (stays c rest solid, other, eq-eqb (length (c ∷ rest)) (length (c ∷ rest)) refl) refl

next_all : (b total : ℕ) (blanks : List ℕ) → AreBlanks (b ∷ blanks) → find element_next total (b ∷ blanks) ≡ Ok (true, [])
unfolding element_next
next_all b total blanks h = rw (blanks_alone (b ∷ blanks) h, ne_eqb 0 (suc (length blanks)) (λ (e : 0 ≡ suc (length blanks)). omega (arith, e))) refl

next_none : (total : ℕ) → find element_next total [] ≡ Err (fault.Syntax total)
unfolding element_next
next_none total = ap (λ (n : ℕ). Err (fault.Syntax n)) (omega arith)

next_at : (total : ℕ) (blanks after : List ℕ) → AreBlanks blanks → Solid_front after → At (find element_next) total (blanks ++ after)
next_at total [] [] h solid = subst (Told (find element_next) total []) (sym (next_none total)) (inl refl)
next_at total (b ∷ blanks) [] h solid =
    subst (At (find element_next) total) (sym (append-nil (b ∷ blanks)))
    (at_all (find element_next) (b ∷ blanks) total true (next_all b total blanks h))
next_at total blanks (c ∷ rest) h solid =
    elim (cases_Bool (eqb c 62)) [
      | inl e ↦
          subst (λ (d : ℕ). At (find element_next) total (blanks ++ d ∷ rest)) (sym (eqb-true c 62 e))
          (subst (At (find element_next) total) (append_assoc blanks (62 ∷ []) rest) (at_taken (find element_next) (blanks ++ 62 ∷ []) total rest false (λ total rest. ap (find element_next total) (append_assoc blanks (62 ∷ []) rest) ∙ ap (λ r. r >>= λ n. Ok (found n)) (end_again total blanks rest h))))
      | inr e ↦ some_at total blanks c rest h solid e
    ] where
      some_at : (total : ℕ) (blanks : List ℕ) (c : ℕ) (rest : List ℕ) → AreBlanks blanks → is_blank c ≡ false → eqb c 62 ≡ false
          → At (find element_next) total (blanks ++ c ∷ rest)
      some_at total [] c rest h solid other = at_broken (find element_next) c total rest (λ total rest. next_broken c total rest solid other)
      some_at total (b ∷ blanks) c rest h solid other =
          at_left (find element_next) (b ∷ blanks) c total rest true
          (λ total rest. ap (λ r. r >>= λ n. Ok (found n)) (goes_again total c (b ∷ blanks) rest h (λ (e : b ∷ blanks ≡ []). cc) solid other))

pub local_element_next : Local (find element_next)
local_element_next total bytes = let s = blanks_split bytes in subst (At (find element_next) total) (sym s.3) (next_at total s.0 s.1 s.2 s.4)
