-- What stands before a fault in a text can be completed.
use Rattle.std.proofs.Common.{◌≡◌, ◌≢◌, ℕ, zero, suc, ◌-◌, ◌^◌, ◌<◌, true, cond, eqb, inl, inr, lit<, List, [], ◌∷◌, ◌++◌, length, drop, Option, Result, Ok, Err, refl, sym, ap, subst, ◌∙◌, append_assoc}
use Rattle.std.specs.Prelude.{codes}
use Rattle.std.specs.Int.{Width, w8, w16, w32, w64}
use Rattle.std.proofs.lemmas.Bool.{eqb-true}
use Rattle.std.proofs.lemmas.List.{append-nil}
use Rattle.secs_items.specs.declared.item.Item.{Item, out-Item}
use Rattle.secs_items.specs.declared.item.Item.TheOpen.{Item-F}
use Rattle.secs_items.specs.declared.item.Item.TheVariants as item
use Rattle.secs_items.specs.declared.item.Item.TheViews.{roll-Item, out-roll-Item}
use Rattle.secs_items.specs.declared.kind.Kind.{Kind}
use Rattle.secs_items.specs.declared.kind.Kind.TheVariants as kind
use Rattle.secs_items.specs.Kinds.{is_list}
use Rattle.secs_items.specs.Layers.{kind_of}
use Rattle.secs_text.specs.declared.text_fault.TextFault.{TextFault}
use Rattle.secs_text.specs.declared.text_fault.TextFault.TheVariants as fault
use Rattle.secs_text.specs.Faults.{Begins, EndsInBlank}
use Rattle.secs_text.specs.Grammar.{AfterBlanks, AreBlanks, Bounds, Kept, Free, HasElements, InBlanks, InTurn, IsHexByte, IsHexBytes, IsItemText, IsSigned, IsText, IsUnsigned, ReadsWithin}
use Rattle.secs_text.specs.Names.{name_of}
use Rattle.secs_text.specs.Reading.{◌>>=◌, Next, Ends, Goes, Reader, after_blanks, after_byte, after_word, begins, binary_at, syntax_fault, byte_in, each_at, each_from, element_next, elements_at, elements_of, float_kind, hex_byte_at, hex_bytes_at, integer_kind, item_at, item_of, kind_at, name_at, read_text, read_within, shallow_at, signed_of, text_at, unsigned_kind, unsigned_of, whole}
use Rattle.secs_text.proofs.Blanks.{blanks_found, byte_there, next_goes}
use Rattle.secs_text.proofs.Elements.{Ended, IsForm, hex_byte_form, hex_bytes_form}
use Rattle.secs_text.proofs.FrontWords.{TextEnd, hex_byte_fronts, hex_bytes_fronts, past_number, signed_fronts, text_fronts, unsigned_fronts}
use Rattle.secs_text.proofs.Fronts.{Fronts, HasFronts, IsBreak, Leads, Limit, Sign, Size, Depth, bind_err, byte_err, chosen_err, failed, fine, fronts_behind, fronts_here, fronts_map, grouped, none, none_left, only_syntax, plain_behind, plain_here, plain_map, plain_past, plain_reader, table_err}
use Rattle.secs_text.proofs.Items.{Behind, item_form, signed_form_8, signed_form_16, signed_form_32, signed_form_64, unsigned_form_8, unsigned_form_16, unsigned_form_32, unsigned_form_64}
use Rattle.secs_text.proofs.KindNames.{kind_takes}

-- ---- many elements

-- the elements and the end of an item
abbrev pub ToEnd : {T : Type 0} → (T → List ℕ → Type 0) → List T → List ℕ → Type 0
ToEnd Is xs text = Ended Is xs text []

end_there : {T : Type 0} (Is : T → List ℕ → Type 0) → Leads (ToEnd Is) []
end_there Is = (62 ∷ [], [], ([], [], refl, tt, refl))

pub next_err : (total : ℕ) (bytes : List ℕ) (e : TextFault) → element_next total bytes ≡ Err e → e ≡ fault.Syntax (total - length bytes)
unfolding element_next
next_err total bytes e h =
    let after = after_blanks bytes in
    elim (chosen_err (begins 62 after) (Ok (Ends (drop 1 after))) (cond (eqb (length after) (length bytes)) (syntax_fault total bytes) (Ok (Goes after))) e h) [
      | inl g ↦ absurd (fine (Ends (drop 1 after)) e g.1)
      | inr g ↦ elim (chosen_err (eqb (length after) (length bytes)) (syntax_fault total bytes) (Ok (Goes after)) e g.1) [
        | inl k ↦ failed (fault.Syntax (total - length bytes)) e k.1
        | inr k ↦ absurd (fine (Goes after) e k.1)
      ]
    ]

last_one : (g f m end : List ℕ) → (g ++ f) ++ (m ++ end) ≡ ((g ++ (f ++ m)) ++ []) ++ end
last_one g f m end = simp (append_assoc, append-nil)

one_more : (g x f m els blanks : List ℕ) → f ++ m ≡ els ++ (blanks ++ 62 ∷ []) → ((g ++ x) ++ f) ++ m ≡ ((g ++ x) ++ els) ++ (blanks ++ 62 ∷ [])
one_more g x f m els blanks e = append_assoc (g ++ x) f m ∙ ap (λ (s : List ℕ). (g ++ x) ++ s) e ∙ sym (append_assoc (g ++ x) els (blanks ++ 62 ∷ []))

-- what an element passes, behind the blanks before it; and what is passed, behind more
abbrev pub InRun : (Limit → List ℕ → Type 0) → (Limit → List ℕ → Type 0) → Type 0
InRun Past Passed = (l : Limit) (blanks f : List ℕ) → AreBlanks blanks → blanks ≢ [] → Past l f → Passed l (blanks ++ f)

abbrev pub Stays : (Limit → List ℕ → Type 0) → Type 0
Stays Passed = (l : Limit) (pre f : List ℕ) → Passed l f → Passed l (pre ++ f)

from_next_err : {T : Type 0} (one : Reader T) (Is : T → List ℕ → Type 0) (Past Passed : Limit → List ℕ → Type 0)
    → IsForm one Is → InRun Past Passed → Stays Passed → HasFronts one Is Past → (most total : ℕ)
    → ((bytes : List ℕ) (e : TextFault) → each_at element_next one most total bytes ≡ Err e → Fronts (Leads (ToEnd Is)) Passed total bytes e)
    → (bytes : List ℕ) (n : Next) (e : TextFault) → element_next total bytes ≡ Ok n
    → each_from (each_at element_next one most total) (one total) n ≡ Err e → Fronts (Leads (ToEnd Is)) Passed total bytes e
from_next_err one Is Past Passed form run stays fronts most total others bytes (Ends after) e found h = absurd (fine ([], after) e h)
from_next_err {T} one Is Past Passed form run stays fronts most total others bytes (Goes after) e found h =
    let g = next_goes total bytes after found in
    elim (bind_err (one total after) (λ (first : T × List ℕ). each_at element_next one most total first.1 >>= λ ys. Ok (first.0 ∷ ys.0, ys.1)) e h) [
      | inl o ↦
          fronts_behind (Leads Is) (Leads (ToEnd Is)) Past Passed total g.0 bytes after e g.3 (λ f may.
          (may.0 ++ 62 ∷ [], may.1 ∷ [], ((g.0 ++ (f ++ may.0)) ++ [], [], (g.0 ++ (f ++ may.0), [], refl, (g.0, f ++ may.0, refl, g.1, g.2, may.2), refl), tt, last_one g.0 f may.0 (62 ∷ [])))) (λ l f past. run l g.0 f g.1 g.2 past)
          (fronts total after e o)
      | inr o ↦
          let x = form.takes total after o.0 o.1 in
          elim (bind_err (each_at element_next one most total o.0.1) (λ (ys : List T × List ℕ). Ok (o.0.0 ∷ ys.0, ys.1)) e o.2) [
            | inl l ↦
                fronts_behind (Leads (ToEnd Is)) (Leads (ToEnd Is)) Passed Passed total (g.0 ++ x.0) bytes o.0.1 e (g.3 ∙ ap (λ (s : List ℕ). g.0 ++ s) x.2 ∙ sym (append_assoc g.0 x.0 o.0.1)) (λ f may.
                let t = may.2 in
                (may.0, o.0.0 ∷ may.1, ((g.0 ++ x.0) ++ t.0, t.1, (g.0 ++ x.0, t.0, refl, (g.0, x.0, refl, g.1, g.2, x.1), t.2), t.3, one_more g.0 x.0 f may.0 t.0 t.1 t.4))) (λ l f past. stays l (g.0 ++ x.0) f past)
                (others o.0.1 e l)
            | inr l ↦ absurd (fine (o.0.0 ∷ l.0.0, l.0.1) e l.2)
          ]
    ]

each_err : {T : Type 0} (one : Reader T) (Is : T → List ℕ → Type 0) (Past Passed : Limit → List ℕ → Type 0)
    → IsForm one Is → InRun Past Passed → Stays Passed → HasFronts one Is Past → (most total : ℕ) (bytes : List ℕ) (e : TextFault)
    → each_at element_next one most total bytes ≡ Err e → Fronts (Leads (ToEnd Is)) Passed total bytes e
each_err one Is Past Passed form run stays fronts zero total bytes e h =
    fronts_here (Leads (ToEnd Is)) Passed total bytes e (failed (fault.Syntax (total - length bytes)) e h) (end_there Is)
each_err one Is Past Passed form run stays fronts (suc most) total bytes e h =
    elim (bind_err (element_next total bytes) (each_from (each_at element_next one most total) (one total)) e h) [
      | inl g ↦ fronts_here (Leads (ToEnd Is)) Passed total bytes e (next_err total bytes e g) (end_there Is)
      | inr g ↦ from_next_err one Is Past Passed form run stays fronts most total (each_err one Is Past Passed form run stays fronts most total) bytes g.0 e g.1 g.2
    ]

pub elements_fronts : {T : Type 0} (one : Reader T) (Is : T → List ℕ → Type 0) (Past Passed : Limit → List ℕ → Type 0)
    → IsForm one Is → InRun Past Passed → Stays Passed → HasFronts one Is Past → HasFronts (elements_at one) (ToEnd Is) Passed
elements_fronts one Is Past Passed form run stays fronts total bytes e h =
    each_err one Is Past Passed form run stays fronts (length bytes) total bytes e h

-- ---- what is passed

-- Where numbers are kept within their kinds, a minus may be one too many, and a number that is outside begins behind a blank.
-- At any bounds a list may be too deep.
abbrev pub past_of : Bounds → Limit → List ℕ → Type 0
past_of Kept Sign f = Unit {0}
past_of Kept Size f = EndsInBlank f
past_of Kept Depth f = Unit {0}
past_of Free Sign f = ⊥
past_of Free Size f = ⊥
past_of Free Depth f = Unit {0}

past_deep : (bounds : Bounds) (f : List ℕ) → past_of bounds Depth f
past_deep Kept f = tt
past_deep Free f = tt

past_stays : (bounds : Bounds) → Stays (past_of bounds)
past_stays Kept Sign pre f past = tt
past_stays Kept Size pre f past = (pre ++ past.0, past.1, ap (λ (s : List ℕ). pre ++ s) past.2 ∙ sym (append_assoc pre past.0 (past.1 ∷ [])), past.3)
past_stays Kept Depth pre f past = tt
past_stays Free Sign pre f past = past
past_stays Free Size pre f past = past
past_stays Free Depth pre f past = tt

-- some blanks end in one
last_blank : (blanks : List ℕ) → AreBlanks blanks → blanks ≢ [] → past_of Kept Size blanks
last_blank [] h some = absurd (some refl)
last_blank (b ∷ []) h some = ([], b, refl, h.0)
last_blank (b ∷ c ∷ rest) h some =
    let last = last_blank (c ∷ rest) h.1 (λ (e : c ∷ rest ≡ []). cc) in
    (b ∷ last.0, last.1, ap (λ (s : List ℕ). b ∷ s) last.2, last.3)

number_run : (bounds : Bounds) → InRun (past_number bounds) (past_of bounds)
number_run Kept Sign blanks f h some past = tt
number_run Kept Size blanks f h some past =
    subst (past_of Kept Size) (sym (append-nil blanks) ∙ ap (λ (s : List ℕ). blanks ++ s) (sym past)) (last_blank blanks h some)
number_run Kept Depth blanks f h some past = tt
number_run Free l blanks f h some past = absurd past

-- ---- elements of a kind

-- values that pass no limit
plain_run : {T : Type 0} (one : Reader T) (Is : T → List ℕ → Type 0) → IsForm one Is → HasFronts one Is none
    → HasFronts (elements_at one) (ToEnd Is) none
plain_run one Is form fronts = elements_fronts one Is none none form (λ l blanks f h some past. past) (λ l pre f past. past) fronts

pub bytes_fronts : HasFronts (elements_at hex_byte_at) (ToEnd IsHexByte) none
bytes_fronts = plain_run hex_byte_at IsHexByte hex_byte_form hex_byte_fronts

pub floats_fronts : (size : ℕ) → 0 < size → HasFronts (elements_at (hex_bytes_at size)) (ToEnd (IsHexBytes size)) none
floats_fronts size some = plain_run (hex_bytes_at size) (IsHexBytes size) (hex_bytes_form size some) (hex_bytes_fronts size)

-- a run of elements, and its end
abbrev Run : {T : Type 0} → Bounds → Reader T → (T → List ℕ → Type 0) → Type 0
Run bounds one Is = HasFronts (elements_at one) (ToEnd Is) (past_of bounds)

bytes_run : (bounds : Bounds) → Run bounds hex_byte_at IsHexByte
bytes_run bounds = plain_reader (elements_at hex_byte_at) (ToEnd IsHexByte) (past_of bounds) bytes_fronts

floats_run : (bounds : Bounds) (size : ℕ) → 0 < size → Run bounds (hex_bytes_at size) (IsHexBytes size)
floats_run bounds size some = plain_reader (elements_at (hex_bytes_at size)) (ToEnd (IsHexBytes size)) (past_of bounds) (floats_fronts size some)

numbers_run : {T : Type 0} (bounds : Bounds) (one : Reader T) (Is : T → List ℕ → Type 0) → IsForm one Is → HasFronts one Is (past_number bounds)
    → Run bounds one Is
numbers_run bounds one Is form fronts =
    elements_fronts one Is (past_number bounds) (past_of bounds) form (number_run bounds) (past_stays bounds) fronts

unsigned_run : (bounds : Bounds) (bits : ℕ) → IsForm (unsigned_of bounds bits) (IsUnsigned bounds (2 ^ bits))
    → Run bounds (unsigned_of bounds bits) (IsUnsigned bounds (2 ^ bits))
unsigned_run bounds bits form = numbers_run bounds (unsigned_of bounds bits) (IsUnsigned bounds (2 ^ bits)) form (unsigned_fronts bounds bits)

signed_run : (bounds : Bounds) (w : Width) (bits : ℕ) → IsForm (signed_of bounds bits) (IsSigned bounds w)
    → Run bounds (signed_of bounds bits) (IsSigned bounds w)
signed_run bounds w bits form = numbers_run bounds (signed_of bounds bits) (IsSigned bounds w) form (signed_fronts bounds w bits)

-- ---- names

-- a name of items that may have no elements
abbrev Named : Bounds → (List Item → List ℕ → Type 0) → List ℕ → Type 0
Named bounds Items front = (more : List ℕ) × (x : Item-F Item) × HasElements bounds Items x [] × (front ++ more ≡ name_of (kind_of x))

word_err : (word : List ℕ) (total : ℕ) (bytes : List ℕ) (e : TextFault) → after_word word total bytes ≡ Err e
    → Fronts (λ f. (more : List ℕ) × (f ++ more ≡ word)) none total bytes e
word_err [] total bytes e h = absurd (fine bytes e h)
word_err (b ∷ word) total bytes e h =
    elim (bind_err (after_byte b total bytes) (after_word word total) e h) [
      | inl g ↦ plain_here (λ f. (more : List ℕ) × (f ++ more ≡ b ∷ word)) total bytes e (byte_err b total bytes e g) (b ∷ word, refl)
      | inr g ↦
          plain_behind (λ f. (more : List ℕ) × (f ++ more ≡ word)) (λ f. (more : List ℕ) × (f ++ more ≡ b ∷ word)) total (b ∷ []) bytes g.0 e (byte_there b total bytes g.0 g.1) (λ f may. (may.0, ap (λ (s : List ℕ). b ∷ s) may.1))
          (word_err word total g.0 e g.2)
    ]

binary_fronts : (bounds : Bounds) (Items : List Item → List ℕ → Type 0) (total : ℕ) (rest : List ℕ) (e : TextFault) → binary_at total rest ≡ Err e
    → Fronts (λ f. Named bounds Items (66 ∷ f)) none total rest e
unfolding binary_at
binary_fronts bounds Items total rest e h =
    elim (chosen_err (begins 79 rest) (after_word (codes "OOLEAN") total rest >>= λ after. Ok (kind.Bool, after)) (Ok (kind.B, rest)) e h) [
      | inr g ↦ absurd (fine (kind.B, rest) e g.1)
      | inl g ↦ elim (bind_err (after_word (codes "OOLEAN") total rest) (λ after. Ok (kind.Bool, after)) e g.1) [
        | inr k ↦ absurd (fine (kind.Bool, k.0) e k.2)
        | inl k ↦
            plain_map (λ f. (more : List ℕ) × (f ++ more ≡ codes "OOLEAN")) (λ f. Named bounds Items (66 ∷ f)) total rest e (λ f may. (may.0, Item-F.Bool [], refl, ap (λ (s : List ℕ). 66 ∷ s) may.1)) (word_err (codes "OOLEAN") total rest e k)
      ]
    ]

digit_fronts : (bounds : Bounds) (Items : List Item → List ℕ → Type 0) (table : ℕ → Option Kind) (letter c total : ℕ) (rest : List ℕ) (e : TextFault)
    → eqb c letter ≡ true → Named bounds Items (letter ∷ []) → byte_in table total rest ≡ Err e → Fronts (Named bounds Items) none total (c ∷ rest) e
digit_fronts bounds Items table letter c total rest e is named h =
    plain_behind (λ f. Named bounds Items (letter ∷ f)) (Named bounds Items) total (letter ∷ []) (c ∷ rest) rest e (ap (λ (b : ℕ). b ∷ rest) (eqb-true c letter is)) (λ f may. may)
    (plain_here (λ f. Named bounds Items (letter ∷ f)) total rest e (table_err table total rest e h) named)

any_name : (bounds : Bounds) (Items : List Item → List ℕ → Type 0) → Named bounds Items []
any_name bounds Items = (66 ∷ [], Item-F.B [], refl, refl)

name_fronts : (bounds : Bounds) (Items : List Item → List ℕ → Type 0) (total : ℕ) (bytes : List ℕ) (e : TextFault) → name_at total bytes ≡ Err e
    → Fronts (Named bounds Items) none total bytes e
unfolding name_at
name_fronts bounds Items total [] e h =
    plain_here (Named bounds Items) total [] e (failed (fault.Syntax total) e h ∙ none_left total) (any_name bounds Items)
name_fronts bounds Items total (c ∷ rest) e h =
    elim (chosen_err (eqb c 76) (Ok (kind.L, rest)) _ e h) [
      | inl g ↦ absurd (fine (kind.L, rest) e g.1)
      | inr h ↦ elim (chosen_err (eqb c 65) (Ok (kind.A, rest)) _ e h.1) [
        | inl g ↦ absurd (fine (kind.A, rest) e g.1)
        | inr h ↦ elim (chosen_err (eqb c 74) (Ok (kind.J, rest)) _ e h.1) [
          | inl g ↦ absurd (fine (kind.J, rest) e g.1)
          | inr h ↦ elim (chosen_err (eqb c 66) (binary_at total rest) _ e h.1) [
            | inl g ↦
                plain_behind (λ f. Named bounds Items (66 ∷ f)) (Named bounds Items) total (66 ∷ []) (c ∷ rest) rest e (ap (λ (b : ℕ). b ∷ rest) (eqb-true c 66 g.0)) (λ f may. may) (binary_fronts bounds Items total rest e g.1)
            | inr h ↦ elim (chosen_err (eqb c 73) (byte_in integer_kind total rest) _ e h.1) [
              | inl g ↦ digit_fronts bounds Items integer_kind 73 c total rest e g.0 (49 ∷ [], Item-F.I1 [], refl, refl) g.1
              | inr h ↦ elim (chosen_err (eqb c 85) (byte_in unsigned_kind total rest) _ e h.1) [
                | inl g ↦ digit_fronts bounds Items unsigned_kind 85 c total rest e g.0 (49 ∷ [], Item-F.U1 [], refl, refl) g.1
                | inr h ↦ elim (chosen_err (eqb c 70) (byte_in float_kind total rest) _ e h.1) [
                  | inl g ↦ digit_fronts bounds Items float_kind 70 c total rest e g.0 (52 ∷ [], Item-F.F4 [], refl, refl) g.1
                  | inr g ↦ plain_here (Named bounds Items) total (c ∷ rest) e (failed (fault.Syntax (total - suc (length rest))) e g.1) (any_name bounds Items)
                ]
              ]
            ]
          ]
        ]
      ]
    ]

-- ---- an item

abbrev Texts : Bounds → (List Item → List ℕ → Type 0) → List ℕ → Type 0
Texts bounds Items front = (more : List ℕ) × (x : Item-F Item) × IsText bounds Items x (front ++ more)

-- an item without elements
empty_there : (bounds : Bounds) (Items : List Item → List ℕ → Type 0) (f : List ℕ) → Named bounds Items f → Texts bounds Items (60 ∷ f)
empty_there bounds Items f may =
    (may.0 ++ 62 ∷ [], may.1, record { elements = []; blanks = []; holds = may.2; ends = tt; placed = ap (λ (s : List ℕ). 60 ∷ s) (sym (append_assoc f may.0 (62 ∷ [])) ∙ ap (λ (s : List ℕ). s ++ 62 ∷ []) may.3) })

kind_fronts : (bounds : Bounds) (Items : List Item → List ℕ → Type 0) (total : ℕ) (bytes : List ℕ) (e : TextFault) → kind_at total bytes ≡ Err e
    → Fronts (Texts bounds Items) none total bytes e
unfolding kind_at
kind_fronts bounds Items total bytes e h =
    elim (bind_err (after_byte 60 total bytes) (name_at total) e h) [
      | inl g ↦ plain_here (Texts bounds Items) total bytes e (byte_err 60 total bytes e g) (let t = empty_there bounds Items [] (any_name bounds Items) in (60 ∷ t.0, t.1, t.2))
      | inr g ↦ plain_behind (Named bounds Items) (Texts bounds Items) total (60 ∷ []) bytes g.0 e (byte_there 60 total bytes g.0 g.1) (empty_there bounds Items) (name_fronts bounds Items total g.0 e g.2)
    ]

-- the elements of an item of this kind, and its end
abbrev Elements : Bounds → (List Item → List ℕ → Type 0) → Kind → List ℕ → Type 0
Elements bounds Items k front = (more : List ℕ) × (x : Item-F Item) × (kind_of x ≡ k) × Behind bounds Items x (front ++ more) []

made_err : {T : Type 0} (make : T → Item) (read : Result (T × List ℕ) TextFault) (e : TextFault) → item_of make read ≡ Err e → read ≡ Err e
made_err {T} make read e h =
    elim (bind_err read (λ (x : T × List ℕ). Ok (make x.0, x.1)) e h) [
      | inl g ↦ g
      | inr g ↦ absurd (fine (make g.0.0, g.0.1) e g.2)
    ]

run_fronts : {T : Type 0} (bounds : Bounds) (Items : List Item → List ℕ → Type 0) (make : T → Item) (shape : T → Item-F Item) (k : Kind) (one : Reader T)
    → ((y : T) → kind_of (shape y) ≡ k) → (P : T → List ℕ → Type 0) → ((y : T) (text : List ℕ) → P y text → Behind bounds Items (shape y) text [])
    → HasFronts one P (past_of bounds)
    → (total : ℕ) (bytes : List ℕ) (e : TextFault) → item_of make (one total bytes) ≡ Err e
    → Fronts (Elements bounds Items k) (past_of bounds) total bytes e
run_fronts bounds Items make shape k one same P behind fronts total bytes e h =
    fronts_map (Leads P) (Elements bounds Items k) (past_of bounds) (past_of bounds) total bytes e (λ f may. (may.0, shape may.1, same may.1, behind may.1 (f ++ may.0) may.2)) (λ l f past. past)
    (fronts total bytes e (made_err make (one total bytes) e h))

elements_of_fronts : (bounds : Bounds) (Items : List Item → List ℕ → Type 0) (one : Reader Item) (k : Kind) (P : List Item → List ℕ → Type 0)
    → ((y : List Item) (text : List ℕ) → P y text → Behind bounds Items (Item-F.L y) text [])
    → (is_list k ≡ true → HasFronts (elements_at one) P (past_of bounds))
    → (total : ℕ) (bytes : List ℕ) (e : TextFault) → elements_of bounds one k total bytes ≡ Err e
    → Fronts (Elements bounds Items k) (past_of bounds) total bytes e
unfolding elements_of
elements_of_fronts bounds Items one kind.L P behind lists =
    run_fronts bounds Items item.L (λ y. Item-F.L y) kind.L (elements_at one) (λ y. refl) P behind (lists refl)
elements_of_fronts bounds Items one kind.B P behind lists =
    run_fronts bounds Items item.B (λ y. Item-F.B y) kind.B (elements_at hex_byte_at) (λ y. refl) (ToEnd IsHexByte) (λ y text t. t) (bytes_run bounds)
elements_of_fronts bounds Items one kind.Bool P behind lists =
    run_fronts bounds Items item.Bool (λ y. Item-F.Bool y) kind.Bool (elements_at hex_byte_at) (λ y. refl) (ToEnd IsHexByte) (λ y text t. t)
    (bytes_run bounds)
elements_of_fronts bounds Items one kind.A P behind lists =
    run_fronts bounds Items item.A (λ y. Item-F.A y) kind.A text_at (λ y. refl) TextEnd (λ y text t. t)
    (plain_reader text_at TextEnd (past_of bounds) text_fronts)
elements_of_fronts bounds Items one kind.J P behind lists =
    run_fronts bounds Items item.J (λ y. Item-F.J y) kind.J (elements_at hex_byte_at) (λ y. refl) (ToEnd IsHexByte) (λ y text t. t) (bytes_run bounds)
elements_of_fronts bounds Items one kind.I1 P behind lists =
    run_fronts bounds Items item.I1 (λ y. Item-F.I1 y) kind.I1 (elements_at (signed_of bounds 8)) (λ y. refl) (ToEnd (IsSigned bounds w8))
    (λ y text t. t) (signed_run bounds w8 8 (signed_form_8 bounds))
elements_of_fronts bounds Items one kind.I2 P behind lists =
    run_fronts bounds Items item.I2 (λ y. Item-F.I2 y) kind.I2 (elements_at (signed_of bounds 16)) (λ y. refl) (ToEnd (IsSigned bounds w16))
    (λ y text t. t) (signed_run bounds w16 16 (signed_form_16 bounds))
elements_of_fronts bounds Items one kind.I4 P behind lists =
    run_fronts bounds Items item.I4 (λ y. Item-F.I4 y) kind.I4 (elements_at (signed_of bounds 32)) (λ y. refl) (ToEnd (IsSigned bounds w32))
    (λ y text t. t) (signed_run bounds w32 32 (signed_form_32 bounds))
elements_of_fronts bounds Items one kind.I8 P behind lists =
    run_fronts bounds Items item.I8 (λ y. Item-F.I8 y) kind.I8 (elements_at (signed_of bounds 64)) (λ y. refl) (ToEnd (IsSigned bounds w64))
    (λ y text t. t) (signed_run bounds w64 64 (signed_form_64 bounds))
elements_of_fronts bounds Items one kind.U1 P behind lists =
    run_fronts bounds Items item.U1 (λ y. Item-F.U1 y) kind.U1 (elements_at (unsigned_of bounds 8)) (λ y. refl) (ToEnd (IsUnsigned bounds (2 ^ 8)))
    (λ y text t. t) (unsigned_run bounds 8 (unsigned_form_8 bounds))
elements_of_fronts bounds Items one kind.U2 P behind lists =
    run_fronts bounds Items item.U2 (λ y. Item-F.U2 y) kind.U2 (elements_at (unsigned_of bounds 16)) (λ y. refl) (ToEnd (IsUnsigned bounds (2 ^ 16)))
    (λ y text t. t) (unsigned_run bounds 16 (unsigned_form_16 bounds))
elements_of_fronts bounds Items one kind.U4 P behind lists =
    run_fronts bounds Items item.U4 (λ y. Item-F.U4 y) kind.U4 (elements_at (unsigned_of bounds 32)) (λ y. refl) (ToEnd (IsUnsigned bounds (2 ^ 32)))
    (λ y text t. t) (unsigned_run bounds 32 (unsigned_form_32 bounds))
elements_of_fronts bounds Items one kind.U8 P behind lists =
    run_fronts bounds Items item.U8 (λ y. Item-F.U8 y) kind.U8 (elements_at (unsigned_of bounds 64)) (λ y. refl) (ToEnd (IsUnsigned bounds (2 ^ 64)))
    (λ y text t. t) (unsigned_run bounds 64 (unsigned_form_64 bounds))
elements_of_fronts bounds Items one kind.F4 P behind lists =
    run_fronts bounds Items item.F4 (λ y. Item-F.F4 y) kind.F4 (elements_at (hex_bytes_at 4)) (λ y. refl) (ToEnd (IsHexBytes 4)) (λ y text t. t)
    (floats_run bounds 4 (lit< tt))
elements_of_fronts bounds Items one kind.F8 P behind lists =
    run_fronts bounds Items item.F8 (λ y. Item-F.F8 y) kind.F8 (elements_at (hex_bytes_at 8)) (λ y. refl) (ToEnd (IsHexBytes 8)) (λ y text t. t)
    (floats_run bounds 8 (lit< tt))

-- behind `<` and a name
named_front : (bounds : Bounds) (Items : List Item → List ℕ → Type 0) (k : Kind) (f : List ℕ) → Elements bounds Items k f
    → Texts bounds Items ((60 ∷ name_of k) ++ f)
named_front bounds Items k f may =
    let b = may.3 in (
      may.0,
      may.1,
      record {
        elements = b.0;
        blanks = b.1;
        holds = b.2;
        ends = b.3;
        placed = append_assoc (60 ∷ name_of k) f may.0 ∙ ap (λ (s : List ℕ). 60 ∷ name_of k ++ s) b.4 ∙ ap (λ (j : Kind). 60 ∷ name_of j ++ (b.0 ++ (b.1 ++ 62 ∷ []))) (sym may.2);
      },
    )

behind_name : (bounds : Bounds) (Items : List Item → List ℕ → Type 0) (total : ℕ) (bytes : List ℕ) (k : Kind × List ℕ) (e : TextFault)
    → kind_at total bytes ≡ Ok k
    → Fronts (Elements bounds Items k.0) (past_of bounds) total k.1 e → Fronts (Texts bounds Items) (past_of bounds) total bytes e
behind_name bounds Items total bytes k e named f =
    fronts_behind (Elements bounds Items k.0) (Texts bounds Items) (past_of bounds) (past_of bounds) total (60 ∷ name_of k.0) bytes k.1 e (kind_takes total bytes k named) (named_front bounds Items k.0)
    (λ l f past. past_stays bounds l (60 ∷ name_of k.0) f past) f

-- an item of this layer
rolled : (bounds : Bounds) (Items : List Item → List ℕ → Type 0) (f : List ℕ) → Texts bounds Items f
    → (more : List ℕ) × (i : Item) × IsText bounds Items (out-Item i) (f ++ more)
rolled bounds Items f may =
    (may.0, roll-Item may.1, subst (λ (x : Item-F Item). IsText bounds Items x (f ++ may.0)) (sym (out-roll-Item may.1)) may.2)

leaf_fronts : (bounds : Bounds) → HasFronts (item_at bounds 0) (ReadsWithin bounds 0) (past_of bounds)
unfolding item_at
leaf_fronts bounds total bytes e h =
    let no_items : List Item → List ℕ → Type 0 = λ _ _. ⊥ in
    fronts_map (Texts bounds no_items) (Leads (ReadsWithin bounds 0)) (past_of bounds) (past_of bounds) total bytes e (rolled bounds no_items) (λ l f past. past)
    (elim (bind_err (kind_at total bytes) (shallow_at bounds total bytes) e h) [
      | inl g ↦ plain_past (Texts bounds no_items) (past_of bounds) total bytes e (kind_fronts bounds no_items total bytes e g)
      | inr g ↦ elim (chosen_err (is_list g.0.0) (Err (fault.TooDeep (total - length bytes))) (elements_of bounds (λ total bytes. syntax_fault total bytes) g.0.0 total g.0.1) e g.2) [
        | inl k ↦
            subst (Fronts (Texts bounds no_items) (past_of bounds) total bytes) (sym (failed (fault.TooDeep (total - length bytes)) e k.1))
            (record { front = []; tail = bytes; placed = refl; there = refl; stands = (empty_there bounds no_items [] (any_name bounds no_items), past_deep bounds []) })
        | inr k ↦
            behind_name bounds no_items total bytes g.0 e g.1
            (elements_of_fronts bounds no_items (λ total bytes. syntax_fault total bytes) g.0.0 (λ _ _. ⊥) (λ y text no. absurd no) (λ (listed : is_list g.0.0 ≡ true). absurd (cc (listed, k.0))) total g.0.1 e k.1)
      ]
    ])

deeper_fronts : (bounds : Bounds) (depth : ℕ) → HasFronts (item_at bounds depth) (ReadsWithin bounds depth) (past_of bounds)
    → HasFronts (item_at bounds (suc depth)) (ReadsWithin bounds (suc depth)) (past_of bounds)
unfolding item_at
deeper_fronts bounds depth fronts total bytes e h =
    let Items : List Item → List ℕ → Type 0 = InTurn (AfterBlanks (ReadsWithin bounds depth)) in
    fronts_map (Texts bounds Items) (Leads (ReadsWithin bounds (suc depth))) (past_of bounds) (past_of bounds) total bytes e (rolled bounds Items) (λ l f past. past)
    (elim (bind_err (kind_at total bytes) (λ (k : Kind × List ℕ). elements_of bounds (item_at bounds depth) k.0 total k.1) e h) [
      | inl g ↦ plain_past (Texts bounds Items) (past_of bounds) total bytes e (kind_fronts bounds Items total bytes e g)
      | inr g ↦
          behind_name bounds Items total bytes g.0 e g.1
          (elements_of_fronts bounds Items (item_at bounds depth) g.0.0 (ToEnd (ReadsWithin bounds depth)) (λ y text t. t) (λ _.
          elements_fronts (item_at bounds depth) (ReadsWithin bounds depth) (past_of bounds) (past_of bounds) (item_form bounds depth) (λ l blanks f h some past. past_stays bounds l blanks f past) (past_stays bounds) fronts) total g.0.1 e g.2)
    ])

pub item_fronts : (bounds : Bounds) (depth : ℕ) → HasFronts (item_at bounds depth) (ReadsWithin bounds depth) (past_of bounds)
item_fronts bounds zero = leaf_fronts bounds
item_fronts bounds (suc depth) = deeper_fronts bounds depth (item_fronts bounds depth)

-- ---- a whole text

-- some text that is read within these bounds begins so
abbrev pub Starts : Bounds → ℕ → List ℕ → Type 0
Starts bounds depth front = (more : List ℕ) × (item : Item) × InBlanks (ReadsWithin bounds depth) (front ++ more) item

blanks_item : (bounds : Bounds) (depth : ℕ) (blanks f : List ℕ) → AreBlanks blanks → Leads (ReadsWithin bounds depth) f
    → Starts bounds depth (blanks ++ f)
blanks_item bounds depth blanks f h may =
    (may.0, may.1, record { before = blanks; inner = f ++ may.0; after = []; begins = h; reads = may.2; ends = tt; placed = append_assoc blanks f may.0 ∙ ap (λ (s : List ℕ). blanks ++ s) (sym (append-nil (f ++ may.0))) })

item_blanks : (bounds : Bounds) (depth : ℕ) (blanks f after : List ℕ) (i : Item) → AreBlanks blanks → ReadsWithin bounds depth i f → AreBlanks after
    → Starts bounds depth ((blanks ++ (f ++ after)) ++ [])
item_blanks bounds depth blanks f after i h reads ends =
    ([], i, record { before = blanks; inner = f; after = after; begins = h; reads = reads; ends = ends; placed = append-nil ((blanks ++ (f ++ after)) ++ []) ∙ append-nil (blanks ++ (f ++ after)) })

pub text_front : (bounds : Bounds) (depth : ℕ) (text : List ℕ) (e : TextFault) → read_within bounds depth text ≡ Err e
    → Fronts (Starts bounds depth) (past_of bounds) (length text) text e
unfolding read_within
text_front bounds depth text e h =
    let total = length text in
    let before = blanks_found text in
    elim (bind_err (item_at bounds depth total (after_blanks text)) (whole total) e h) [
      | inl g ↦
          fronts_behind (Leads (ReadsWithin bounds depth)) (Starts bounds depth) (past_of bounds) (past_of bounds) total before.0 text (after_blanks text) e before.2 (λ f may. blanks_item bounds depth before.0 f before.1 may) (λ l f past. past_stays bounds l before.0 f past)
          (item_fronts bounds depth total (after_blanks text) e g)
      | inr g ↦
          let x = (item_form bounds depth).takes total (after_blanks text) g.0 g.1 in
          let after = blanks_found g.0.1 in
          let pre = before.0 ++ (x.0 ++ after.0) in
          elim (chosen_err (eqb (length (after_blanks g.0.1)) 0) (Ok g.0.0) (syntax_fault total (after_blanks g.0.1)) e g.2) [
            | inl k ↦ absurd (fine g.0.0 e k.1)
            | inr k ↦
                fronts_behind (λ f. Starts bounds depth (pre ++ f)) (Starts bounds depth) none (past_of bounds) total pre text (after_blanks g.0.1) e (before.2 ∙ ap (λ (s : List ℕ). before.0 ++ s) (x.2 ∙ ap (λ (s : List ℕ). x.0 ++ s) after.2) ∙ grouped before.0 x.0 after.0 (after_blanks g.0.1)) (λ f may. may) (λ l f past. absurd past)
                (plain_here (λ f. Starts bounds depth (pre ++ f)) total (after_blanks g.0.1) e (failed (fault.Syntax (total - length (after_blanks g.0.1))) e k.1) (item_blanks bounds depth before.0 x.0 after.0 g.0.0 before.1 x.1 after.1))
          ]
    ]

pub kept_front : (text : List ℕ) (e : TextFault) → read_text text ≡ Err e → Fronts Begins (past_of Kept) (length text) text e
unfolding IsItemText
kept_front text e h = text_front Kept 64 text e h

-- ---- readers that answer by breaks of the form alone

pub hex_byte_breaks : (total : ℕ) (bytes : List ℕ) (e : TextFault) → hex_byte_at total bytes ≡ Err e → IsBreak e
hex_byte_breaks total bytes e h = only_syntax (Leads IsHexByte) total bytes e (hex_byte_fronts total bytes e h)

pub hex_bytes_breaks : (size total : ℕ) (bytes : List ℕ) (e : TextFault) → hex_bytes_at size total bytes ≡ Err e → IsBreak e
hex_bytes_breaks size total bytes e h = only_syntax (Leads (IsHexBytes size)) total bytes e (hex_bytes_fronts size total bytes e h)

pub text_breaks : (total : ℕ) (bytes : List ℕ) (e : TextFault) → text_at total bytes ≡ Err e → IsBreak e
text_breaks total bytes e h = only_syntax (Leads TextEnd) total bytes e (text_fronts total bytes e h)

pub kind_breaks : (total : ℕ) (bytes : List ℕ) (e : TextFault) → kind_at total bytes ≡ Err e → IsBreak e
kind_breaks total bytes e h = only_syntax (Texts Free (λ _ _. ⊥)) total bytes e (kind_fronts Free (λ _ _. ⊥) total bytes e h)
