-- A text has one fault at most.
use Rattle.std.proofs.Common.{◌≡◌, ℕ, ◌+◌, ◌<◌, ◌≤◌, true, false, leb, ◌⊎◌, inl, inr, List, [], ◌∷◌, ◌++◌, length, take, drop, refl, sym, ap, subst, ◌∙◌, append_assoc, length-append, arith}
use Rattle.std.specs.Char.{is_ascii_digit}
use Rattle.std.specs.Str.{all_ascii_digits}
use Rattle.std.proofs.lemmas.Bool.{and_parts, cases_lt, cases_order, leb-true}
use Rattle.std.proofs.lemmas.List.{append_cancel_left, length-drop, length-take-le, take-append-drop}
use Rattle.secs_text.specs.declared.text_fault.TextFault.{TextFault}
use Rattle.secs_text.specs.declared.text_fault.TextFault.TheVariants as fault
use Rattle.secs_text.specs.Faults.{Begins, BreaksAt, BeginsForm, HasFault, IsOutsideAt, IsTooDeepAt, digit_first}
use Rattle.secs_text.specs.Grammar.{ArePositive, IsFormed, IsNumeral, ReadsAs, positive_first}
use Rattle.secs_text.specs.Names.{is_blank}
use Rattle.secs_text.proofs.Elements.{blank_low}

-- ---- fronts

-- of two fronts of a text the longer goes on from the shorter
pub longer_front : (seen tail front rest : List ℕ) → seen ++ tail ≡ front ++ rest → length seen ≤ length front
    → (mid : List ℕ) × (front ≡ seen ++ mid)
longer_front [] tail front rest same le = (front, refl)
longer_front (b ∷ seen) tail [] rest same le = absurd (omega (arith, le))
longer_front (b ∷ seen) tail (c ∷ front) rest same le =
    let heads : c ≡ b = sym (cc (same)) in
    let more = longer_front seen tail front rest (ap (drop 1) same) (omega (arith, le)) in
    (more.0, ap (λ (s : List ℕ). c ∷ s) more.1 ∙ ap (λ (d : ℕ). d ∷ (seen ++ more.0)) heads)

pub begins_front : (front more : List ℕ) → Begins (front ++ more) → Begins front
begins_front front more b = (more ++ b.0, b.1, subst (λ (s : List ℕ). ReadsAs s b.1) (append_assoc front more b.0) b.2)

pub forms_front : (front more : List ℕ) → BeginsForm (front ++ more) → BeginsForm front
forms_front front more f = (more ++ f.0, subst IsFormed (append_assoc front more f.0) f.1)

-- what begins a text that goes on from here begins it here
pub begins_shorter : (seen tail front rest : List ℕ) → seen ++ tail ≡ front ++ rest → length seen ≤ length front → Begins front → Begins seen
begins_shorter seen tail front rest same le b = let m = longer_front seen tail front rest same le in begins_front seen m.0 (subst Begins m.1 b)

pub forms_shorter : (seen tail front rest : List ℕ) → seen ++ tail ≡ front ++ rest → length seen ≤ length front → BeginsForm front → BeginsForm seen
forms_shorter seen tail front rest same le f = let m = longer_front seen tail front rest same le in forms_front seen m.0 (subst BeginsForm m.1 f)

pub parts_at : (at : ℕ) (text : List ℕ) → take at text ++ drop at text ≡ text
parts_at at text = take-append-drop at text

-- ---- numerals

digit_in : (before : List ℕ) (c : ℕ) (after : List ℕ) → all_ascii_digits (before ++ c ∷ after) ≡ true → is_ascii_digit c ≡ true
digit_in [] c after h = (and_parts (is_ascii_digit c) (all_ascii_digits after) h).0
digit_in (b ∷ before) c after h = digit_in before c after (and_parts (is_ascii_digit b) (all_ascii_digits (before ++ c ∷ after)) h).1

behind_sign : (before : List ℕ) (c : ℕ) (after digits : List ℕ) → before ++ c ∷ after ≡ 45 ∷ digits → all_ascii_digits digits ≡ true
    → (c ≡ 45) ⊎ (is_ascii_digit c ≡ true)
behind_sign [] c after digits same h = inl (cc (same))
behind_sign (b ∷ before) c after digits same h = inr (digit_in before c after (ap all_ascii_digits (ap (drop 1) same) ∙ h))

-- a byte of a numeral is its minus or a digit
pub numeral_byte : (number before : List ℕ) (c : ℕ) (after : List ℕ) → number ≡ before ++ c ∷ after → IsNumeral number
    → (c ≡ 45) ⊎ (is_ascii_digit c ≡ true)
numeral_byte number before c after same (inl p) = inr (digit_in before c after (ap all_ascii_digits (sym same) ∙ p.1))
numeral_byte number before c after same (inr n) = behind_sign before c after n.0 (sym same ∙ n.1) n.2.1

digit_low : (c : ℕ) → is_ascii_digit c ≡ true → (48 ≤ c) × (c ≤ 57)
digit_low c h = let p = and_parts (leb 48 c) (leb c 57) h in (leb-true 48 c p.0, leb-true c 57 p.1)

no_blank : (c : ℕ) → (c ≡ 45) ⊎ (is_ascii_digit c ≡ true) → is_blank c ≡ true → ⊥
no_blank c (inl e) blank = let b : is_blank 45 ≡ true = ap is_blank (sym e) ∙ blank in cc (b)
no_blank c (inr d) blank = omega (arith, (digit_low c d).0, blank_low c blank)

no_letter : (c : ℕ) → (c ≡ 45) ⊎ (is_ascii_digit c ≡ true) → c ≡ 76 → ⊥
no_letter c (inl e) letter = omega (arith, e, letter)
no_letter c (inr d) letter = omega (arith, (digit_low c d).1, letter)

numeral_some : (number : List ℕ) → IsNumeral number → (b : ℕ) × (more : List ℕ) × (number ≡ b ∷ more)
numeral_some [] (inl p) = absurd (cc (p.0))
numeral_some [] (inr n) = absurd (cc (n.1))
numeral_some (b ∷ more) n = (b, more, refl)

no_minus_last : (lead : List ℕ) → IsNumeral (lead ++ 45 ∷ []) → ⊥
no_minus_last lead (inl p) = let d : is_ascii_digit 45 ≡ true = digit_in lead 45 [] p.1 in cc (d)
no_minus_last [] (inr n) = let p : positive_first [] ≡ true = ap positive_first (ap (drop 1) n.1) ∙ n.2.0 in cc (p)
no_minus_last (b ∷ lead) (inr n) = let d : is_ascii_digit 45 ≡ true = digit_in lead 45 [] (ap all_ascii_digits (ap (drop 1) n.1) ∙ n.2.1) in cc (d)

-- a numeral ends in a digit
pub numeral_ends : (front number : List ℕ) → IsNumeral number → (stem : List ℕ) → front ++ number ≡ stem ++ 45 ∷ [] → ⊥
numeral_ends front number is stem same =
    let some = numeral_some number is in
    let le : length front ≤ length stem = omega (arith, ap length same, length-append front number, length-append stem (45 ∷ []), ap length some.2) in
    let m = longer_front front number stem (45 ∷ []) same le in
    let ends : number ≡ m.0 ++ 45 ∷ [] =
    append_cancel_left front number (m.0 ++ 45 ∷ []) (same ∙ ap (λ (s : List ℕ). s ++ 45 ∷ []) m.1 ∙ append_assoc front m.0 (45 ∷ [])) in
    no_minus_last m.0 (subst IsNumeral ends is)

digits_once : (first second rest other : List ℕ) → all_ascii_digits first ≡ true → all_ascii_digits second ≡ true → digit_first rest ≡ false
    → digit_first other ≡ false → first ++ rest ≡ second ++ other → first ≡ second
digits_once [] [] rest other a b stops ends same = refl
digits_once [] (d ∷ ds) rest other a b stops ends same = let t : false ≡ true = sym stops ∙ ap digit_first same ∙ (and_parts (is_ascii_digit d) (all_ascii_digits ds) b).0 in absurd (cc (t))
digits_once (d ∷ ds) [] rest other a b stops ends same = let t : false ≡ true = sym ends ∙ ap digit_first (sym same) ∙ (and_parts (is_ascii_digit d) (all_ascii_digits ds) a).0 in absurd (cc (t))
digits_once (d ∷ ds) (c ∷ cs) rest other a b stops ends same =
    let heads : d ≡ c = cc (same) in
    let tails =
    digits_once ds cs rest other (and_parts (is_ascii_digit d) (all_ascii_digits ds) a).1
    (and_parts (is_ascii_digit c) (all_ascii_digits cs) b).1 stops ends (ap (drop 1) same) in
    ap (λ (s : List ℕ). d ∷ s) tails ∙ ap (λ (b : ℕ). b ∷ cs) heads

no_sign : (digits rest behind : List ℕ) → ArePositive digits → digits ++ rest ≡ 45 ∷ behind → ⊥
no_sign [] rest behind p same = cc (p.0)
no_sign (b ∷ digits) rest behind p same = let low : 49 ≤ b = leb-true 49 b (and_parts (leb 49 b) (leb b 57) p.0).0 in let sign : b ≡ 45 = cc (same) in omega (arith, low, sign)

-- one numeral stands at a place, to its last digit
pub numeral_once : (first second rest other : List ℕ) → IsNumeral first → IsNumeral second → digit_first rest ≡ false → digit_first other ≡ false
    → first ++ rest ≡ second ++ other → first ≡ second
numeral_once first second rest other (inl p) (inl q) stops ends same = digits_once first second rest other p.1 q.1 stops ends same
numeral_once first second rest other (inl p) (inr n) stops ends same =
    absurd (no_sign first rest (n.0 ++ other) p (same ∙ ap (λ (s : List ℕ). s ++ other) n.1))
numeral_once first second rest other (inr m) (inl q) stops ends same =
    absurd (no_sign second other (m.0 ++ rest) q (sym same ∙ ap (λ (s : List ℕ). s ++ rest) m.1))
numeral_once first second rest other (inr m) (inr n) stops ends same =
    let tails =
    digits_once m.0 n.0 rest other m.2.1 n.2.1 stops ends
    (ap (drop 1) (ap (λ (s : List ℕ). s ++ rest) (sym m.1) ∙ same ∙ ap (λ (s : List ℕ). s ++ other) n.1)) in
    m.1 ∙ ap (λ (s : List ℕ). 45 ∷ s) tails ∙ sym n.1

-- ---- limits

-- text that goes up to a number's end
pub number_end : (at : ℕ) (text : List ℕ) (o : IsOutsideAt at text) → (take at text ++ o.number) ++ o.rest ≡ text
number_end at text o = append_assoc (take at text) o.number o.rest ∙ ap (λ (s : List ℕ). take at text ++ s) (sym o.stands) ∙ parts_at at text

pub list_end : (at : ℕ) (text : List ℕ) (d : IsTooDeepAt at text) → (take at text ++ 60 ∷ 76 ∷ []) ++ d.rest ≡ text
list_end at text d = append_assoc (take at text) (60 ∷ 76 ∷ []) d.rest ∙ ap (λ (s : List ℕ). take at text ++ s) (sym d.stands) ∙ parts_at at text

length_at : {T : Type 0} (at : ℕ) (text : List T) (b : T) (rest : List T) → drop at text ≡ b ∷ rest → length (take at text) ≡ at
length_at at text b rest split = length-take-le at text (omega (arith, ap length split, length-drop at text))

long_before : (at : ℕ) (text : List ℕ) → IsOutsideAt at text → length (take at text) ≡ at
long_before at text o =
    let s = numeral_some o.number o.numeral in
    length_at at text s.0 (s.1 ++ o.rest) (o.stands ∙ ap (λ (n : List ℕ). n ++ o.rest) s.2)

-- what stands before a later place holds a byte of the number
inside : (first before number mid : List ℕ) (c : ℕ) → length first ≤ length before → (tail : List ℕ) → (first ++ number) ++ tail ≡ before ++ c ∷ mid
    → length before < length (first ++ number)
    → (lead : List ℕ) × (after : List ℕ) × (number ≡ lead ++ c ∷ after)
inside first before number mid c le tail same lt =
    let grouped : first ++ (number ++ tail) ≡ before ++ c ∷ mid = sym (append_assoc first number tail) ∙ same in
    let lead = longer_front first (number ++ tail) before (c ∷ mid) grouped le in
    let closed : (before ++ c ∷ []) ++ mid ≡ (first ++ number) ++ tail = append_assoc before (c ∷ []) mid ∙ sym same in
    let long : length (before ++ c ∷ []) ≤ length (first ++ number) = omega (arith, length-append before (c ∷ []), lt) in
    let after = longer_front (before ++ c ∷ []) mid (first ++ number) tail closed long in
    let all : first ++ number ≡ first ++ (lead.0 ++ c ∷ after.0) =
    after.1 ∙ append_assoc before (c ∷ []) after.0 ∙ ap (λ (s : List ℕ). s ++ c ∷ after.0) lead.1 ∙ append_assoc first lead.0 (c ∷ after.0) in
    (lead.0, after.0, append_cancel_left first number (lead.0 ++ c ∷ after.0) all)

-- ---- one place

outside_later : (at later : ℕ) (text : List ℕ) → IsOutsideAt at text → IsOutsideAt later text → at < later → ⊥
outside_later at later text o p less =
    let ends = number_end at text o in
    let parts = parts_at later text in
    let long = long_before at text o in
    let far = long_before later text p in
    elim (cases_lt (length (take later text)) (length (take at text ++ o.number))) [
      | inr le ↦ o.outside (begins_shorter (take at text ++ o.number) o.rest (take later text) (drop later text) (ends ∙ sym parts) le p.front)
      | inl lt ↦
          let b = p.parted in
          let split : (take at text ++ o.number) ++ o.rest ≡ b.0 ++ b.1 ∷ drop later text =
          ends ∙ sym parts ∙ ap (λ (s : List ℕ). s ++ drop later text) b.2 ∙ append_assoc b.0 (b.1 ∷ []) (drop later text) in
          let size : length (take later text) ≡ length b.0 + 1 = ap length b.2 ∙ length-append b.0 (b.1 ∷ []) in
          let i =
          inside (take at text) b.0 o.number (drop later text) b.1 (omega (arith, long, far, size, less)) o.rest split (omega (arith, size, lt)) in
          no_blank b.1 (numeral_byte o.number i.0 b.1 i.1 i.2 o.numeral) b.3
    ]

opened : (front rest : List ℕ) → (front ++ 60 ∷ 76 ∷ []) ++ rest ≡ (front ++ 60 ∷ []) ++ 76 ∷ rest
opened front rest = append_assoc front (60 ∷ 76 ∷ []) rest ∙ sym (append_assoc front (60 ∷ []) (76 ∷ rest))

list_front : (at : ℕ) (text : List ℕ) (d : IsTooDeepAt at text) → (take at text ++ 60 ∷ []) ++ 76 ∷ d.rest ≡ text
list_front at text d = sym (opened (take at text) d.rest) ∙ list_end at text d

deep_later : (at later : ℕ) (text : List ℕ) → IsTooDeepAt at text → IsTooDeepAt later text → at < later → ⊥
deep_later at later text d p less =
    let long = length_at at text 60 (76 ∷ d.rest) d.stands in
    let far = length_at later text 60 (76 ∷ p.rest) p.stands in
    d.deep (begins_shorter (take at text ++ 60 ∷ 76 ∷ []) d.rest (take later text ++ 60 ∷ []) (76 ∷ p.rest) (list_end at text d ∙ sym (list_front later text p))
    (omega (arith, long, far, length-append (take at text) (60 ∷ 76 ∷ []), length-append (take later text) (60 ∷ []), less)) p.front)

crossed : (at place : ℕ) (text : List ℕ) → IsOutsideAt at text → IsTooDeepAt place text → ⊥
crossed at place text o d =
    let number = take at text ++ o.number in
    let front = take place text ++ 60 ∷ [] in
    let bytes = take place text ++ 60 ∷ 76 ∷ [] in
    let size : length bytes ≡ length front + 1 =
    length-append (take place text) (60 ∷ 76 ∷ []) ∙ omega (arith, length-append (take place text) (60 ∷ [])) in
    elim (cases_lt (length (take at text)) (length bytes)) [
      | inr le ↦ d.deep (begins_shorter bytes d.rest (take at text) (drop at text) (list_end place text d ∙ sym (parts_at at text)) le o.front)
      | inl before ↦ elim (cases_lt (length front) (length number)) [
        | inr le ↦ o.outside (begins_shorter number o.rest front (76 ∷ d.rest) (number_end at text o ∙ sym (list_front place text d)) le d.front)
        | inl lt ↦
            let i =
            inside (take at text) front o.number d.rest 76 (omega (arith, before, size)) o.rest
            (number_end at text o ∙ sym (list_front place text d)) lt in
            no_letter 76 (numeral_byte o.number i.0 76 i.1 i.2 o.numeral) refl
      ]
    ]

breaks_later : (at later : ℕ) (text : List ℕ) → BreaksAt at text → BreaksAt later text → at < later → ⊥
breaks_later at later text b p less =
    let within : at < length text = omega (arith, less, p.within) in
    let long : length (take (at + 1) text) ≡ at + 1 = length-take-le (at + 1) text (omega (arith, within)) in
    let far : length (take later text) ≡ later = length-take-le later text p.within in
    b.byte within (forms_shorter (take (at + 1) text) (drop (at + 1) text) (take later text) (drop later text) (parts_at (at + 1) text ∙ sym (parts_at later text)) (omega (arith, long, far, less)) p.front)

one_place : (Is : ℕ → Type 0) → ((at later : ℕ) → Is at → Is later → at < later → ⊥) → (at place : ℕ) → Is at → Is place → at ≡ place
one_place Is later at place a b =
    elim (cases_order at place) [
      | inl same ↦ same
      | inr (inl less) ↦ absurd (later at place a b less)
      | inr (inr more) ↦ absurd (later place at b a more)
    ]

pub one_fault : (text : List ℕ) (a b : TextFault) → HasFault text a → HasFault text b → a ≡ b
one_fault text (fault.Syntax at) (fault.Syntax place) a b =
    ap (λ (n : ℕ). fault.Syntax n) (one_place (λ n. BreaksAt n text) (λ at later. breaks_later at later text) at place a.breaks b.breaks)
one_fault text (fault.Range at) (fault.Range place) a b =
    ap (λ (n : ℕ). fault.Range n) (one_place (λ n. IsOutsideAt n text) (λ at later. outside_later at later text) at place a b)
one_fault text (fault.TooDeep at) (fault.TooDeep place) a b =
    ap (λ (n : ℕ). fault.TooDeep n) (one_place (λ n. IsTooDeepAt n text) (λ at later. deep_later at later text) at place a b)
one_fault text (fault.Syntax at) (fault.Range place) a b = absurd (a.numbers place b)
one_fault text (fault.Syntax at) (fault.TooDeep place) a b = absurd (a.lists place b)
one_fault text (fault.Range at) (fault.Syntax place) a b = absurd (b.numbers at a)
one_fault text (fault.Range at) (fault.TooDeep place) a b = absurd (crossed at place text a b)
one_fault text (fault.TooDeep at) (fault.Syntax place) a b = absurd (b.lists at a)
one_fault text (fault.TooDeep at) (fault.Range place) a b = absurd (crossed place at text b a)
one_fault text fault.NoMemory b a c = absurd a
one_fault text a fault.NoMemory b c = absurd c
