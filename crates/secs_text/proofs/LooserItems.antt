-- The reader of free numbers goes on where the one of kept numbers passes a limit, and breaks where it breaks.
use Rattle.std.proofs.Common.{◌≡◌, ℕ, zero, suc, ◌-◌, ◌^◌, ◌<◌, ℤ, pos, Bool, true, false, cond, leb, ◌&&◌, ◌⊎◌, inl, inr, lit<, List, [], ◌∷◌, length, drop, Option, Some, None, Result, Ok, Err, refl, sym, ap, ◌∙◌, arith}
use Rattle.std.specs.Int.{Width, w8, w16, w32, w64}
use Rattle.std.specs.Option.{ok_or}
use Rattle.std.proofs.lemmas.Bool.{lt-ltb}
use Rattle.secs_items.specs.declared.item.Item.{Item}
use Rattle.secs_items.specs.declared.item.Item.TheVariants as item
use Rattle.secs_items.specs.declared.kind.Kind.{Kind}
use Rattle.secs_items.specs.declared.kind.Kind.TheVariants as kind
use Rattle.secs_items.specs.Kinds.{is_list}
use Rattle.secs_text.specs.declared.text_fault.TextFault.{TextFault}
use Rattle.secs_text.specs.declared.text_fault.TextFault.TheVariants as fault
use Rattle.secs_text.specs.Faults.{digit_first}
use Rattle.secs_text.specs.Grammar.{Kept, Free, IsHexByte, IsHexBytes, IsSigned, IsUnsigned, ReadsWithin}
use Rattle.secs_text.specs.Names.{name_of}
use Rattle.secs_text.specs.Reading.{◌>>=◌, Reader, as_signed, as_unsigned, begins, syntax_fault, digits_from, elements_at, elements_of, as_u64, hex_byte_at, hex_bytes_at, item_at, item_of, kind_at, magnitude_at, number_at, shallow_at, signed_of, text_at, unsigned_of, value_of, within_at}
use Rattle.secs_text.proofs.Blanks.{chosen}
use Rattle.secs_text.proofs.Elements.{IsForm, hex_byte_form, hex_bytes_form}
use Rattle.secs_text.proofs.FreeNumbers.{numeral}
use Rattle.secs_text.proofs.FrontItems.{hex_byte_breaks, hex_bytes_breaks, kind_breaks, text_breaks}
use Rattle.secs_text.proofs.Fronts.{IsBreak, chosen_err, failed, fine}
use Rattle.secs_text.proofs.Items.{item_form, signed_form_8, signed_form_16, signed_form_32, signed_form_64, unsigned_form_8, unsigned_form_16, unsigned_form_32, unsigned_form_64}
use Rattle.secs_text.proofs.KindNames.{kind_takes}
use Rattle.secs_text.proofs.LocalItems.{list_there, local_elements_of, local_item}
use Rattle.secs_text.proofs.LocalNumbers.{digits_stop, local_signed, local_unsigned}
use Rattle.secs_text.proofs.LocalRuns.{local_elements}
use Rattle.secs_text.proofs.LocalWords.{local_hex_byte, local_hex_bytes}
use Rattle.secs_text.proofs.Locality.{Local}
use Rattle.secs_text.proofs.Looser.{Frees, Looser, Moves, Taking, frees_after, frees_behind, frees_bind, frees_same, looser_each, moves, syntax_same}
use Rattle.secs_text.proofs.Numerals.{number_parts, signed_digits}

-- ---- numbers

magnitude_syntax : (negative : Bool) (total : ℕ) (bytes : List ℕ) (e : TextFault) → magnitude_at negative total bytes ≡ Err e → IsBreak e
unfolding magnitude_at
magnitude_syntax negative total [] e h = (total, failed (fault.Syntax total) e h)
magnitude_syntax negative total (b ∷ rest) e h =
    elim (chosen_err (leb 49 b && leb b 57) (Ok (value_of negative (as_u64 (digits_from (b - 48) rest).0), (digits_from (b - 48) rest).1)) (Err (fault.Syntax (total - suc (length rest)))) e h) [
      | inl g ↦ absurd (fine (value_of negative (as_u64 (digits_from (b - 48) rest).0), (digits_from (b - 48) rest).1) e g.1)
      | inr g ↦ (total - suc (length rest), failed (fault.Syntax (total - suc (length rest))) e g.1)
    ]

number_syntax : (total : ℕ) (bytes : List ℕ) (e : TextFault) → number_at total bytes ≡ Err e → IsBreak e
unfolding number_at
number_syntax total bytes e h =
    elim (chosen_err (begins 48 bytes) (Ok (Some (pos 0), drop 1 bytes)) (cond (begins 45 bytes) (magnitude_at true total (drop 1 bytes)) (magnitude_at false total bytes)) e h) [
      | inl g ↦ absurd (fine (Some (pos 0), drop 1 bytes) e g.1)
      | inr g ↦ elim (chosen_err (begins 45 bytes) (magnitude_at true total (drop 1 bytes)) (magnitude_at false total bytes) e g.1) [
        | inl k ↦ magnitude_syntax true total (drop 1 bytes) e k.1
        | inr k ↦ magnitude_syntax false total bytes e k.1
      ]
    ]

magnitude_left : (negative : Bool) (total : ℕ) (bytes : List ℕ) (x : Option ℤ × List ℕ) → magnitude_at negative total bytes ≡ Ok x
    → digit_first x.1 ≡ false
unfolding magnitude_at
magnitude_left negative total [] x h = absurd cc
magnitude_left negative total (b ∷ rest) x h =
    elim (chosen (leb 49 b && leb b 57) (Ok (value_of negative (as_u64 (digits_from (b - 48) rest).0), (digits_from (b - 48) rest).1)) (Err (fault.Syntax (total - suc (length rest)))) x h) [
      | inl g ↦
          let made : ◌≡◌ {A = Option ℤ × List ℕ} (value_of negative (as_u64 (digits_from (b - 48) rest).0), (digits_from (b - 48) rest).1) x =
          cc (g.1) in
          ap (λ p. digit_first p.1) (sym made) ∙ digits_stop (b - 48) rest
      | inr g ↦ absurd (cc (g.1))
    ]

-- behind a number other than 0 no digit is left
number_left : (total : ℕ) (bytes : List ℕ) (x : Option ℤ × List ℕ) → number_at total bytes ≡ Ok x → (x.0 ≡ Some (pos 0)) ⊎ (digit_first x.1 ≡ false)
unfolding number_at
number_left total bytes x h =
    elim (chosen (begins 48 bytes) (Ok (Some (pos 0), drop 1 bytes)) (cond (begins 45 bytes) (magnitude_at true total (drop 1 bytes)) (magnitude_at false total bytes)) x h) [
      | inl g ↦ let made : ◌≡◌ {A = Option ℤ × List ℕ} (Some (pos 0), drop 1 bytes) x = cc (g.1) in inl (sym (ap (λ p. p.0) made))
      | inr g ↦ elim (chosen (begins 45 bytes) (magnitude_at true total (drop 1 bytes)) (magnitude_at false total bytes) x g.1) [
        | inl k ↦ inr (magnitude_left true total (drop 1 bytes) x k.1)
        | inr k ↦ inr (magnitude_left false total bytes x k.1)
      ]
    ]

-- 0 is of every kind
abbrev HasZero : {T : Type 0} → (Option ℤ → Option T) → Type 0
HasZero {T} fits = (v : T) × (fits (Some (pos 0)) ≡ Some v)

none_zero : {T : Type 0} (fits : Option ℤ → Option T) (o : Option ℤ) → HasZero fits → fits o ≡ None → o ≡ Some (pos 0) → ⊥
none_zero {T} fits o has none e = let both : ◌≡◌ {A = Option T} (Some has.0) None = sym has.1 ∙ ap fits (sym e) ∙ none in absurd cc

by_fit : {T : Type 0} (fits : Option ℤ → Option T) (zeros : T) (total : ℕ) (bytes : List ℕ) (n : Option ℤ × List ℕ) (o : Option T) → HasZero fits
    → number_at total bytes ≡ Ok n → fits n.0 ≡ o
    → Frees {T = T} total bytes (ok_or o (fault.Range (total - length bytes)) >>= λ value. Ok (value, n.1)) (Ok (zeros, n.1))
by_fit fits zeros total bytes n (Some v) has h fit = (zeros, refl)
by_fit fits zeros total bytes n None has h fit =
    elim (number_parts total bytes n h) [
      | inl z ↦ absurd (none_zero fits n.0 has fit z.0)
      | inr d ↦ elim (number_left total bytes n h) [
        | inl z ↦ absurd (none_zero fits n.0 has fit z)
        | inr stops ↦ ([], signed_digits d.0 d.1, n.1, d.3, ap (λ (s : List ℕ). total - length s) d.3, numeral d.0 d.1 d.2, stops, omega arith)
      ]
    ]

looser_number : {T : Type 0} (fits : Option ℤ → Option T) (zeros : T) → HasZero fits → Looser (within_at fits) (within_at (λ n. Some zeros))
looser_number {T} fits zeros has total bytes = of (number_at total bytes) refl where
  of : (n : Result (Option ℤ × List ℕ) TextFault) → number_at total bytes ≡ n
      → Frees {T = T} total bytes (n >>= λ n. ok_or (fits n.0) (fault.Range (total - length bytes)) >>= λ value. Ok (value, n.1)) (n >>= λ n. Ok (zeros, n.1))
  of (Err e) h = syntax_same T total bytes e (number_syntax total bytes e h)
  of (Ok n) h = by_fit fits zeros total bytes n (fits n.0) has h refl

-- ---- behind a name

takes_front : {T : Type 0} (one : Reader T) (Is : T → List ℕ → Type 0) → IsForm one Is → Taking one
takes_front one Is form total bytes x e = let f = form.takes total bytes x e in (f.0, f.2)

run_looser : {T : Type 0} (make : T → Item) (kept free : Reader T) → Looser kept free
    → Looser (λ total bytes. item_of make (kept total bytes)) (λ total bytes. item_of make (free total bytes))
run_looser {T} make kept free loose total bytes = made (kept total bytes) (free total bytes) (loose total bytes) where
  made : (m m' : Result (T × List ℕ) TextFault) → Frees total bytes m m' → Frees total bytes (item_of make m) (item_of make m')
  made m m' f = frees_bind total bytes m m' (λ x. Ok (make x.0, x.1)) (λ x. Ok (make x.0, x.1)) f (λ x y _. (make y, refl)) (λ y. omega arith)

elements_looser : {T : Type 0} (make : List T → Item) (kept free : Reader T) → Taking kept → Looser kept free → Local free
    → Looser (λ total bytes. item_of make (elements_at kept total bytes)) (λ total bytes. item_of make (elements_at free total bytes))
elements_looser make kept free takes loose local =
    run_looser make (elements_at kept) (elements_at free)
    (λ total bytes. looser_each kept free takes loose (moves free local) (length bytes) total bytes)

-- the same reader, which knows no limits
plain_looser : {T : Type 0} (make : List T → Item) (one : Reader T) (Is : T → List ℕ → Type 0) → IsForm one Is
    → ((total : ℕ) (bytes : List ℕ) (e : TextFault) → one total bytes ≡ Err e → IsBreak e) → Local one
    → Looser (λ total bytes. item_of make (elements_at one total bytes)) (λ total bytes. item_of make (elements_at one total bytes))
plain_looser make one Is form breaks local =
    elements_looser make one one (takes_front one Is form) (λ total bytes. frees_same total bytes (one total bytes) (breaks total bytes)) local

hex_looser : (make : List ℕ → Item)
    → Looser (λ total bytes. item_of make (elements_at hex_byte_at total bytes)) (λ total bytes. item_of make (elements_at hex_byte_at total bytes))
hex_looser make = plain_looser make hex_byte_at IsHexByte hex_byte_form hex_byte_breaks local_hex_byte

floats_looser : (size : ℕ) (make : List (List ℕ) → Item) → 0 < size
    → Looser (λ total bytes. item_of make (elements_at (hex_bytes_at size) total bytes)) (λ total bytes. item_of make (elements_at (hex_bytes_at size) total bytes))
floats_looser size make some =
    plain_looser make (hex_bytes_at size) (IsHexBytes size) (hex_bytes_form size some) (hex_bytes_breaks size) (local_hex_bytes size)

signed_looser : (bits : ℕ) (w : Width) (make : List ℤ → Item) → 0 < 2 ^ (bits - 1) → IsForm (signed_of Kept bits) (IsSigned Kept w)
    → Looser (λ total bytes. item_of make (elements_at (signed_of Kept bits) total bytes)) (λ total bytes. item_of make (elements_at (signed_of Free bits) total bytes))
signed_looser bits w make some form =
    elements_looser make (signed_of Kept bits) (signed_of Free bits) (takes_front (signed_of Kept bits) (IsSigned Kept w) form) (looser_number (as_signed (2 ^ (bits - 1))) (pos 0) (pos 0, rw (lt-ltb 0 (2 ^ (bits - 1)) some) refl)) (local_signed Free bits some)

unsigned_looser : (bits : ℕ) (make : List ℕ → Item) → 0 < 2 ^ bits → IsForm (unsigned_of Kept bits) (IsUnsigned Kept (2 ^ bits))
    → Looser (λ total bytes. item_of make (elements_at (unsigned_of Kept bits) total bytes)) (λ total bytes. item_of make (elements_at (unsigned_of Free bits) total bytes))
unsigned_looser bits make some form =
    elements_looser make (unsigned_of Kept bits) (unsigned_of Free bits) (takes_front (unsigned_of Kept bits) (IsUnsigned Kept (2 ^ bits)) form) (looser_number (as_unsigned (2 ^ bits)) 0 (0, rw (lt-ltb 0 (2 ^ bits) some) refl)) (local_unsigned Free bits some)

looser_elements_of : (one free : Reader Item) (k : Kind) → (is_list k ≡ true → Looser (elements_at one) (elements_at free))
    → Looser (elements_of Kept one k) (elements_of Free free k)
unfolding elements_of
looser_elements_of one free kind.L lists = run_looser item.L (elements_at one) (elements_at free) (lists refl)
looser_elements_of one free kind.B lists = hex_looser item.B
looser_elements_of one free kind.Bool lists = hex_looser item.Bool
looser_elements_of one free kind.A lists =
    run_looser item.A text_at text_at (λ total bytes. frees_same total bytes (text_at total bytes) (text_breaks total bytes))
looser_elements_of one free kind.J lists = hex_looser item.J
looser_elements_of one free kind.I1 lists = signed_looser 8 w8 item.I1 (lit< tt) (signed_form_8 Kept)
looser_elements_of one free kind.I2 lists = signed_looser 16 w16 item.I2 (lit< tt) (signed_form_16 Kept)
looser_elements_of one free kind.I4 lists = signed_looser 32 w32 item.I4 (lit< tt) (signed_form_32 Kept)
looser_elements_of one free kind.I8 lists = signed_looser 64 w64 item.I8 (lit< tt) (signed_form_64 Kept)
looser_elements_of one free kind.U1 lists = unsigned_looser 8 item.U1 (lit< tt) (unsigned_form_8 Kept)
looser_elements_of one free kind.U2 lists = unsigned_looser 16 item.U2 (lit< tt) (unsigned_form_16 Kept)
looser_elements_of one free kind.U4 lists = unsigned_looser 32 item.U4 (lit< tt) (unsigned_form_32 Kept)
looser_elements_of one free kind.U8 lists = unsigned_looser 64 item.U8 (lit< tt) (unsigned_form_64 Kept)
looser_elements_of one free kind.F4 lists = floats_looser 4 item.F4 (lit< tt)
looser_elements_of one free kind.F8 lists = floats_looser 8 item.F8 (lit< tt)

-- ---- items

-- where a list stands too deep the free reader reads it
deep_freed : (total : ℕ) (bytes : List ℕ) (k : Kind × List ℕ) (free : Reader Item) → Moves free → bytes ≡ 60 ∷ 76 ∷ k.1
    → Frees {T = Item} total bytes (Err (fault.TooDeep (total - length bytes))) (free total k.1)
deep_freed total bytes k free moves split = ([], k.1, split, ap (λ (s : List ℕ). total - length s) split, moves total k.1)

shallow_freed : (total : ℕ) (bytes : List ℕ) (k : Kind × List ℕ) (free : Reader Item) (b : Bool) → is_list k.0 ≡ b → kind_at total bytes ≡ Ok k
    → Moves (elements_of Free free k.0)
    → Frees {T = Item} total bytes (cond b (Err (fault.TooDeep (total - length bytes))) (elements_of Kept (λ total bytes. syntax_fault total bytes) k.0 total k.1)) (elements_of Free free k.0 total k.1)
shallow_freed total bytes k free true listed e moves = deep_freed total bytes k (elements_of Free free k.0) moves (list_there total bytes k e listed)
shallow_freed total bytes k free false leaf e moves =
    frees_behind total (60 ∷ name_of k.0) bytes k.1 _ _ (kind_takes total bytes k e) (looser_elements_of (λ total bytes. syntax_fault total bytes) free k.0 (λ (listed : is_list k.0 ≡ true). absurd (cc (listed, leaf))) total k.1)

-- the lists in a free item
free_lists : (depth : ℕ) → Local (elements_at (item_at Free depth))
free_lists depth = local_elements (item_at Free depth) (ReadsWithin Free depth) (item_form Free depth) (local_item Free depth)

moves_behind : (depth : ℕ) (k : Kind) → Moves (elements_of Free (item_at Free depth) k)
moves_behind depth k = moves (elements_of Free (item_at Free depth) k) (local_elements_of Free (item_at Free depth) k (λ _. free_lists depth))

-- more lists than these
abbrev pub deeper : ℕ → ℕ → ℕ
deeper zero more = suc more
deeper (suc depth) more = suc (deeper depth more)

-- an item, where free lists may nest deeper
pub looser_item : (depth more : ℕ) → Looser (item_at Kept depth) (item_at Free (deeper depth more))
unfolding item_at
looser_item zero more total bytes =
    frees_after total bytes (kind_at total bytes) (shallow_at Kept total bytes) (λ (k : Kind × List ℕ). elements_of Free (item_at Free more) k.0 total k.1) (kind_breaks total bytes) (λ k e.
    shallow_freed total bytes k (item_at Free more) (is_list k.0) refl e (moves_behind more k.0))
looser_item (suc depth) more total bytes =
    frees_after total bytes (kind_at total bytes) (λ (k : Kind × List ℕ). elements_of Kept (item_at Kept depth) k.0 total k.1) (λ (k : Kind × List ℕ). elements_of Free (item_at Free (deeper depth more)) k.0 total k.1) (kind_breaks total bytes) (λ k e.
    frees_behind total (60 ∷ name_of k.0) bytes k.1 _ _ (kind_takes total bytes k e)
    (looser_elements_of (item_at Kept depth) (item_at Free (deeper depth more)) k.0 (λ _ total bytes.
    looser_each (item_at Kept depth) (item_at Free (deeper depth more)) (takes_front (item_at Kept depth) (ReadsWithin Kept depth) (item_form Kept depth)) (looser_item depth more) (moves (item_at Free (deeper depth more)) (local_item Free (deeper depth more))) (length bytes) total bytes) total k.1))
