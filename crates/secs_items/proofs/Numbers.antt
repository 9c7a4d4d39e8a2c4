-- Elements and their bytes, each from the other: one lemma over the width.
use Rattle.std.proofs.Common.{◌≡◌, ℕ, zero, suc, ◌+◌, ◌*◌, ◌^◌, ◌<◌, List, [], ◌∷◌, length, take, drop, get_or, refl, sym, ap, ◌∙◌, length-append, length-take, length-drop, get_or-drop, get_or-take, arith, inl, inr}
use Rattle.std.specs.Prelude.{FitsSigned}
use Rattle.std.specs.Int.{Width, w8, w16, w32, w64, cast_signed, cast_unsigned, from_be_bytes, to_be_bytes}
use Rattle.std.specs.List.{flat_map, AllByRecursion}
use mir.Val.{bits}
use Rattle.std.proofs.Math.Facts.{Fits-of_z, sfits_to_z}
use Rattle.std.proofs.lemmas.Bool.{cases_lt}
use Rattle.std.proofs.lemmas.Int.{of_z-to_z, to_z-of_z}
use Rattle.std.proofs.lemmas.List.{take_at, drop_at, take-append-drop, get_or_past, nil_from_length}
use Rattle.std.proofs.lemmas.Nat.{be_bytes_2, be_bytes_4, be_bytes_8, from_be_bytes-to_be_bytes_2, from_be_bytes-to_be_bytes_4, from_be_bytes-to_be_bytes_8}
use Rattle.secs_items.specs.Elements.{IsByte, IsRaw, elements_at, signed_at, signed_bytes}

abbrev pub IsBytes : List ℕ → Type 0
IsBytes bytes = (i : ℕ) → get_or bytes i 0 < 256

pub IsBytes-drop : (n : ℕ) (bytes : List ℕ) → IsBytes bytes → IsBytes (drop n bytes)
IsBytes-drop n bytes h i = rw get_or-drop (h (n + i))

pub IsBytes-take : (n : ℕ) (bytes : List ℕ) → IsBytes bytes → IsBytes (take n bytes)
IsBytes-take n bytes h i =
    elim (cases_lt i n) [
      | inl lt ↦ rw (get_or-take n bytes i 0 lt) (h i)
      | inr le ↦ rw (get_or_past (take n bytes) i 0 (omega (arith, length-take n bytes))) (omega arith)
    ]

pub IsBytes-rest : (b : ℕ) (bytes : List ℕ) → IsBytes (b ∷ bytes) → IsBytes bytes
IsBytes-rest b bytes h i = h (suc i)

pub each_byte : (bytes : List ℕ) → IsBytes bytes → AllByRecursion IsByte bytes
each_byte [] h = tt
each_byte (b ∷ bytes) h = (h 0, each_byte bytes (IsBytes-rest b bytes h))

pub bytes_fit : (bytes : List ℕ) → AllByRecursion IsByte bytes → IsBytes bytes
bytes_fit [] each i = omega arith
bytes_fit (b ∷ bytes) each zero = each.0
bytes_fit (b ∷ bytes) each (suc i) = bytes_fit bytes each.1 i

-- elements of one size that are read from their bytes, and from which those bytes are read again
pub record IsForm {T : Type 0} (Fits : T → Type 0) (put : T → List ℕ) (read : List ℕ → T) (size : ℕ) : Type 0 where
  pub long : (x : T) → Fits x → length (put x) ≡ size
  pub again : (x : T) → Fits x → read (put x) ≡ x
  pub back : (bytes : List ℕ) → length bytes ≡ size → IsBytes bytes → put (read bytes) ≡ bytes
  pub fits : (bytes : List ℕ) → length bytes ≡ size → IsBytes bytes → Fits (read bytes)

one_byte : (bytes : List ℕ) → length bytes ≡ 1 → IsBytes bytes → to_be_bytes w8 (from_be_bytes w8 bytes) ≡ bytes
one_byte [] e h = absurd (omega (arith, e))
one_byte (b ∷ []) e h = ap (λ (n : ℕ). n ∷ []) (omega (arith, h 0))
one_byte (b ∷ c ∷ bytes) e h = absurd (omega (arith, e))

pub form_8 : IsForm (λ n. n < 2 ^ 8) (to_be_bytes w8) (from_be_bytes w8) 1
form_8 = record {
  long = λ n lt. refl;
  again = λ n lt. omega arith;
  back = λ bytes len fits. one_byte bytes len fits;
  fits = λ bytes len fits. omega (arith, fits 0);
}

pub form_16 : IsForm (λ n. n < 2 ^ 16) (to_be_bytes w16) (from_be_bytes w16) 2
form_16 = record {
  long = λ n lt. refl;
  again = λ n lt. from_be_bytes-to_be_bytes_2 n lt;
  back = λ bytes len fits. be_bytes_2 bytes _ len fits refl;
  fits = λ bytes len fits. omega (arith, fits 0, fits 1);
}

pub form_32 : IsForm (λ n. n < 2 ^ 32) (to_be_bytes w32) (from_be_bytes w32) 4
form_32 = record {
  long = λ n lt. refl;
  again = λ n lt. from_be_bytes-to_be_bytes_4 n lt;
  back = λ bytes len fits. be_bytes_4 bytes _ len fits refl;
  fits = λ bytes len fits. omega (arith, fits 0, fits 1, fits 2, fits 3);
}

pub form_64 : IsForm (λ n. n < 2 ^ 64) (to_be_bytes w64) (from_be_bytes w64) 8
form_64 = record {
  long = λ n lt. refl;
  again = λ n lt. from_be_bytes-to_be_bytes_8 n lt;
  back = λ bytes len fits. be_bytes_8 bytes _ len fits refl;
  fits = λ bytes len fits. omega (arith, fits 0, fits 1, fits 2, fits 3, fits 4, fits 5, fits 6, fits 7);
}

-- a signed number is its unsigned one in two's complement
pub signed_form : (w : Width) (size : ℕ) → IsForm (λ n. n < 2 ^ bits w) (to_be_bytes w) (from_be_bytes w) size
    → IsForm (FitsSigned w) (signed_bytes w) (signed_at w) size
signed_form w size form = record {
  long = λ z fits. form.long (cast_unsigned w z) (Fits-of_z fits).fits;
  again = λ z fits. ap (cast_signed w) (form.again (cast_unsigned w z) (Fits-of_z fits).fits) ∙ to_z-of_z w z fits;
  back = λ bytes len fits. ap (to_be_bytes w) (of_z-to_z w (from_be_bytes w bytes) (form.fits bytes len fits)) ∙ form.back bytes len fits;
  fits = λ bytes len fits. sfits_to_z (record { fits = form.fits bytes len fits });
}

pub raw_form : (size : ℕ) → IsForm (IsRaw size) (λ bytes. bytes) (λ bytes. bytes) size
raw_form size = record {
  long = λ bytes raw. raw.whole;
  again = λ bytes raw. refl;
  back = λ bytes len fits. refl;
  fits = λ bytes len fits. record { whole = len; each = each_byte bytes fits };
}

-- bytes that are so many elements are those elements' bytes
pub elements_back : {T : Type 0} {Fits : T → Type 0} {put : T → List ℕ} {read : List ℕ → T} {size : ℕ} (form : IsForm Fits put read size) (count : ℕ) (bytes : List ℕ)
    → length bytes ≡ size * count → IsBytes bytes
    → (bytes ≡ flat_map put (elements_at read size count bytes)) × AllByRecursion Fits (elements_at read size count bytes) × (length (elements_at read size count bytes) ≡ count)
elements_back {size = size} form zero bytes len fits = (nil_from_length bytes (omega (arith, len)), tt, refl)
elements_back {put = put} {read = read} {size = size} form (suc count) bytes len fits =
    let first = take size bytes in
    let whole : length first ≡ size = omega (arith, length-take size bytes, len) in
    let left : length (drop size bytes) ≡ size * count = omega (arith, length-drop size bytes, len) in
    let rest = elements_back form count (drop size bytes) left (IsBytes-drop size bytes fits) in
    let front = form.back first whole (IsBytes-take size bytes fits) in
    (sym (take-append-drop size bytes) ∙ rw (front, ← rest.0) refl, (form.fits first whole (IsBytes-take size bytes fits), rest.1), ap suc rest.2)

-- elements' bytes are read as those elements
pub elements_again : {T : Type 0} {Fits : T → Type 0} {put : T → List ℕ} {read : List ℕ → T} {size : ℕ} (form : IsForm Fits put read size) (xs : List T)
    → AllByRecursion Fits xs
    → (elements_at read size (length xs) (flat_map put xs) ≡ xs) × (length (flat_map put xs) ≡ size * length xs)
elements_again {size = size} form [] fits = (refl, omega arith)
elements_again {put = put} {read = read} {size = size} form (x ∷ xs) fits =
    let rest = elements_again form xs fits.1 in
    let long = form.long x fits.0 in
    (rw (take_at (put x) (flat_map put xs) size long, drop_at (put x) (flat_map put xs) size long, form.again x fits.0, rest.0) refl, omega (arith, length-append (put x) (flat_map put xs), long, rest.1))

-- content that is elements' bytes is read as those elements
pub read_again : {T : Type 0} {Fits : T → Type 0} {put : T → List ℕ} {read : List ℕ → T} {size : ℕ} (form : IsForm Fits put read size) (xs : List T) (content : List ℕ) (count : ℕ)
    → AllByRecursion Fits xs → content ≡ flat_map put xs → count ≡ length xs
    → elements_at read size count content ≡ xs
read_again {read = read} {size = size} form xs content count fit placed same = rw (placed, same) (elements_again form xs fit).0

pub content_long : {T : Type 0} {Fits : T → Type 0} {put : T → List ℕ} {read : List ℕ → T} {size : ℕ} (form : IsForm Fits put read size) (xs : List T) (content : List ℕ)
    → AllByRecursion Fits xs → content ≡ flat_map put xs → length content ≡ size * length xs
content_long form xs content fit placed = ap length placed ∙ (elements_again form xs fit).1
