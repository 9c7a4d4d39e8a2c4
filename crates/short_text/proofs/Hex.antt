-- Hex digits, byte by byte.
use Rattle.std.proofs.Common.{◌≡◌, ℕ, ◌+◌, ◌/◌, ◌%◌, ◌<◌, ◌≤◌, slice_index, slice_index_or, List, [], ◌∷◌, ◌++◌, length, drop, get_or, refl, sym, ap, ◌∙◌, append_assoc, add-one, append-nil, drop-cons}
use Rattle.std.proofs.lemmas.List.{drop_all}
use Rattle.std.specs.List.{flat_map}
use Rattle.hex.specs.Hex.{encode_upper, encode_with, upper_digits}
use Rattle.short_text.specs.Shown.{hex_byte}

encode_upper-cons : (byte : ℕ) (bytes : List ℕ)
    → encode_upper (byte ∷ bytes) ≡ get_or upper_digits (byte / 16) 0 ∷ get_or upper_digits (byte % 16) 0 ∷ encode_upper bytes
unfolding encode_with
encode_upper-cons byte bytes = refl

encode_upper-nil : encode_upper [] ≡ []
unfolding encode_with
encode_upper-nil = refl

drop-byte : (bytes : List ℕ) (i : ℕ) → i < length bytes → drop i bytes ≡ get_or bytes i 0 ∷ drop (i + 1) bytes
drop-byte bytes i below = drop-cons bytes i 0 below ∙ ap (λ (k : ℕ). get_or bytes i 0 ∷ drop k bytes) (sym (add-one i))

-- with two digits more, what is left to write is one byte less
pub encode_upper-step : (line one two whole bytes : List ℕ) (i high low : ℕ) → i < length bytes →
    high ≡ get_or upper_digits (get_or bytes i 0 / 16) 0 → low ≡ get_or upper_digits (get_or bytes i 0 % 16) 0 →
    one ≡ line ++ high ∷ [] → two ≡ one ++ low ∷ [] → line ++ encode_upper (drop i bytes) ≡ whole → two ++ encode_upper (drop (i + 1) bytes) ≡ whole
encode_upper-step line one two whole bytes i high low below is_high is_low is_one is_two so_far =
    let rest : List ℕ = encode_upper (drop (i + 1) bytes) in
    ap (λ (t : List ℕ). t ++ rest) (is_two ∙ ap (λ (t : List ℕ). t ++ low ∷ []) is_one)
    ∙ append_assoc (line ++ high ∷ []) (low ∷ []) rest
    ∙ append_assoc line (high ∷ []) (low ∷ rest)
    ∙ ap (λ (h : ℕ). line ++ h ∷ low ∷ rest) is_high
    ∙ ap (λ (l : ℕ). line ++ get_or upper_digits (get_or bytes i 0 / 16) 0 ∷ l ∷ rest) is_low
    ∙ sym (ap (λ (t : List ℕ). line ++ t) (ap encode_upper (drop-byte bytes i below) ∙ encode_upper-cons (get_or bytes i 0) (drop (i + 1) bytes)))
    ∙ so_far

pub encode_upper-done : (line bytes : List ℕ) (i : ℕ) → length bytes ≤ i → line ++ encode_upper (drop i bytes) ≡ line
encode_upper-done line bytes i done =
    ap (λ (rest : List ℕ). line ++ encode_upper rest) (drop_all i bytes done) ∙ ap (λ (digits : List ℕ). line ++ digits) encode_upper-nil
    ∙ append-nil line

-- the hex of bytes is that of each, one after another
pub each_in_hex : (bytes : List ℕ) → flat_map hex_byte bytes ≡ encode_upper bytes
unfolding encode_with
each_in_hex [] = refl
each_in_hex (byte ∷ bytes) = ap (λ (rest : List ℕ). hex_byte byte ++ rest) (each_in_hex bytes)

same_cons : {x y : ℕ} {xs ys : List ℕ} → x ≡ y → xs ≡ ys → x ∷ xs ≡ y ∷ ys
same_cons {x} {y} {xs} {ys} first others = ap (λ (h : ℕ). h ∷ xs) first ∙ ap (λ (t : List ℕ). y ∷ t) others

-- the digits of four bytes
pub word_digits : (a b c d : ℕ) (bytes : List ℕ) {p q r s t u v w : ℕ} → bytes ≡ a ∷ b ∷ c ∷ d ∷ []
    → p ≡ slice_index upper_digits (slice_index_or bytes 0 0 / 16) → q ≡ slice_index upper_digits (slice_index_or bytes 0 0 % 16)
    → r ≡ slice_index upper_digits (slice_index_or bytes 1 0 / 16) → s ≡ slice_index upper_digits (slice_index_or bytes 1 0 % 16)
    → t ≡ slice_index upper_digits (slice_index_or bytes 2 0 / 16) → u ≡ slice_index upper_digits (slice_index_or bytes 2 0 % 16)
    → v ≡ slice_index upper_digits (slice_index_or bytes 3 0 / 16) → w ≡ slice_index upper_digits (slice_index_or bytes 3 0 % 16)
    → p ∷ q ∷ r ∷ s ∷ t ∷ u ∷ v ∷ w ∷ [] ≡ encode_upper (a ∷ b ∷ c ∷ d ∷ [])
word_digits a b c d bytes is p q r s t u v w =
    let high : (i : ℕ) → slice_index upper_digits (slice_index_or bytes i 0 / 16)
    ≡ slice_index upper_digits (slice_index_or (a ∷ b ∷ c ∷ d ∷ []) i 0 / 16) =
    λ i. ap (λ (bs : List ℕ). slice_index upper_digits (slice_index_or bs i 0 / 16)) is in
    let low : (i : ℕ) → slice_index upper_digits (slice_index_or bytes i 0 % 16)
    ≡ slice_index upper_digits (slice_index_or (a ∷ b ∷ c ∷ d ∷ []) i 0 % 16) =
    λ i. ap (λ (bs : List ℕ). slice_index upper_digits (slice_index_or bs i 0 % 16)) is in
    same_cons (p ∙ high 0) (same_cons (q ∙ low 0) (same_cons (r ∙ high 1) (same_cons (s ∙ low 1)
    (same_cons (t ∙ high 2) (same_cons (u ∙ low 2) (same_cons (v ∙ high 3) (same_cons (w ∙ low 3) refl)))))))
    ∙ each_in_hex (a ∷ b ∷ c ∷ d ∷ [])
