-- Reading hex from left to right gives the bytes that the input means, or its break.
use Rattle.std.proofs.Common.{◌≡◌, ℕ, suc, ◌+◌, ◌*◌, Bool, true, false, List, [], ◌∷◌, ◌++◌, length, Option, Some, None, Result, Ok, Err, refl, sym, ap, subst, ◌∙◌, arith, add-zero, append_assoc}
use Rattle.std.proofs.lemmas.Bool.Decides.{nat_tests}
use Rattle.std.proofs.lemmas.Grind.{common_steps}
use Rattle.std.specs.Option.{option_map}
use Rattle.hex.specs.Hex.{hex_digit_value}
use Rattle.secs_text.specs.Grammar.{IsHexByte}
use Rattle.gemline_app.specs.HexInput.{HexMeans, IsHexBreak, is_gap}
use Rattle.gemline_app.specs.HexReading.{after_digit, with_front, bytes_from, reading_behind}

-- the bytes that an input means behind a first digit, or outside of pairs
abbrev MeansFrom : Option ℕ → List ℕ → List ℕ → Type 0
MeansFrom None bytes input = HexMeans bytes input
MeansFrom (Some high) [] input = ⊥
MeansFrom (Some high) (byte ∷ bytes) input =
    (digit : ℕ) × (low : ℕ) × (rest : List ℕ) × (input ≡ digit ∷ rest) × (hex_digit_value digit ≡ Some low)
    × (byte ≡ 16 * high + low) × HexMeans bytes rest

-- no gap is a digit
gap_or_digit : (c h : ℕ) → hex_digit_value c ≡ Some h → is_gap c ≡ false
gap_or_digit c h digit = grind (arith, nat_tests, common_steps)

-- ---- one byte

-- what a byte does
abbrev does : Option ℕ → List ℕ → Option (Option ℕ × List ℕ)
does next put = Some (next, put)

taken : (a b : Option ℕ × List ℕ) → Some a ≡ Some b → a ≡ b
taken a b is = cc

same_next : (next next' : Option ℕ) (put put' : List ℕ) → does next put ≡ does next' put' → next ≡ next'
same_next next next' put put' same = ap (λ (p : Option ℕ × List ℕ). p.0) (taken (next, put) (next', put') same)

same_put : (next next' : Option ℕ) (put put' : List ℕ) → does next put ≡ does next' put' → put ≡ put'
same_put next next' put put' same = ap (λ (p : Option ℕ × List ℕ). p.1) (taken (next, put) (next', put') same)

with_gap : (bytes : List ℕ) (c : ℕ) (rest : List ℕ) → is_gap c ≡ true → HexMeans bytes rest → HexMeans bytes (c ∷ rest)
with_gap [] c rest gap means = (gap, means)
with_gap (b ∷ bytes) c rest gap (gaps, pair, tail, split, are, is, means) =
    (c ∷ gaps, pair, tail, ap (λ (all : List ℕ). c ∷ all) split, (gap, are), is, means)

with_high : (bytes : List ℕ) (c h : ℕ) (rest : List ℕ) → hex_digit_value c ≡ Some h → MeansFrom (Some h) bytes rest
    → HexMeans bytes (c ∷ rest)
with_high [] c h rest digit means = absurd means
with_high (b ∷ bytes) c h rest digit (second, low, tail, split, is_low, is_byte, means) =
    ([], c ∷ second ∷ [], tail, ap (λ (all : List ℕ). c ∷ all) split, tt, (h, low, digit, is_low, is_byte), means)

-- what a byte does, and what the bytes behind it mean
step : (high : Option ℕ) (c : ℕ) (next : Option ℕ) (put bytes rest : List ℕ) → after_digit high c ≡ does next put →
    MeansFrom next bytes rest → MeansFrom high (put ++ bytes) (c ∷ rest)
step high c next put bytes rest is means = go high (hex_digit_value c) (is_gap c) refl refl is
  where
    shifted : (high' : Option ℕ) (next' : Option ℕ) (put' : List ℕ) → does next' put' ≡ does next put
        → MeansFrom high' (put' ++ bytes) (c ∷ rest)
        → MeansFrom high' (put ++ bytes) (c ∷ rest)
    shifted high' next' put' same means' =
        subst (λ (p : List ℕ). MeansFrom high' (p ++ bytes) (c ∷ rest)) (same_put next' next put' put same) means'

    moved : (next' : Option ℕ) (put' : List ℕ) → does next' put' ≡ does next put → MeansFrom next' bytes rest
    moved next' put' same =
        subst (λ (n : Option ℕ). MeansFrom n bytes rest) (sym (same_next next' next put' put same)) means

    go : (first : Option ℕ) (value : Option ℕ) (gap : Bool) → hex_digit_value c ≡ value → is_gap c ≡ gap
        → after_digit first c ≡ does next put
        → MeansFrom first (put ++ bytes) (c ∷ rest)
    go (Some h) None gap value is_it after =
        let none : after_digit (Some h) c ≡ None = ap (option_map (λ low. (None, (16 * h + low) ∷ []))) value in cc
    go (Some h) (Some low) gap value is_it after =
        let some : does None ((16 * h + low) ∷ []) ≡ does next put =
        sym (ap (option_map (λ low. (None, (16 * h + low) ∷ []))) value) ∙ after in
        shifted (Some h) None ((16 * h + low) ∷ []) some
        (c, low, rest, refl, value, refl, moved None ((16 * h + low) ∷ []) some)
    go None value true is_value gap after =
        let some : does None [] ≡ does next put = rw gap at after in
        shifted None None [] some (with_gap bytes c rest gap (moved None [] some))
    go None None false is_value gap after =
        let none : after_digit None c ≡ None = rw gap (ap (option_map (λ high. (Some high, []))) is_value) in cc
    go None (Some h) false is_value gap after =
        let some : does (Some h) [] ≡ does next put =
        sym (rw gap (ap (option_map (λ high. (Some high, []))) is_value)) ∙ after in
        shifted None (Some h) [] some (with_high bytes c h rest is_value (moved (Some h) [] some))

-- what a byte in front has done, from what the input means
record Back (high : Option ℕ) (c : ℕ) (bytes rest : List ℕ) : Type 0 where
  next : Option ℕ
  put : List ℕ
  tail : List ℕ
  after : after_digit high c ≡ does next put
  whole : bytes ≡ put ++ tail
  means : MeansFrom next tail rest

back_gaps : (c : ℕ) (bytes gaps rest : List ℕ) → is_gap c ≡ true → HexMeans bytes rest → Back None c bytes rest
back_gaps c bytes gaps rest gap means =
    record { next = None; put = []; tail = bytes; after = rw gap refl; whole = refl; means = means }

back_pair : (c b : ℕ) (bytes pair tail rest : List ℕ) → c ∷ rest ≡ pair ++ tail → IsHexByte b pair → HexMeans bytes tail
    → Back None c (b ∷ bytes) rest
back_pair c b bytes [] tail rest split is means = absurd is
back_pair c b bytes (x ∷ []) tail rest split is means = absurd is
back_pair c b bytes (x ∷ y ∷ []) tail rest split (h, l, is_h, is_l, is_b) means =
    let same : c ≡ x = cc in
    let others : rest ≡ y ∷ tail = cc in
    let digit : hex_digit_value c ≡ Some h = ap hex_digit_value same ∙ is_h in
    record {
      next = Some h;
      put = [];
      tail = b ∷ bytes;
      after = rw (gap_or_digit c h digit) (ap (option_map (λ high. (Some high, []))) digit);
      whole = refl;
      means = (y, l, tail, others, is_l, is_b, means);
    }
back_pair c b bytes (x ∷ y ∷ z ∷ more) tail rest split is means = absurd is

back : (high : Option ℕ) (c : ℕ) (bytes rest : List ℕ) → MeansFrom high bytes (c ∷ rest) → Back high c bytes rest
back (Some h) c [] rest means = absurd means
back (Some h) c (b ∷ bytes) rest (digit, low, tail, split, is_low, is_byte, means) =
    let same : c ≡ digit = cc in
    let others : rest ≡ tail = cc in
    let value : hex_digit_value c ≡ Some low = ap hex_digit_value same ∙ is_low in
    record {
      next = None;
      put = (16 * h + low) ∷ [];
      tail = bytes;
      after = ap (option_map (λ low. (None, (16 * h + low) ∷ []))) value;
      whole = ap (λ (x : ℕ). x ∷ bytes) is_byte;
      means = subst (λ (r : List ℕ). HexMeans bytes r) (sym others) means;
    }
back None c [] rest means = back_gaps c [] [] rest means.0 means.1
back None c (b ∷ bytes) rest ([], pair, tail, split, are, is, means) = back_pair c b bytes pair tail rest split is means
back None c (b ∷ bytes) rest (g ∷ gaps, pair, tail, split, are, is, means) =
    let same : c ≡ g = cc in
    let others : rest ≡ gaps ++ (pair ++ tail) = cc in
    back_gaps c (b ∷ bytes) gaps rest (ap is_gap same ∙ are.0) (gaps, pair, tail, others, are.1, is, means)

-- ---- the whole input

abbrev Sound : List ℕ → Type 0
Sound input =
    (high : Option ℕ) (at : ℕ) (bytes : List ℕ) → bytes_from high at input ≡ Ok bytes → MeansFrom high bytes input

sound_step : (high : Option ℕ) (at c : ℕ) (rest bytes : List ℕ) → Sound rest → (after : Option (Option ℕ × List ℕ))
    → after_digit high c ≡ after
    → reading_behind at after (λ next. bytes_from next (at + 1) rest) ≡ Ok bytes → MeansFrom high bytes (c ∷ rest)
sound_step high at c rest bytes each None is read = cc
sound_step high at c rest bytes each (Some (next, put)) is read = go (bytes_from next (at + 1) rest) refl read
  where
    go : (later : Result (List ℕ) ℕ) → bytes_from next (at + 1) rest ≡ later → with_front put later ≡ Ok bytes
        → MeansFrom high bytes (c ∷ rest)
    go (Err place) is_later whole = cc
    go (Ok more) is_later whole =
        let same : put ++ more ≡ bytes = cc in
        subst (λ (all : List ℕ). MeansFrom high all (c ∷ rest)) same
        (step high c next put more rest is (each next (at + 1) more is_later))

sound : (input : List ℕ) → Sound input
sound [] None at bytes read = let none : bytes ≡ [] = cc in subst (λ (all : List ℕ). HexMeans all []) (sym none) tt
sound [] (Some h) at bytes read = cc
sound (c ∷ rest) high at bytes read = sound_step high at c rest bytes (sound rest) (after_digit high c) refl read

complete : (input : List ℕ) (high : Option ℕ) (at : ℕ) (bytes : List ℕ) → MeansFrom high bytes input
    → bytes_from high at input ≡ Ok bytes
complete [] None at [] means = refl
complete [] None at (b ∷ bytes) ([], [], tail, split, are, is, means) = absurd is
complete [] None at (b ∷ bytes) ([], x ∷ pair, tail, split, are, is, means) = cc
complete [] None at (b ∷ bytes) (g ∷ gaps, pair, tail, split, are, is, means) = cc
complete [] (Some h) at [] means = absurd means
complete [] (Some h) at (b ∷ bytes) (digit, low, tail, split, is_low, is_byte, means) = cc
complete (c ∷ rest) high at bytes means =
    let was = back high c bytes rest means in
    ap (λ (after : Option (Option ℕ × List ℕ)). reading_behind at after (λ next. bytes_from next (at + 1) rest))
    was.after
    ∙ ap (with_front was.put) (complete rest was.next (at + 1) was.tail was.means)
    ∙ ap (λ (all : List ℕ). Ok all) (sym was.whole)

pub read_means : (input bytes : List ℕ) → bytes_from None 0 input ≡ Ok bytes → HexMeans bytes input
read_means input bytes read = sound input None 0 bytes read

pub means_read : (input bytes : List ℕ) → HexMeans bytes input → bytes_from None 0 input ≡ Ok bytes
means_read input bytes means = complete input None 0 bytes means

-- ---- breaks

record Breaks (high : Option ℕ) (at : ℕ) (input : List ℕ) (place : ℕ) : Type 0 where
  front : List ℕ
  rest : List ℕ
  split : input ≡ front ++ rest
  placed : place ≡ at + length front
  more : List ℕ
  bytes : List ℕ
  begins : MeansFrom high bytes (front ++ more)
  ends : (next : ℕ) (tail later others : List ℕ) → rest ≡ next ∷ tail → MeansFrom high others (front ++ next ∷ later)
      → ⊥

-- some input goes on behind a first digit, or outside of pairs
some_end : (high : Option ℕ) → (more : List ℕ) × (bytes : List ℕ) × MeansFrom high bytes more
some_end None = ([], [], tt)
some_end (Some h) = (48 ∷ [], (16 * h + 0) ∷ [], (48, 0, [], refl, refl, refl, tt))

break_here : (high : Option ℕ) (at place : ℕ) (input : List ℕ) → place ≡ at →
    ((next : ℕ) (tail later others : List ℕ) → input ≡ next ∷ tail → MeansFrom high others (next ∷ later) → ⊥)
    → Breaks high at input place
break_here high at place input placed none =
    let end = some_end high in
    record {
      front = [];
      rest = input;
      split = refl;
      placed = placed ∙ sym (add-zero at);
      more = end.0;
      bytes = end.1;
      begins = end.2;
      ends = none;
    }

break_behind : (high : Option ℕ) (at c place : ℕ) (rest : List ℕ) (next : Option ℕ) (put : List ℕ)
    → after_digit high c ≡ does next put
    → Breaks next (at + 1) rest place → Breaks high at (c ∷ rest) place
break_behind high at c place rest next put is later = record {
  front = c ∷ later.front;
  rest = later.rest;
  split = ap (λ (all : List ℕ). c ∷ all) later.split;
  placed = omega (arith, later.placed);
  more = later.more;
  bytes = put ++ later.bytes;
  begins = step high c next put later.bytes (later.front ++ later.more) is later.begins;
  ends = λ n tail behind_n others split means.
      let was = back high c others (later.front ++ n ∷ behind_n) means in
      let both : does was.next was.put ≡ does next put = sym was.after ∙ is in
      let same = same_next was.next next was.put put both in
      later.ends n tail behind_n was.tail split
      (subst (λ (o : Option ℕ). MeansFrom o was.tail (later.front ++ n ∷ behind_n)) same was.means);
}

abbrev Broken : List ℕ → Type 0
Broken input = (high : Option ℕ) (at place : ℕ) → bytes_from high at input ≡ Err place → Breaks high at input place

break_step : (high : Option ℕ) (at c place : ℕ) (rest : List ℕ) → Broken rest → (after : Option (Option ℕ × List ℕ))
    → after_digit high c ≡ after
    → reading_behind at after (λ next. bytes_from next (at + 1) rest) ≡ Err place → Breaks high at (c ∷ rest) place
break_step high at c place rest each None is read =
    let same : place ≡ at = cc in
    break_here high at place (c ∷ rest) same (λ next tail later others split means.
    let first : c ≡ next = cc in
    let was = back high next others later means in
    let some = was.after in
    let none : after_digit high next ≡ None = ap (after_digit high) (sym first) ∙ is in
    let both : does was.next was.put ≡ None = sym some ∙ none in
    cc)
break_step high at c place rest each (Some (next, put)) is read = go (bytes_from next (at + 1) rest) refl read
  where
    go : (later : Result (List ℕ) ℕ) → bytes_from next (at + 1) rest ≡ later → with_front put later ≡ Err place
        → Breaks high at (c ∷ rest) place
    go (Ok more) is_later whole = cc
    go (Err found) is_later whole =
        let same : found ≡ place = cc in
        break_behind high at c place rest next put is (each next (at + 1) place (is_later ∙ ap (λ (p : ℕ). Err p) same))

broken : (input : List ℕ) → Broken input
broken [] None at place read = cc
broken [] (Some h) at place read =
    let same : place ≡ at = cc in
    break_here (Some h) at place [] same (λ next tail later others split means. cc)
broken (c ∷ rest) high at place read = break_step high at c place rest (broken rest) (after_digit high c) refl read

pub read_break : (input : List ℕ) (at : ℕ) → bytes_from None 0 input ≡ Err at → IsHexBreak input at
read_break input at read =
    let found = broken input None 0 at read in
    record {
      front = found.front;
      rest = found.rest;
      split = found.split;
      placed = omega (arith, found.placed);
      more = found.more;
      bytes = found.bytes;
      begins = found.begins;
      ends = found.ends;
      unread = λ others means.
          let good = means_read input others means in
          let both : Ok others ≡ Err at = sym good ∙ read in
          cc;
    }

-- bytes put in two parts
pub with_front-append : (one two : List ℕ) (read : Result (List ℕ) ℕ)
    → with_front (one ++ two) read ≡ with_front one (with_front two read)
with_front-append one two (Ok more) = ap (λ (all : List ℕ). Ok all) (append_assoc one two more)
with_front-append one two (Err at) = refl

-- ---- one break

-- two ways to split an input: at the same place, or one goes on where the other ends
data Compared (a b rest_a rest_b : List ℕ) : Type 0 where
  Same : length a ≡ length b → Compared a b rest_a rest_b
  Further : (next : ℕ) (tail later : List ℕ) → rest_a ≡ next ∷ tail → b ≡ a ++ next ∷ later → Compared a b rest_a rest_b
  Shorter : (next : ℕ) (tail later : List ℕ) → rest_b ≡ next ∷ tail → a ≡ b ++ next ∷ later → Compared a b rest_a rest_b

compare : (a b rest_a rest_b : List ℕ) → a ++ rest_a ≡ b ++ rest_b → Compared a b rest_a rest_b
compare [] [] rest_a rest_b same = Same refl
compare [] (y ∷ b) rest_a rest_b same = Further y (b ++ rest_b) b same refl
compare (x ∷ a) [] rest_a rest_b same = Shorter x (a ++ rest_a) a (sym same) refl
compare (x ∷ a) (y ∷ b) rest_a rest_b same = go (compare a b rest_a rest_b tails)
  where
    heads : x ≡ y
    heads = cc

    tails : a ++ rest_a ≡ b ++ rest_b
    tails = cc

    go : Compared a b rest_a rest_b → Compared (x ∷ a) (y ∷ b) rest_a rest_b
    go (Same long) = Same (ap (λ n. suc n) long)
    go (Further next tail later is whole) =
        Further next tail later is
        (ap (λ (all : List ℕ). y ∷ all) whole ∙ ap (λ (c : ℕ). c ∷ a ++ next ∷ later) (sym heads))
    go (Shorter next tail later is whole) =
        Shorter next tail later is (ap (λ (all : List ℕ). x ∷ all) whole ∙ ap (λ (c : ℕ). c ∷ b ++ next ∷ later) heads)

-- what begins an input can't stand behind a break
behind_break : (input : List ℕ) (at : ℕ) (broken : IsHexBreak input at) (next : ℕ)
    (tail later front more bytes : List ℕ)
    → broken.rest ≡ next ∷ tail →
    front ≡ broken.front ++ next ∷ later → HexMeans bytes (front ++ more) → ⊥
behind_break input at broken next tail later front more bytes is whole means =
    broken.ends next tail (later ++ more) bytes is
    (subst (HexMeans bytes) (ap (λ (all : List ℕ). all ++ more) whole ∙ append_assoc broken.front (next ∷ later) more)
    means)

pub one_break : (input : List ℕ) (at at' : ℕ) → IsHexBreak input at → IsHexBreak input at' → at ≡ at'
one_break input at at' one other = go (compare one.front other.front one.rest other.rest (sym one.split ∙ other.split))
  where
    go : Compared one.front other.front one.rest other.rest → at ≡ at'
    go (Same long) = one.placed ∙ long ∙ sym other.placed
    go (Further next tail later is whole) =
        absurd (behind_break input at one next tail later other.front other.more other.bytes is whole other.begins)
    go (Shorter next tail later is whole) =
        absurd (behind_break input at' other next tail later one.front one.more one.bytes is whole one.begins)
