-- Functions that read exactly the values that texts of a kind mean.
use Rattle.std.proofs.Common.{◌≡◌, ℕ, suc, ◌+◌, Bool, true, false, cond, eqb, List, ◌∷◌, ◌++◌, length, take, drop, Option, Some, None, refl, sym, ap, subst, ◌∙◌, arith}
use Rattle.std.specs.Prelude.{bytes_eq}
use Rattle.std.specs.List.{position}
use Rattle.std.specs.Option.{option_and_then, option_map, option_or, option_zip}
use Rattle.std.proofs.lemmas.List.{take_at, drop_at, take-append-drop}
use Rattle.std.proofs.Math.Seq.{drop-append-add}
use Rattle.std.proofs.lemmas.Slice.Eq.{bytes_eq-Decides}
use Rattle.line_schedule.specs.Reading.{only_where}
use Rattle.line_schedule.specs.Words.{after, read_after, read_split, word_in}
use Rattle.line_schedule.specs.Grammar.{After, IsWord, Split}
use Rattle.line_schedule.proofs.Places.{Lacks, found_behind, stands_at}

-- the function gives a value exactly where the text means it
pub record IsReaderOf {V : Type 0} (read : List ℕ → Option V) (Is : V → List ℕ → Type 0) : Type 0 where
  pub there : (value : V) (text : List ℕ) → read text ≡ Some value → Is value text
  pub again : (value : V) (text : List ℕ) → Is value text → read text ≡ Some value

-- ---- words

pub word_there : (word text : List ℕ) → bytes_eq text word ≡ true → text ≡ word
word_there word text h = (bytes_eq-Decides text word).0 h

-- the word stands there, and this is its value
pub word_value : {V : Type 0} (word : List ℕ) (value found : V) (text : List ℕ) → word_in word value text ≡ Some found →
    (value ≡ found) × IsWord word text
word_value word value found text h = go (bytes_eq text word) refl h where
  go : (t : Bool) → bytes_eq text word ≡ t → cond t (Some value) None ≡ Some found → (value ≡ found) × IsWord word text
  go true e same = (cc, word_there word text e)
  go false e same = absurd cc

-- ---- what stands behind a front

pub after_there : (front text rest : List ℕ) → after front text ≡ Some rest → text ≡ front ++ rest
after_there front text rest e = go (bytes_eq (take (length front) text) front) refl e where
  go : (t : Bool) → bytes_eq (take (length front) text) front ≡ t → cond t (Some (drop (length front) text)) None ≡ Some rest →
      text ≡ front ++ rest
  go true same left =
      let behind : drop (length front) text ≡ rest = cc in
      let before : take (length front) text ≡ front = word_there front (take (length front) text) same in
      sym (take-append-drop (length front) text) ∙ ap (λ (s : List ℕ). s ++ drop (length front) text) before ∙ ap (λ (s : List ℕ). front ++ s) behind
  go false same left = absurd cc

after_again : (front rest : List ℕ) → after front (front ++ rest) ≡ Some rest
after_again front rest =
    rw (take_at front rest (length front) refl, drop_at front rest (length front) refl, (bytes_eq-Decides front front).1 refl) refl

pub behind : {V : Type 0} {read : List ℕ → Option V} {Is : V → List ℕ → Type 0} (front : List ℕ) → IsReaderOf read Is →
    IsReaderOf (read_after front read) (λ value. After front (Is value))
behind {V} {read} {Is} front reader = record {
  there = λ value text h. there value text (after front text) refl h;
  again = λ value text a. again value text a;
} where
  there : (value : V) (text : List ℕ) (o : Option (List ℕ)) → after front text ≡ o → option_and_then read o ≡ Some value →
      After front (Is value) text
  there value text None e h = absurd cc
  there value text (Some rest) e h = (rest, after_there front text rest e, reader.there value rest h)

  again : (value : V) (text : List ℕ) → After front (Is value) text → read_after front read text ≡ Some value
  again value text (rest, placed, is) = rw (placed, after_again front rest) (reader.again value rest is)

-- ---- two parts

zip_there : {V W : Type 0} (a : Option V) (b : Option W) (value : V × W) → option_zip a b ≡ Some value →
    (a ≡ Some value.0) × (b ≡ Some value.1)
zip_there {V} {W} (Some x) (Some y) value h =
    let same : ◌≡◌ {A = V × W} (x, y) value = cc in (ap (λ (p : V × W). Some p.0) same, ap (λ (p : V × W). Some p.1) same)
zip_there (Some x) None value h = absurd cc
zip_there None b value h = absurd cc

pub parted : {V W : Type 0} {first : List ℕ → Option V} {second : List ℕ → Option W} {First : V → List ℕ → Type 0}
    {Second : W → List ℕ → Type 0} (separator : ℕ) → IsReaderOf first First → IsReaderOf second Second →
    ((value : V) (text : List ℕ) → First value text → Lacks separator text) →
    IsReaderOf (read_split separator first second) (λ value. Split separator (First value.0) (Second value.1))
parted {V} {W} {first} {second} {First} {Second} separator a b lacks = record {
  there = λ value text h. there value text (position (λ b. eqb b separator) text) refl h;
  again = λ value text s. again value text s;
} where
  there : (value : V × W) (text : List ℕ) (o : Option ℕ) → position (λ b. eqb b separator) text ≡ o →
      option_and_then (λ (parts : List ℕ × List ℕ). option_zip (first parts.0) (second parts.1)) (option_map (λ at. (take at text, drop (at + 1) text)) o) ≡ Some value → Split separator (First value.0) (Second value.1) text
  there value text None placed h = absurd cc
  there value text (Some at) placed h =
      let s = stands_at separator text at placed in
      let both = zip_there (first (take at text)) (second (drop (at + 1) text)) value h in
      let next : suc at ≡ at + 1 = omega arith in
      (take at text, drop (at + 1) text, s.0 ∙ ap (λ n. take at text ++ separator ∷ drop n text) next, a.there _ _ both.0, b.there _ _ both.1)

  again : (value : V × W) (text : List ℕ) → Split separator (First value.0) (Second value.1) text →
      read_split separator first second text ≡ Some value
  again value text (before, after, placed, p, q) =
      let past : drop (length before + 1) (before ++ separator ∷ after) ≡ after = drop-append-add before (separator ∷ after) 1 in
      rw (placed, found_behind separator before after (lacks value.0 before p), take_at before (separator ∷ after) (length before) refl, past, a.again value.0 before p, b.again value.1 after q) refl

-- ---- some of the values

-- those alone that a test lets pass
pub kept : {V : Type 0} {read : List ℕ → Option V} {Is : V → List ℕ → Type 0} (may : V → Bool) → IsReaderOf read Is →
    IsReaderOf (λ text. only_where may (read text)) (λ value text. (may value ≡ true) × Is value text)
kept {V} {read} {Is} may reader = record {
  there = λ value text h. there value text (read text) refl h;
  again = λ value text is. rw (reader.again value text is.1, is.0) refl;
} where
  passed : (value found : V) (t : Bool) → may found ≡ t → cond t (Some found) None ≡ Some value → (found ≡ value) × (may found ≡ true)
  passed value found true e h = (cc, e)
  passed value found false e h = absurd cc

  there : (value : V) (text : List ℕ) (o : Option V) → read text ≡ o → only_where may o ≡ Some value → (may value ≡ true) × Is value text
  there value text None e h = absurd cc
  there value text (Some found) e h =
      let same = passed value found (may found) refl h in
      subst (λ (v : V). (may v ≡ true) × Is v text) same.0 (same.1, reader.there found text e)

-- ---- choices

-- what is read is a value of its kind
pub record IsFinderOf {V : Type 0} (read : List ℕ → Option V) (Is : V → List ℕ → Type 0) : Type 0 where
  pub there : (value : V) (text : List ℕ) → read text ≡ Some value → Is value text

pub either : {V : Type 0} {f g : List ℕ → Option V} {Is : V → List ℕ → Type 0} → IsFinderOf f Is → IsFinderOf g Is →
    IsFinderOf (λ text. option_or (f text) (g text)) Is
either {V} {f} {g} {Is} first second = record { there = λ value text h. go value text (f text) refl h } where
  go : (value : V) (text : List ℕ) (o : Option V) → f text ≡ o → option_or o (g text) ≡ Some value → Is value text
  go value text (Some x) e same = first.there value text (e ∙ same)
  go value text None e same = second.there value text same

-- a word alone
pub finds_word : {V : Type 0} {Is : V → List ℕ → Type 0} (word : List ℕ) (value : V) → ((text : List ℕ) → IsWord word text →
    Is value text) → IsFinderOf (word_in word value) Is
finds_word {V} {Is} word value is = record {
  there = λ found text h.
      let w = word_value word value found text h in subst (λ (v : V). Is v text) w.0 (is text w.1);
}

-- values made of others
pub finds_made : {V W : Type 0} {read : List ℕ → Option V} {Of : V → List ℕ → Type 0} {Is : W → List ℕ → Type 0} (make : V → W) →
    IsReaderOf read Of → ((value : V) (text : List ℕ) → Of value text → Is (make value) text) →
    IsFinderOf (λ text. option_map make (read text)) Is
finds_made {V} {W} {read} {Of} {Is} make reader is = record { there = λ found text h. go found text (read text) refl h } where
  go : (found : W) (text : List ℕ) (o : Option V) → read text ≡ o → option_map make o ≡ Some found → Is found text
  go found text None e same = absurd cc
  go found text (Some value) e same =
      let made : make value ≡ found = cc in
      subst (λ (w : W). Is w text) made (is value text (reader.there value text e))
