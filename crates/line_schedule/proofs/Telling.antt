-- Reading line by line finds what lines tell, or the first line that stops it: for schedules and scripts alike.
use Rattle.std.proofs.Common.{◌≡◌, ℕ, ◌+◌, ◌<◌, ◌≤◌, Bool, true, false, ◌⊎◌, inl, inr, List, [], ◌∷◌, ◌++◌, length, Option, Some, None, Result, Ok, Err, refl, sym, ap, subst, ◌∙◌, arith}
use Rattle.std.specs.Prelude.{IfOk, All}
use Rattle.std.proofs.lemmas.List.{append-nil, append_assoc}
use Rattle.std.proofs.lemmas.List.Elements.{All-cons, All-nil}
use Rattle.line_schedule.specs.declared.schedule.ScheduleFault.{ScheduleFault}
use Rattle.line_schedule.specs.declared.schedule.ScheduleFault.TheVariants as fault
use Rattle.line_schedule.specs.Grammar.{IsPassedOver}
use Rattle.line_schedule.specs.Lines.{ReadsOnly, RefusesOnly, StopsAt, Tell, last_moment, lines_of}
use Rattle.line_schedule.specs.Reading.{Gives, LineReader, and_rest, read_lines, with_values}

-- what the answer to a line says of it
abbrev pub Says : {V : Type 0} → (ℕ → V → List ℕ → Type 0) → (Outside : ℕ → List ℕ → Type 0) → ℕ → ℕ → ℕ → List ℕ →
    Result (Option V) ScheduleFault → Type 0
Says Is Outside most number least line (Ok None) = (number ≤ most) × IsPassedOver line
Says Is Outside most number least line (Ok (Some value)) = (number ≤ most) × Is least value line
Says Is Outside most number least line (Err (fault.Line n)) = (n ≡ number) × ((most < n) ⊎ Outside least line)
Says Is Outside most number least line (Err fault.NoMemory) = ⊥

-- the answers are those of the grammar
pub record IsExact {V : Type 0} (reader : LineReader V) (Is : ℕ → V → List ℕ → Type 0) (Outside : ℕ → List ℕ → Type 0)
    (most : ℕ) : Type 0 where
  pub says : (number least : ℕ) (line : List ℕ) → Says Is Outside most number least line (reader.answer number least line)
  pub passed : (number least : ℕ) (line : List ℕ) → number ≤ most → IsPassedOver line → reader.answer number least line ≡ Ok None
  pub told :
      (number least : ℕ) (value : V) (line : List ℕ) → number ≤ most → Is least value line
      → reader.answer number least line ≡ Ok (Some value)
  pub outside :
      (number least : ℕ) (line : List ℕ) → (most < number) ⊎ Outside least line
      → reader.answer number least line ≡ Err (fault.Line number)

-- so many lines of the text are read, up to a moment, and the rest is left
pub record IsAt {V : Type 0} (reader : LineReader V) (most : ℕ) (text : List ℕ) (values : List V) (number least : ℕ)
    (rest : List ℕ) : Type 0 where
  pub told : with_values values (read_lines reader number least (lines_of rest)) ≡ read_lines reader 0 0 (lines_of text)
  pub within : number ≤ most

with_more : {V : Type 0} (values more : List V) (r : Result (List V) ScheduleFault) →
    with_values (values ++ more) r ≡ with_values values (with_values more r)
with_more values more (Ok others) = ap (λ s. Ok s) (append_assoc values more others)
with_more values more (Err e) = refl

with_none : {V : Type 0} (r : Result (List V) ScheduleFault) → with_values [] r ≡ r
with_none (Ok others) = refl
with_none (Err e) = refl

pub not_both : (t : Bool) → t ≡ false → t ≡ true → ⊥
not_both false a b = cc
not_both true a b = cc

pub none_some : {V : Type 0} (o : Option V) (value : V) → o ≡ None → o ≡ Some value → ⊥
none_some None value a b = cc
none_some (Some v) value a b = cc

-- what holds of each value that a line tells holds of all, and there are no more of them than lines
pub all_fit : {V : Type 0} (Is : ℕ → V → List ℕ → Type 0) (moment_of : V → ℕ) (Fits : V → Type 0) →
    ((least : ℕ) (value : V) (line : List ℕ) → Is least value line → Fits value) → (least : ℕ) (lines : List (List ℕ)) (values : List V) →
    Tell Is moment_of least lines values → All Fits values × (length values ≤ length lines)
all_fit Is moment_of Fits each least [] values tell = subst (λ s. All Fits s × (length s ≤ 0)) (sym tell) (All-nil Fits, omega arith)
all_fit Is moment_of Fits each least (line ∷ lines) values (inl (passed, tell)) =
    let rest = all_fit Is moment_of Fits each least lines values tell in (rest.0, omega (arith, rest.1))
all_fit {V} Is moment_of Fits each least (line ∷ lines) values (inr (value, others, same, is, tell)) =
    let rest = all_fit Is moment_of Fits each (moment_of value) lines others tell in
    let all : All Fits (value ∷ others) × (length (value ∷ others) ≤ length (line ∷ lines)) =
    (All-cons Fits value others (each least value line is) rest.0, omega (arith, rest.1)) in
    subst (λ (s : List V). All Fits s × (length s ≤ length (line ∷ lines))) (sym same) all

module _ {V : Type 0} {reader : LineReader V} {Is : ℕ → V → List ℕ → Type 0} {Outside : ℕ → List ℕ → Type 0} {most : ℕ}
    (exact : IsExact reader Is Outside most) where
  abbrev pub AllTell : ℕ → List (List ℕ) → List V → Type 0
  AllTell least lines values = Tell Is reader.moment_of least lines values

  -- lines that tell values, and then others
  skipped : (n least : ℕ) (before : List (List ℕ)) (values : List V) (rest : List (List ℕ)) → AllTell least before values →
      n + length before ≤ most →
      read_lines reader n least (before ++ rest) ≡ with_values values (read_lines reader (n + length before) (last_moment reader.moment_of least values) rest)
  skipped n least [] values rest tell within =
      let same : n ≡ n + 0 = omega arith in
      let here : read_lines reader n least rest ≡ with_values [] (read_lines reader (n + 0) least rest) =
      ap (λ k. read_lines reader k least rest) same ∙ sym (with_none (read_lines reader (n + 0) least rest)) in
      subst (λ (s : List V). read_lines reader n least rest ≡ with_values s (read_lines reader (n + 0) (last_moment reader.moment_of least s) rest)) (sym tell) here
  skipped n least (line ∷ before) values rest (inl (passed, tell)) within =
      let inner = skipped (n + 1) least before values rest tell (omega (arith, within)) in
      let place : n + 1 + length before ≡ n + length (line ∷ before) = omega arith in
      rw (exact.passed (n + 1) least line (omega (arith, within)) passed) (inner ∙ ap (λ k. with_values values (read_lines reader k (last_moment reader.moment_of least values) rest)) place)
  skipped n least (line ∷ before) values rest (inr (value, others, same, is, tell)) within =
      let inner = skipped (n + 1) (reader.moment_of value) before others rest tell (omega (arith, within)) in
      let place : n + 1 + length before ≡ n + length (line ∷ before) = omega arith in
      let last = last_moment reader.moment_of (reader.moment_of value) others in
      let first : read_lines reader n least (line ∷ (before ++ rest)) ≡ with_values (value ∷ []) (read_lines reader (n + 1) (reader.moment_of value) (before ++ rest)) =
      rw (exact.told (n + 1) least value line (omega (arith, within)) is) refl in
      let all : read_lines reader n least (line ∷ (before ++ rest)) ≡ with_values (value ∷ others) (read_lines reader (n + length (line ∷ before)) last rest) =
      first ∙ ap (λ r. with_values (value ∷ []) r) inner ∙ sym (with_more (value ∷ []) others (read_lines reader (n + 1 + length before) last rest))
      ∙ ap (λ k. with_values (value ∷ others) (read_lines reader k last rest)) place in
      subst (λ (s : List V). read_lines reader n least (line ∷ (before ++ rest)) ≡ with_values s (read_lines reader (n + length (line ∷ before)) (last_moment reader.moment_of least s) rest)) (sym same) all

  read_again : (lines : List (List ℕ)) (values : List V) → AllTell 0 lines values → length lines ≤ most →
      read_lines reader 0 0 lines ≡ Ok values
  read_again lines values tell within =
      let s = skipped 0 0 lines values [] tell (omega (arith, within)) in
      ap (read_lines reader 0 0) (sym (append-nil lines)) ∙ s ∙ ap (λ r. Ok r) (append-nil values)

  -- ---- what was read

  abbrev Found : ℕ → ℕ → List (List ℕ) → Result (List V) ScheduleFault → Type 0
  Found n least lines (Ok values) = AllTell least lines values × (n + length lines ≤ most)
  Found n least lines (Err f) =
      (before : List (List ℕ)) × (line : List ℕ) × (behind : List (List ℕ)) × (values : List V)
      × (lines ≡ before ++ line ∷ behind) × AllTell least before values × (n + length before ≤ most)
      × (reader.answer (n + length before + 1) (last_moment reader.moment_of least values) line ≡ Err f)

  -- one line more in front
  passed_more : (n least : ℕ) (line : List ℕ) (lines : List (List ℕ)) → IsPassedOver line → (r : Result (List V) ScheduleFault) →
      Found (n + 1) least lines r → Found n least (line ∷ lines) r
  passed_more n least line lines passed (Ok values) (tell, within) = (inl (passed, tell), omega (arith, within))
  passed_more n least line lines passed (Err f) (before, stop, behind, values, same, tell, within, is) =
      let place : n + 1 + length before + 1 ≡ n + length (line ∷ before) + 1 = omega arith in (
        line ∷ before,
        stop,
        behind,
        values,
        ap (λ (s : List (List ℕ)). line ∷ s) same,
        inl (passed, tell),
        omega (arith, within),
        sym (ap (λ k. reader.answer k (last_moment reader.moment_of least values) stop) place) ∙ is,
      )

  told_more : (n least : ℕ) (line : List ℕ) (lines : List (List ℕ)) (value : V) → Is least value line → (r : Result (List V) ScheduleFault) →
      Found (n + 1) (reader.moment_of value) lines r → Found n least (line ∷ lines) (with_values (value ∷ []) r)
  told_more n least line lines value is (Ok values) (tell, within) = (inr (value, values, refl, is, tell), omega (arith, within))
  told_more n least line lines value is (Err f) (before, stop, behind, values, same, tell, within, stops) =
      let place : n + 1 + length before + 1 ≡ n + length (line ∷ before) + 1 = omega arith in (
        line ∷ before,
        stop,
        behind,
        value ∷ values,
        ap (λ (s : List (List ℕ)). line ∷ s) same,
        inr (value, values, refl, is, tell),
        omega (arith, within),
        sym (ap (λ k. reader.answer k (last_moment reader.moment_of (reader.moment_of value) values) stop) place) ∙ stops,
      )

  stops_here : (n least : ℕ) (line : List ℕ) (lines : List (List ℕ)) (f : ScheduleFault) → n ≤ most →
      reader.answer (n + 1) least line ≡ Err f → Found n least (line ∷ lines) (Err f)
  stops_here n least line lines f within is =
      let place : n + 0 + 1 ≡ n + 1 = omega arith in
      ([], line, lines, [], refl, refl, omega (arith, within), ap (λ k. reader.answer k least line) place ∙ is)

  found_step : (n least : ℕ) (line : List ℕ) (lines : List (List ℕ)) → n ≤ most → (a : Result (Option V) ScheduleFault) →
      reader.answer (n + 1) least line ≡ a → Says Is Outside most (n + 1) least line a →
      ((moment : ℕ) → n + 1 ≤ most → Found (n + 1) moment lines (read_lines reader (n + 1) moment lines)) →
      Found n least (line ∷ lines) (and_rest reader.moment_of least a (λ moment. read_lines reader (n + 1) moment lines))
  found_step n least line lines within (Ok None) e (more, passed) ih =
      passed_more n least line lines passed (read_lines reader (n + 1) least lines) (ih least more)
  found_step n least line lines within (Ok (Some value)) e (more, is) ih =
      told_more n least line lines value is (read_lines reader (n + 1) (reader.moment_of value) lines) (ih (reader.moment_of value) more)
  found_step n least line lines within (Err f) e says ih = stops_here n least line lines f within e

  found_all : (n least : ℕ) (lines : List (List ℕ)) → n ≤ most → Found n least lines (read_lines reader n least lines)
  found_all n least [] within = (refl, omega (arith, within))
  found_all n least (line ∷ lines) within =
      found_step n least line lines within (reader.answer (n + 1) least line) refl (exact.says (n + 1) least line) (λ moment more.
      found_all (n + 1) moment lines more)

  -- ---- answers

  module _ {R : Type 0} (values_of : R → List V) (text : List ℕ) where
    abbrev pub Answers : Result R ScheduleFault → Type 0
    Answers r = Gives values_of r (read_lines reader 0 0 (lines_of text))

    pub all_found : (r : Result R ScheduleFault) → Answers r → IfOk r (λ x. AllTell 0 (lines_of text) (values_of x) × (length (lines_of text) ≤ most))
    all_found (Ok x) h =
        let f = subst (λ (r : Result (List V) ScheduleFault). Found 0 0 (lines_of text) r) h (found_all 0 0 (lines_of text) (omega arith)) in
        (f.0, omega (arith, f.1))
    all_found (Err e) h = tt

    ok_is : (x y : List V) → ◌≡◌ {A = Result (List V) ScheduleFault} (Ok x) (Ok y) → x ≡ y
    ok_is x y h = cc

    ok_is_no_err : (x : List V) (e : ScheduleFault) → ◌≡◌ {A = Result (List V) ScheduleFault} (Ok x) (Err e) → ⊥
    ok_is_no_err x e h = cc

    err_is : (d e : ScheduleFault) → ◌≡◌ {A = Result (List V) ScheduleFault} (Err d) (Err e) → d ≡ e
    err_is d e h = cc

    pub only : (r : Result R ScheduleFault) → Answers r → (values : List V) → AllTell 0 (lines_of text) values →
        length (lines_of text) ≤ most → ReadsOnly values_of values r
    only (Ok x) h values tell within = ok_is (values_of x) values (sym h ∙ read_again (lines_of text) values tell within)
    only (Err (fault.Line n)) h values tell within =
        absurd (ok_is_no_err values (fault.Line n) (sym (read_again (lines_of text) values tell within) ∙ h))
    only (Err fault.NoMemory) h values tell within = refl

    -- where the reading stops, and why
    stopped : (f : ScheduleFault) (number : ℕ) (Why : ℕ → List ℕ → Type 0) → read_lines reader 0 0 (lines_of text) ≡ Err f →
        ((k least : ℕ) (line : List ℕ) → Says Is Outside most k least line (Err f) → (number ≡ k) × Why least line) →
        StopsAt Is reader.moment_of most text number Why
    stopped f number Why h made =
        let (before, line, behind, values, same, tell, within, is) =
        subst (λ (r : Result (List V) ScheduleFault). Found 0 0 (lines_of text) r) h (found_all 0 0 (lines_of text) (omega arith)) in
        let last = last_moment reader.moment_of 0 values in
        let number_is = 0 + length before + 1 in
        let m = made number_is last line (subst (λ (a : Result (Option V) ScheduleFault). Says Is Outside most number_is last line a) is (exact.says number_is last line)) in
        record {
          before = before;
          line = line;
          behind = behind;
          values = values;
          lines = same;
          tell = tell;
          within = omega (arith, within);
          counted = omega (arith, m.0);
          is = m.1;
        }

    -- a line is named because it is outside the grammar
    pub line_named : (r : Result R ScheduleFault) → Answers r → (n : ℕ) → r ≡ Err (fault.Line n) →
        StopsAt Is reader.moment_of most text n (λ least line. (most < n) ⊎ Outside least line)
    line_named r h n e =
        let a : Answers (Err (fault.Line n)) = subst (λ (r : Result R ScheduleFault). Answers r) e h in
        stopped (fault.Line n) n _ a (λ k least line says. (says.0, says.1))

    refuses : (r : Result R ScheduleFault) (f : ScheduleFault) → Answers r → read_lines reader 0 0 (lines_of text) ≡ Err f →
        RefusesOnly f r
    refuses (Ok x) f h e = ok_is_no_err (values_of x) f (sym h ∙ e)
    refuses (Err (fault.Line n)) f h e = inl (err_is (fault.Line n) f (sym h ∙ e))
    refuses (Err fault.NoMemory) f h e = inr refl

    stops_there : (number : ℕ) (Why : ℕ → List ℕ → Type 0) (f : ScheduleFault) (s : StopsAt Is reader.moment_of most text number Why) →
        reader.answer number (last_moment reader.moment_of 0 s.values) s.line ≡ Err f → read_lines reader 0 0 (lines_of text) ≡ Err f
    stops_there number Why f s is =
        let past = skipped 0 0 s.before s.values (s.line ∷ s.behind) s.tell (omega (arith, s.within)) in
        let last = last_moment reader.moment_of 0 s.values in
        let place : 0 + length s.before + 1 ≡ number = omega (arith, s.counted) in
        let there : reader.answer (0 + length s.before + 1) last s.line ≡ Err f = ap (λ k. reader.answer k last s.line) place ∙ is in
        ap (read_lines reader 0 0) s.lines ∙ past ∙ ap (λ (a : Result (Option V) ScheduleFault). with_values s.values (and_rest reader.moment_of last a (λ moment. read_lines reader (0 + length s.before + 1) moment s.behind))) there

    pub outside_refused : (r : Result R ScheduleFault) → Answers r → (n : ℕ) →
        StopsAt Is reader.moment_of most text n (λ least line. (most < n) ⊎ Outside least line) → RefusesOnly (fault.Line n) r
    outside_refused r h n s =
        refuses r (fault.Line n) h (stops_there n _ (fault.Line n) s (exact.outside n (last_moment reader.moment_of 0 s.values) s.line s.is))
