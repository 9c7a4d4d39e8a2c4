-- What the readers of many values answer depends on the bytes that they have seen.
use Rattle.std.proofs.Common.{◌≡◌, ◌≢◌, ℕ, zero, suc, ◌≤◌, ◌<◌, Bool, true, false, cond, eqb, inl, inr, List, [], ◌∷◌, ◌++◌, length, Result, Ok, Err, refl, sym, ap, subst, ◌∙◌, append_assoc, length-append, arith}
use Rattle.std.proofs.lemmas.Bool.{cases_Bool, eq-eqb, ne_eqb}
use Rattle.std.proofs.lemmas.List.{append-nil, nil_from_length}
use Rattle.secs_text.specs.declared.text_fault.TextFault.{TextFault}
use Rattle.secs_text.specs.declared.text_fault.TextFault.TheVariants as fault
use Rattle.secs_text.specs.Grammar.{AreBlanks}
use Rattle.secs_text.specs.Reading.{◌>>=◌, Next, Ends, Goes, Reader, after_blanks, after_byte, after_end, after_space, syntax_fault, each_at, each_from, element_next, elements_at, quoted_at, shown_at, shown_next, text_at}
use Rattle.secs_text.proofs.Blanks.{blanks_alone, longer, next_goes}
use Rattle.secs_text.proofs.Each.{AtEnd, Finder, elements_end, shown_end}
use Rattle.secs_text.proofs.Elements.{IsForm}
use Rattle.secs_text.proofs.Locality.{At, Local, Told, at_all, at_behind, at_broken, at_left, at_same, at_stopped, at_taken, behind, local_behind, local_pure, pure}
use Rattle.secs_text.proofs.LocalWords.{Skip, Solid_front, after_split, blanks_split, find, found, local_after_byte, local_element_next, local_shown, local_shown_next, local_then, skip}
use Rattle.secs_text.proofs.Quotes.{next_shown, shown_some, shown_takes}

-- ---- how many values there may be doesn't matter, where there are no fewer than bytes

-- a value and what stands before it take bytes
abbrev pub Shortens : {T : Type 0} → Finder → Reader T → Type 0
Shortens {T} next one =
    (total : ℕ) (bytes after : List ℕ) (x : T × List ℕ) → next total bytes ≡ Ok (Goes after) → one total after ≡ Ok x → length x.1 < length bytes

abbrev Each : Type 0 → Type 0
Each T = List ℕ → Result (List T × List ℕ) TextFault

from_value : {T : Type 0} (value : Result (T × List ℕ) TextFault) (each each' : Each T) → ((x : T × List ℕ) → value ≡ Ok x → each x.1 ≡ each' x.1)
    → ◌≡◌ {A = Result (List T × List ℕ) TextFault} (value >>= λ first. each first.1 >>= λ others. Ok (first.0 ∷ others.0, others.1)) (value >>= λ first. each' first.1 >>= λ others. Ok (first.0 ∷ others.0, others.1))
from_value (Err e) each each' same = refl
from_value {T} (Ok x) each each' same =
    ap (λ (result : Result (List T × List ℕ) TextFault). result >>= λ others. Ok (x.0 ∷ others.0, others.1)) (same x refl)

from_same : {T : Type 0} (n : Result Next TextFault) (one : List ℕ → Result (T × List ℕ) TextFault) (each each' : Each T)
    → ((after : List ℕ) (x : T × List ℕ) → n ≡ Ok (Goes after) → one after ≡ Ok x → each x.1 ≡ each' x.1)
    → (n >>= each_from each one) ≡ (n >>= each_from each' one)
from_same (Err e) one each each' same = refl
from_same (Ok (Ends rest)) one each each' same = refl
from_same (Ok (Goes after)) one each each' same = from_value (one after) each each' (λ x e. same after x refl e)

enough : {T : Type 0} (next : Finder) (one : Reader T) → AtEnd next one → Shortens next one → (most more total : ℕ) (bytes : List ℕ)
    → length bytes ≤ most → length bytes ≤ more → each_at next one most total bytes ≡ each_at next one more total bytes
enough next one ends shortens zero zero total bytes l m = refl
enough next one ends shortens zero (suc more) total bytes l m =
    let none : bytes ≡ [] = nil_from_length bytes (omega arith) in
    subst (λ (b : List ℕ). each_at next one 0 total b ≡ each_at next one (suc more) total b) (sym none) (sym (ends total (each_at next one more total)))
enough next one ends shortens (suc most) zero total bytes l m =
    let none : bytes ≡ [] = nil_from_length bytes (omega arith) in
    subst (λ (b : List ℕ). each_at next one (suc most) total b ≡ each_at next one 0 total b) (sym none) (ends total (each_at next one most total))
enough next one ends shortens (suc most) (suc more) total bytes l m =
    from_same (next total bytes) (one total) (each_at next one most total) (each_at next one more total) (λ after x n o.
    let shorter : length x.1 < length bytes = shortens total bytes after x n o in
    enough next one ends shortens most more total x.1 (omega (arith, shorter, l)) (omega (arith, shorter, m)))

-- ---- values one after another

pub run : {T : Type 0} → Finder → Reader T → Reader (List T)
run next one total bytes = each_at next one (length bytes) total bytes

step : {T : Type 0} → Finder → Reader T → Reader (List T) → Reader (List T)
step next one each = behind (find next) (λ goes. cond goes (behind one (λ x. behind each (λ xs. pure (x ∷ xs)))) (pure []))

step_same : {T : Type 0} (next : Finder) (one : Reader T) (each : Reader (List T)) (total : ℕ) (bytes : List ℕ)
    → (next total bytes >>= each_from (each total) (one total)) ≡ step next one each total bytes
unfolding step behind pure
step_same {T} next one each total bytes = of (next total bytes) where
  of : (n : Result Next TextFault)
      → (n >>= each_from (each total) (one total)) ≡ ((n >>= λ n. Ok (found n)) >>= λ g. cond g.0 (behind one (λ x. behind each (λ xs. pure (x ∷ xs)))) (pure []) total g.1)
  of (Err e) = refl
  of (Ok (Ends rest)) = refl
  of (Ok (Goes rest)) = refl

run_same : {T : Type 0} (next : Finder) (one : Reader T) → AtEnd next one → Shortens next one → (total : ℕ) (bytes : List ℕ)
    → run next one total bytes ≡ step next one (run next one) total bytes
unfolding run
run_same next one ends shortens total bytes =
    enough next one ends shortens (length bytes) (suc (length bytes)) total bytes (omega arith) (omega arith)
    ∙ from_same (next total bytes) (one total) (each_at next one (length bytes) total) (λ rest. each_at next one (length rest) total rest) (λ after x n o.
    let shorter : length x.1 < length bytes = shortens total bytes after x n o in
    enough next one ends shortens (length bytes) (length x.1) total x.1 (omega (arith, shorter)) (omega arith))
    ∙ step_same next one (λ total rest. each_at next one (length rest) total rest) total bytes

goes_found : (n : Result Next TextFault) (rest : List ℕ) → (n >>= λ n. Ok (found n)) ≡ Ok (true, rest) → n ≡ Ok (Goes rest)
goes_found (Err e) rest h = absurd cc
goes_found (Ok (Ends after)) rest h =
    let e : ◌≡◌ {A = Result (Bool × List ℕ) TextFault} (Ok (false, after)) (Ok (true, rest)) = h in
    let p : ◌≡◌ {A = Bool × List ℕ} (false, after) (true, rest) = cc (e) in
    let b : false ≡ true = ap (λ q. q.0) p in
    absurd (cc (b))
goes_found (Ok (Goes after)) rest h =
    let e : ◌≡◌ {A = Result (Bool × List ℕ) TextFault} (Ok (true, after)) (Ok (true, rest)) = h in
    let p : ◌≡◌ {A = Bool × List ℕ} (true, after) (true, rest) = cc (e) in
    let same : after ≡ rest = ap (λ q. q.1) p in
    ap (λ (s : List ℕ). Ok (Goes s)) same

run_step : {T : Type 0} (next : Finder) (one : Reader T) → AtEnd next one → Shortens next one → Local (find next) → Local one
    → (total : ℕ) (bytes : List ℕ) → ((rest : List ℕ) → length rest < length bytes → At (run next one) total rest) → At (run next one) total bytes
unfolding step
run_step {T} next one ends shortens finds ones total bytes less =
    at_same (step next one (run next one)) (run next one) total bytes (run_same next one ends shortens)
    (at_behind (find next) rest_of total bytes (finds total bytes) (λ g e. branch g.0 g.1 e)) where
      others : T → Reader (List T)
      others x = behind (run next one) (λ xs. pure (x ∷ xs))

      rest_of : Bool → Reader (List T)
      rest_of goes = cond goes (behind one others) (pure [])

      branch : (goes : Bool) (rest : List ℕ) → find next total bytes ≡ Ok (goes, rest) → At (rest_of goes) total rest
      branch false rest e = local_pure [] total rest
      branch true rest e =
          at_behind one others total rest (ones total rest) (λ x o.
          let shorter : length x.1 < length bytes = shortens total bytes rest x (goes_found (next total bytes) rest e) o in
          at_behind (run next one) (λ xs. pure (x.0 ∷ xs)) total x.1 (less x.1 shorter) (λ xs e. local_pure (x.0 ∷ xs.0) total xs.1))

run_at : {T : Type 0} (next : Finder) (one : Reader T) → AtEnd next one → Shortens next one → Local (find next) → Local one
    → (most total : ℕ) (bytes : List ℕ) → length bytes < most → At (run next one) total bytes
run_at next one ends shortens finds ones zero total bytes lt = absurd (omega arith)
run_at next one ends shortens finds ones (suc most) total bytes lt =
    run_step next one ends shortens finds ones total bytes
    (λ rest less. run_at next one ends shortens finds ones most total rest (omega (arith, less, lt)))

pub local_run : {T : Type 0} (next : Finder) (one : Reader T) → AtEnd next one → Shortens next one → Local (find next) → Local one
    → Local (run next one)
local_run next one ends shortens finds ones total bytes = run_at next one ends shortens finds ones (suc (length bytes)) total bytes (omega arith)

-- ---- elements

shortens_elements : {T : Type 0} (one : Reader T) (Is : T → List ℕ → Type 0) → IsForm one Is → Shortens element_next one
shortens_elements one Is form total bytes after x n o =
    let g = next_goes total bytes after n in
    let f = form.takes total after x o in
    let more : 0 < length g.0 = some g.0 g.2 in
    omega (arith, more, ap length g.3, length-append g.0 after, ap length f.2, length-append f.0 x.1) where
      some : (blanks : List ℕ) → blanks ≢ [] → 0 < length blanks
      some [] h = absurd (h refl)
      some (b ∷ blanks) h = omega arith

pub local_elements : {T : Type 0} (one : Reader T) (Is : T → List ℕ → Type 0) → IsForm one Is → Local one → Local (elements_at one)
unfolding run
local_elements one Is form ones total bytes =
    at_same (run element_next one) (elements_at one) total bytes (λ total bytes. refl)
    (local_run element_next one (elements_end one) (shortens_elements one Is form) local_element_next ones total bytes)

-- ---- quotes

shortens_shown : Shortens shown_next shown_at
shortens_shown total bytes after x n o =
    let f = shown_takes total after x o in
    elim (next_shown total bytes (Goes after) n) [
      | inl h ↦ absurd (cc (h.1))
      | inr h ↦ let same : bytes ≡ after = cc (h) in omega (arith, ap length same, ap length f.2, length-append f.0 x.1, shown_some x.0 f.0 f.1)
    ]

pub local_quoted : Local quoted_at
unfolding quoted_at run
local_quoted =
    local_then (after_byte 34) (run shown_next shown_at) quoted_at (λ total bytes. refl) (local_after_byte 34)
    (local_run shown_next shown_at shown_end shortens_shown local_shown_next local_shown)

-- ---- blanks, and what stands behind them

space_at : (total : ℕ) (blanks after : List ℕ) → AreBlanks blanks → Solid_front after → At (skip after_space) total (blanks ++ after)
space_at total [] [] h solid =
    let none : skip after_space total [] ≡ Err (fault.Syntax total) = ap (λ (n : ℕ). Err (fault.Syntax n)) (omega arith) in
    subst (Told (skip after_space) total []) (sym none) (inl refl)
space_at total (b ∷ blanks) [] h solid =
    let all : skip after_space total (b ∷ blanks) ≡ Ok (tt, []) =
    rw (blanks_alone (b ∷ blanks) h, ne_eqb 0 (suc (length blanks)) (λ (e : 0 ≡ suc (length blanks)). omega (arith, e))) refl in
    subst (At (skip after_space) total) (sym (append-nil (b ∷ blanks))) (at_all (skip after_space) (b ∷ blanks) total tt all)
space_at total [] (c ∷ rest) h solid =
    at_broken (skip after_space) c total rest
    (λ total rest. rw (after_split [] c rest h solid, eq-eqb (length (c ∷ rest)) (length (c ∷ rest)) refl) refl)
space_at total (b ∷ blanks) (c ∷ rest) h solid =
    at_left (skip after_space) (b ∷ blanks) c total rest tt (λ total rest.
    rw (after_split (b ∷ blanks) c rest h solid, ne_eqb (length (c ∷ rest)) (length ((b ∷ blanks) ++ c ∷ rest)) (longer (b ∷ blanks) (c ∷ rest) (λ (e : b ∷ blanks ≡ []). cc))) refl)

local_space : Local (skip after_space)
local_space total bytes = let s = blanks_split bytes in subst (At (skip after_space) total) (sym s.3) (space_at total s.0 s.1 s.2 s.4)

end_at : (total : ℕ) (blanks after : List ℕ) → AreBlanks blanks → Solid_front after → At (skip after_end) total (blanks ++ after)
end_at total blanks [] h solid =
    let all : blanks ++ [] ≡ blanks = append-nil blanks in
    let none : skip after_end total (blanks ++ []) ≡ Err (fault.Syntax total) = rw (all, blanks_alone blanks h) refl in
    subst (Told (skip after_end) total (blanks ++ [])) (sym none) (inl refl)
end_at total blanks (c ∷ rest) h solid =
    elim (cases_Bool (eqb c 62)) [
      | inl e ↦ subst (At (skip after_end) total) (append_assoc blanks (c ∷ []) rest) (at_taken (skip after_end) (blanks ++ c ∷ []) total rest tt (λ total rest. rw (append_assoc blanks (c ∷ []) rest, after_split blanks c rest h solid, e) refl))
      | inr e ↦ at_stopped (skip after_end) blanks c total rest (λ total rest. rw (after_split blanks c rest h solid, e) refl)
    ]

local_end : Local (skip after_end)
local_end total bytes = let s = blanks_split bytes in subst (At (skip after_end) total) (sym s.3) (end_at total s.0 s.1 s.2 s.4)

ended : List ℕ → Reader (List ℕ)
ended text total bytes = after_end total bytes >>= λ rest. Ok (text, rest)

local_ended : (text : List ℕ) → Local (ended text)
unfolding ended pure
local_ended text = local_then after_end (pure text) (ended text) (λ total bytes. refl) local_end (local_pure text)

pub local_text : Local text_at
unfolding text_at behind ended
local_text =
    local_then after_space (behind quoted_at ended) text_at (λ total bytes. refl) local_space (local_behind quoted_at ended local_quoted local_ended)

-- ---- blanks at both ends of a text

unfoldable pub leading : Skip
leading total bytes = Ok (after_blanks bytes)

leading_at : (total : ℕ) (blanks after : List ℕ) → AreBlanks blanks → Solid_front after → At (skip leading) total (blanks ++ after)
unfolding leading
leading_at total blanks [] h solid =
    let all : skip leading total blanks ≡ Ok (tt, []) = rw (blanks_alone blanks h) refl in
    subst (At (skip leading) total) (sym (append-nil blanks)) (at_all (skip leading) blanks total tt all)
leading_at total blanks (c ∷ rest) h solid = at_left (skip leading) blanks c total rest tt (λ total rest. rw (after_split blanks c rest h solid) refl)

pub local_leading : Local (skip leading)
local_leading total bytes = let s = blanks_split bytes in subst (At (skip leading) total) (sym s.3) (leading_at total s.0 s.1 s.2 s.4)

-- nothing but blanks is left
unfoldable pub trailing : {T : Type 0} → T → Reader T
trailing v total bytes = cond (eqb (length (after_blanks bytes)) 0) (Ok (v, [])) (syntax_fault total (after_blanks bytes))

trailing_at : {T : Type 0} (v : T) (total : ℕ) (blanks after : List ℕ) → AreBlanks blanks → Solid_front after
    → At (trailing v) total (blanks ++ after)
unfolding trailing
trailing_at v total blanks [] h solid =
    let all : trailing v total blanks ≡ Ok (v, []) = rw (blanks_alone blanks h) refl in
    subst (At (trailing v) total) (sym (append-nil blanks)) (at_all (trailing v) blanks total v all)
trailing_at v total blanks (c ∷ rest) h solid =
    at_stopped (trailing v) blanks c total rest (λ total rest. rw (after_split blanks c rest h solid, ne_eqb (suc (length rest)) 0 (λ (e : suc (length rest) ≡ 0). omega (arith, e))) refl)

pub local_trailing : {T : Type 0} (v : T) → Local (trailing v)
local_trailing v total bytes = let s = blanks_split bytes in subst (At (trailing v) total) (sym s.3) (trailing_at v total s.0 s.1 s.2 s.4)
