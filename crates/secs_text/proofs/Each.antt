-- Reading values one after another, as a loop does.
use Rattle.std.proofs.Common.{◌≡◌, ℕ, zero, suc, ◌≤◌, ◌<◌, List, [], ◌∷◌, ◌++◌, length, Result, Ok, Err, refl, sym, ap, ◌∙◌, append_assoc, arith, true, false, drop}
use Rattle.std.proofs.lemmas.List.{append-nil, nil_from_length}
use Rattle.secs_text.specs.declared.text_fault.TextFault.{TextFault}
use Rattle.secs_text.specs.declared.text_fault.TextFault.TheVariants as fault
use Rattle.secs_text.specs.Reading.{◌>>=◌, Next, Ends, Goes, Reader, begins, syntax_fault, each_at, each_from, element_next, shown_at, shown_next}

abbrev pub Finder : Type 0
Finder = ℕ → List ℕ → Result Next TextFault

-- at the input's end something is missing
abbrev pub AtEnd : {T : Type 0} → Finder → Reader T → Type 0
AtEnd {T} next one =
    (total : ℕ) (each : List ℕ → Result (List T × List ℕ) TextFault) → (next total [] >>= each_from each (one total)) ≡ syntax_fault total []

-- what was read before, and what is still read
abbrev pub with_front : {T : Type 0} → List T → Result (List T × List ℕ) TextFault → Result (List T × List ℕ) TextFault
with_front front read = read >>= λ x. Ok (front ++ x.0, x.1)

-- the values so far and those of the rest are all
pub record SoFar {T : Type 0} (next : Finder) (one : Reader T) (total : ℕ) (front : List T) (rest : List ℕ) (all : Result (List T × List ℕ) TextFault) : Type 0 where
  pub most : ℕ
  pub enough : length rest ≤ most
  pub goes : with_front front (each_at next one most total rest) ≡ all

-- the same, with the next step in sight
pub record InSight {T : Type 0} (next : Finder) (one : Reader T) (total : ℕ) (front : List T) (rest : List ℕ) (all : Result (List T × List ℕ) TextFault) : Type 0 where
  pub less : ℕ
  pub enough : length rest ≤ suc less
  pub goes : with_front front (next total rest >>= each_from (each_at next one less total) (one total)) ≡ all

front_nil : {T : Type 0} (read : Result (List T × List ℕ) TextFault) → with_front [] read ≡ read
front_nil (Ok x) = refl
front_nil (Err e) = refl

pub starts : {T : Type 0} (next : Finder) (one : Reader T) (total : ℕ) (bytes : List ℕ)
    → SoFar next one total [] bytes (each_at next one (length bytes) total bytes)
starts next one total bytes = record { most = length bytes; enough = omega arith; goes = front_nil (each_at next one (length bytes) total bytes) }

unroll : {T : Type 0} (next : Finder) (one : Reader T) (total most : ℕ) (front : List T) (rest : List ℕ) (all : Result (List T × List ℕ) TextFault)
    → AtEnd next one → length rest ≤ most
    → with_front front (each_at next one most total rest) ≡ all → InSight next one total front rest all
unroll next one total zero front rest all ends enough goes =
    let none : rest ≡ [] = nil_from_length rest (omega arith) in
    record { less = 0; enough = omega arith; goes = ap (λ (bs : List ℕ). with_front front (next total bs >>= each_from (each_at next one 0 total) (one total))) none ∙ ap (with_front front) (ends total (each_at next one 0 total)) ∙ ap (λ (bs : List ℕ). with_front front (syntax_fault total bs)) (sym none) ∙ goes }
unroll next one total (suc most) front rest all ends enough goes = record { less = most; enough = enough; goes = goes }

sight : {T : Type 0} (next : Finder) (one : Reader T) (total : ℕ) (front : List T) (rest : List ℕ) (all : Result (List T × List ℕ) TextFault)
    → AtEnd next one → SoFar next one total front rest all → InSight next one total front rest all
sight next one total front rest all ends s = unroll next one total s.most front rest all ends s.enough s.goes

-- neither the end nor a value stands there
pub no_next : {T : Type 0} (next : Finder) (one : Reader T) (total : ℕ) (front : List T) (rest : List ℕ) (all : Result (List T × List ℕ) TextFault) (e : TextFault)
    → AtEnd next one → SoFar next one total front rest all → next total rest ≡ Err e → all ≡ Err e
no_next next one total front rest all e ends s h =
    let i = sight next one total front rest all ends s in
    sym i.goes ∙ rw h refl

-- the end stands there
pub is_end : {T : Type 0} (next : Finder) (one : Reader T) (total : ℕ) (front : List T) (rest after : List ℕ) (all : Result (List T × List ℕ) TextFault)
    → AtEnd next one → SoFar next one total front rest all → next total rest ≡ Ok (Ends after) → all ≡ Ok (front, after)
is_end next one total front rest after all ends s h =
    let i = sight next one total front rest all ends s in
    sym i.goes ∙ rw h (ap (λ (xs : List _). Ok (xs, after)) (append-nil front))

-- a value stands there, and has a fault
pub no_value : {T : Type 0} (next : Finder) (one : Reader T) (total : ℕ) (front : List T) (rest after : List ℕ) (all : Result (List T × List ℕ) TextFault) (e : TextFault)
    → AtEnd next one → SoFar next one total front rest all → next total rest ≡ Ok (Goes after) → one total after ≡ Err e → all ≡ Err e
no_value next one total front rest after all e ends s h f =
    let i = sight next one total front rest all ends s in
    sym i.goes ∙ rw (h, f) refl

regroup : {T : Type 0} (front : List T) (x : T) (read : Result (List T × List ℕ) TextFault)
    → with_front front (read >>= λ xs. Ok (x ∷ xs.0, xs.1)) ≡ with_front (front ++ x ∷ []) read
regroup front x (Ok xs) = ap (λ (ys : List _). Ok (ys, xs.1)) (sym (append_assoc front (x ∷ []) xs.0))
regroup front x (Err e) = refl

-- a value stands there
pub one_more : {T : Type 0} (next : Finder) (one : Reader T) (total : ℕ) (front : List T) (rest after left : List ℕ) (x : T) (all : Result (List T × List ℕ) TextFault)
    → AtEnd next one → SoFar next one total front rest all → next total rest ≡ Ok (Goes after) → one total after ≡ Ok (x, left)
    → length left < length rest
    → SoFar next one total (front ++ x ∷ []) left all
one_more next one total front rest after left x all ends s h o shorter =
    let i = sight next one total front rest all ends s in
    let step : with_front front (next total rest >>= each_from (each_at next one i.less total) (one total)) ≡ with_front (front ++ x ∷ []) (each_at next one i.less total left) =
    rw (h, o) (regroup front x (each_at next one i.less total left)) in
    record { most = i.less; enough = omega (arith, i.enough, shorter); goes = sym step ∙ i.goes }

pub elements_end : {T : Type 0} (one : Reader T) → AtEnd element_next one
unfolding element_next
elements_end one total each = refl

pub shown_end : AtEnd shown_next shown_at
unfolding shown_next shown_at
shown_end total each = ap (λ (n : ℕ). Err (fault.Syntax n)) (omega arith)

pub shown_closes : (total : ℕ) (rest : List ℕ) → begins 34 rest ≡ true → shown_next total rest ≡ Ok (Ends (drop 1 rest))
unfolding shown_next
shown_closes total rest h = rw h refl

pub shown_goes : (total : ℕ) (rest : List ℕ) → begins 34 rest ≡ false → shown_next total rest ≡ Ok (Goes rest)
unfolding shown_next
shown_goes total rest h = rw h refl
