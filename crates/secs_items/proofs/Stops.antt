-- Where reading stops at a fault: what stands before it can go on to a whole item, and with the faulty bytes nothing can.
use Rattle.std.proofs.Common.{◌≡◌, ℕ, zero, suc, ◌+◌, ◌%◌, ◌≤◌, true, false, List, [], ◌∷◌, ◌++◌, length, Result, Ok, Err, refl, sym, ap, subst, ◌∙◌, append_assoc, length-append, arith}
use Rattle.std.specs.List.{AllByRecursion}
use Rattle.std.proofs.lemmas.List.{append-nil}
use Rattle.secs_items.specs.declared.item_fault.ItemFault.{ItemFault}
use Rattle.secs_items.specs.declared.item_fault.ItemFault.TheVariants as fault
use Rattle.secs_items.specs.declared.kind.Kind.TheVariants as kind
use Rattle.secs_items.specs.Elements.{IsByte}
use Rattle.secs_items.specs.Reading.{◌>>=◌, after_each, after_item, head_at, item_at}
use Rattle.secs_items.specs.Spelling.{IsHead}
use Rattle.secs_items.proofs.Faults.{Skipper, item_rest, rest_of}
use Rattle.secs_items.proofs.HeadLaws.{head_again}
use Rattle.secs_items.proofs.ItemLaws.{item_again, item_takes}
use Rattle.secs_items.proofs.ItemSteps.{after_head}
use Rattle.secs_items.proofs.Numbers.{bytes_fit, each_byte}
use Rattle.secs_items.proofs.Viewing.{from_rest}

abbrev pub AllBytes : List ℕ → Type 0
AllBytes = AllByRecursion IsByte

pub both_bytes : (front rest : List ℕ) → AllBytes front → AllBytes rest → AllBytes (front ++ rest)
both_bytes [] rest f r = r
both_bytes (b ∷ front) rest f r = (f.0, both_bytes front rest f.1 r)

pub front_bytes : (front rest : List ℕ) → AllBytes (front ++ rest) → AllBytes front
front_bytes [] rest all = tt
front_bytes (b ∷ front) rest all = (all.0, front_bytes front rest all.1)

pub rest_bytes : (front rest : List ℕ) → AllBytes (front ++ rest) → AllBytes rest
rest_bytes [] rest all = all
rest_bytes (b ∷ front) rest all = rest_bytes front rest all.1

-- some bytes behind the front make it whole
abbrev pub Goes : Skipper → List ℕ → Type 0
Goes after front = (more : List ℕ) × AllBytes (front ++ more) × (after (front ++ more) ≡ Ok [])

-- reading stops at a format byte, or at the length bytes behind it
pub record StopsAt (after : Skipper) (total : ℕ) (bytes : List ℕ) (at : ℕ) (count : ℕ → ℕ) : Type 0 where
  pub before : List ℕ
  pub format : ℕ
  pub lengths : List ℕ
  pub rest : List ℕ
  pub parts : bytes ≡ before ++ format ∷ (lengths ++ rest)
  pub place : at + length bytes ≡ total + length before
  pub counted : length lengths ≡ count format
  pub goes : Goes after before
  pub never : (more : List ℕ) → (e : ItemFault) × (after (before ++ format ∷ (lengths ++ more)) ≡ Err e)

abbrev pub Stops : Skipper → ℕ → List ℕ → ItemFault → Type 0
Stops after total bytes (fault.Short at) = (at ≡ total) × Goes after bytes
Stops after total bytes (fault.BadCode at) = StopsAt after total bytes at (λ f. 0)
Stops after total bytes (fault.NoLengthBytes at) = StopsAt after total bytes at (λ f. 0)
Stops after total bytes (fault.TooDeep at) = StopsAt after total bytes at (λ f. 0)
Stops after total bytes (fault.Uneven at) = StopsAt after total bytes at (λ f. f % 4)
Stops after total bytes (fault.Trailing at) = ⊥
Stops after total bytes fault.NoMemory = ⊥

-- ---- what stands behind a front stops there, too

stops_behind : (inner outer : Skipper) (total : ℕ) (front bytes rest : List ℕ) (at : ℕ) (count : ℕ → ℕ) → bytes ≡ front ++ rest
    → ((f : List ℕ) → Goes inner f → Goes outer (front ++ f))
    → ((f : List ℕ) (e : ItemFault) → inner f ≡ Err e → outer (front ++ f) ≡ Err e)
    → StopsAt inner total rest at count → StopsAt outer total bytes at count
stops_behind inner outer total front bytes rest at count parts goes never s = record {
  before = front ++ s.before;
  format = s.format;
  lengths = s.lengths;
  rest = s.rest;
  parts = parts ∙ ap (λ (bs : List ℕ). front ++ bs) s.parts ∙ sym (append_assoc front s.before (s.format ∷ (s.lengths ++ s.rest)));
  place = omega (arith, s.place, ap length parts, length-append front rest, length-append front s.before);
  counted = s.counted;
  goes = goes s.before s.goes;
  never =
      λ more. let n = s.never more in (n.0, ap outer (append_assoc front s.before (s.format ∷ (s.lengths ++ more))) ∙ never (s.before ++ s.format ∷ (s.lengths ++ more)) n.0 n.1);
}

pub behind : (inner outer : Skipper) (total : ℕ) (front bytes rest : List ℕ) (e : ItemFault) → bytes ≡ front ++ rest
    → ((f : List ℕ) → Goes inner f → Goes outer (front ++ f))
    → ((f : List ℕ) (e : ItemFault) → inner f ≡ Err e → outer (front ++ f) ≡ Err e)
    → Stops inner total rest e → Stops outer total bytes e
behind inner outer total front bytes rest (fault.Short at) parts goes never s = (s.0, subst (Goes outer) (sym parts) (goes rest s.1))
behind inner outer total front bytes rest (fault.BadCode at) parts goes never s =
    stops_behind inner outer total front bytes rest at (λ f. 0) parts goes never s
behind inner outer total front bytes rest (fault.NoLengthBytes at) parts goes never s =
    stops_behind inner outer total front bytes rest at (λ f. 0) parts goes never s
behind inner outer total front bytes rest (fault.TooDeep at) parts goes never s =
    stops_behind inner outer total front bytes rest at (λ f. 0) parts goes never s
behind inner outer total front bytes rest (fault.Uneven at) parts goes never s =
    stops_behind inner outer total front bytes rest at (λ f. f % 4) parts goes never s
behind inner outer total front bytes rest (fault.Trailing at) parts goes never s = absurd s
behind inner outer total front bytes rest fault.NoMemory parts goes never s = absurd s

-- ---- what was read is read anywhere

pub record Passes (depth : ℕ) (bytes rest : List ℕ) : Type 0 where
  pub front : List ℕ
  pub parts : bytes ≡ front ++ rest
  pub fit : AllBytes front
  pub rest_fit : AllBytes rest
  pub again : (more : List ℕ) → after_item 0 depth (front ++ more) ≡ Ok more

pub passes : (total depth : ℕ) (bytes rest : List ℕ) → AllBytes bytes → after_item total depth bytes ≡ Ok rest → Passes depth bytes rest
passes total depth bytes rest fit e =
    let r = from_rest (item_at total depth bytes) rest (sym (item_rest total depth bytes) ∙ e) in
    let t = item_takes total depth bytes (r.0, rest) (bytes_fit bytes fit) r.1 in
    record {
      front = t.front;
      parts = t.parts;
      fit = front_bytes t.front rest (subst AllBytes t.parts fit);
      rest_fit = each_byte rest t.rest_fits;
      again = λ more. item_rest 0 depth (t.front ++ more) ∙ ap rest_of (item_again 0 depth r.0 t.front more t.spelled);
    }

-- ---- what makes a front whole

abbrev pub zeros : ℕ → List ℕ
zeros zero = []
zeros (suc n) = 0 ∷ zeros n

pub zeros_long : (n : ℕ) → length (zeros n) ≡ n
zeros_long zero = refl
zeros_long (suc n) = ap suc (zeros_long n)

pub zeros_bytes : (n : ℕ) → AllBytes (zeros n)
zeros_bytes zero = tt
zeros_bytes (suc n) = (omega arith, zeros_bytes n)

-- so many items of no bytes
abbrev pub empties : ℕ → List ℕ
empties zero = []
empties (suc n) = 33 ∷ 0 ∷ empties n

pub empties_bytes : (n : ℕ) → AllBytes (empties n)
empties_bytes zero = tt
empties_bytes (suc n) = (omega arith, (omega arith, empties_bytes n))

empty_head : (depth : ℕ) (more : List ℕ) → head_at 0 depth (33 ∷ 0 ∷ more) ≡ Ok (record { kind = kind.B; size = 0; rest = more })
empty_head depth more =
    let head : IsHead kind.B 0 (33 ∷ 0 ∷ []) = record { lengths = 0 ∷ []; holds = (omega arith, refl); placed = refl } in
    head_again 0 depth kind.B 0 (33 ∷ 0 ∷ []) more head (λ (listed : false ≡ true). absurd cc) refl (λ (leaf : false ≡ false). omega arith)

empty_passes : (depth : ℕ) (more : List ℕ) → after_item 0 depth (33 ∷ 0 ∷ more) ≡ Ok more
empty_passes depth more =
    after_head 0 depth (33 ∷ 0 ∷ more) (record { kind = kind.B; size = 0; rest = more }) (λ (listed : false ≡ true). absurd cc) (empty_head depth more)

pub empties_pass : (depth n : ℕ) → after_each (after_item 0 depth) n (empties n) ≡ Ok []
empties_pass depth zero = refl
empties_pass depth (suc n) = rw (empty_passes depth (empties n)) (empties_pass depth n)

pub nothing_goes : (depth : ℕ) → Goes (after_item 0 depth) []
nothing_goes depth = (33 ∷ 0 ∷ [], (omega arith, (omega arith, tt)), empty_passes depth [])

-- ---- items one after another

first_goes : (depth count : ℕ) (f : List ℕ) → Goes (after_item 0 depth) f → Goes (after_each (after_item 0 depth) (suc count)) f
first_goes depth count f g =
    let p = passes 0 depth (f ++ g.0) [] g.1 g.2 in
    let whole : f ++ g.0 ≡ p.front = p.parts ∙ append-nil p.front in
    let regrouped : f ++ (g.0 ++ empties count) ≡ p.front ++ empties count =
    sym (append_assoc f g.0 (empties count)) ∙ ap (λ (bs : List ℕ). bs ++ empties count) whole in
    (g.0 ++ empties count, subst AllBytes (append_assoc f g.0 (empties count)) (both_bytes (f ++ g.0) (empties count) g.1 (empties_bytes count)), rw (regrouped, p.again (empties count)) (empties_pass depth count))

each_goes : (depth count : ℕ) (front f : List ℕ) → AllBytes front
    → ((more : List ℕ) → after_item 0 depth (front ++ more) ≡ Ok more) → Goes (after_each (after_item 0 depth) count) f
    → Goes (after_each (after_item 0 depth) (suc count)) (front ++ f)
each_goes depth count front f fit again g =
    (g.0, subst AllBytes (sym (append_assoc front f g.0)) (both_bytes front (f ++ g.0) fit g.1), rw (append_assoc front f g.0, again (f ++ g.0)) g.2)

abbrev pub ItemStops : ℕ → Type 0
ItemStops depth =
    (total : ℕ) (bytes : List ℕ) (e : ItemFault) → AllBytes bytes → length bytes ≤ total → after_item total depth bytes ≡ Err e
    → Stops (after_item 0 depth) total bytes e

each_case : (depth : ℕ) → ItemStops depth → (total count : ℕ) (bytes : List ℕ) (e : ItemFault) (r : Result (List ℕ) ItemFault)
    → ((rest : List ℕ) → AllBytes rest → length rest ≤ total → after_each (after_item total depth) count rest ≡ Err e
    → Stops (after_each (after_item 0 depth) count) total rest e)
    → AllBytes bytes → length bytes ≤ total → after_item total depth bytes ≡ r → (r >>= after_each (after_item total depth) count) ≡ Err e
    → Stops (after_each (after_item 0 depth) (suc count)) total bytes e
each_case depth one total count bytes e (Err d) others fit within first h =
    let same : d ≡ e = cc in
    behind (after_item 0 depth) (after_each (after_item 0 depth) (suc count)) total [] bytes bytes e refl (first_goes depth count) (λ f d2 bad. rw bad refl) (one total bytes e fit within (first ∙ ap Err same))
each_case depth one total count bytes e (Ok rest) others fit within first h =
    let p = passes total depth bytes rest fit first in
    let less : length rest ≤ total = omega (arith, ap length p.parts, length-append p.front rest, within) in
    behind (after_each (after_item 0 depth) count) (after_each (after_item 0 depth) (suc count)) total p.front bytes rest e p.parts
    (λ f g. each_goes depth count p.front f p.fit p.again g)
    (λ f d bad. rw (p.again f) bad) (others rest p.rest_fit less h)

pub each_stops : (depth : ℕ) → ItemStops depth → (total count : ℕ) (bytes : List ℕ) (e : ItemFault) → AllBytes bytes → length bytes ≤ total
    → after_each (after_item total depth) count bytes ≡ Err e → Stops (after_each (after_item 0 depth) count) total bytes e
each_stops depth one total zero bytes e fit within h = absurd cc
each_stops depth one total (suc count) bytes e fit within h =
    each_case depth one total count bytes e (after_item total depth bytes) (λ rest fits less bad. each_stops depth one total count rest e fits less bad) fit within refl h
