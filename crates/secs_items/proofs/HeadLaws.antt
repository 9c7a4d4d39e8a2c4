-- A head that is read is one, and one is read.
use Rattle.std.proofs.Common.{◌≡◌, ℕ, zero, suc, ◌+◌, ◌*◌, ◌/◌, ◌%◌, ◌-◌, ◌<◌, ◌≤◌, Bool, true, false, not, cond, eqb, ltb, ◌&&◌, List, [], ◌∷◌, ◌++◌, length, take, drop, Option, Some, None, Result, Ok, Err, refl, sym, ap, subst, ◌∙◌, length-append, length-take, arith}
use Rattle.std.specs.Prelude.{find}
use Rattle.std.specs.Option.{ok_or}
use Rattle.std.proofs.lemmas.Bool.{eqb-true, eqb-false, ne_eqb, ltb-false, le-ltb}
use Rattle.std.proofs.lemmas.List.{take_at, drop_at, take-append-drop}
use Rattle.std.proofs.lemmas.Option.{same_Some}
use Rattle.secs_items.specs.declared.item_fault.ItemFault.{ItemFault}
use Rattle.secs_items.specs.declared.item_fault.ItemFault.TheVariants as fault
use Rattle.secs_items.specs.declared.kind.Kind.{Kind}
use Rattle.secs_items.specs.declared.kind.Kind.TheVariants as kind
use Rattle.secs_items.specs.Kinds.{code_of, unit_of, kinds, kind_with, is_list}
use Rattle.secs_items.specs.Reading.{◌>>=◌, Head, number_from, format_at, size_at, head_at}
use Rattle.secs_items.specs.Spelling.{HoldsLength, IsHead}
use Rattle.secs_items.proofs.Numbers.{IsBytes, IsBytes-drop, IsBytes-rest, IsBytes-take}

-- ---- steps that did not fail

pub bind_ok : {A B : Type 0} (r : Result A ItemFault) (f : A → Result B ItemFault) (y : B) → (r >>= f) ≡ Ok y → (x : A) × (r ≡ Ok x) × (f x ≡ Ok y)
bind_ok (Ok x) f y e = (x, refl, e)
bind_ok (Err d) f y e = absurd cc

guard_ok : {A : Type 0} (b : Bool) (d : ItemFault) (r : Result A ItemFault) (y : A) → cond b (Err d) r ≡ Ok y → (b ≡ false) × (r ≡ Ok y)
guard_ok true d r y e = absurd cc
guard_ok false d r y e = (refl, e)

ok_or_ok : {A : Type 0} (o : Option A) (d : ItemFault) (y : A) → ok_or o d ≡ Ok y → o ≡ Some y
ok_or_ok None d y e = absurd cc
ok_or_ok (Some x) d y e = cc

-- ---- the table of kinds

found_step : (b : Bool) (p : Kind → Bool) (x k : Kind) (others : Option Kind) → p x ≡ b → (others ≡ Some k → p k ≡ true)
    → cond b (Some x) others ≡ Some k → p k ≡ true
found_step true p x k others h ih e = ap p (sym (same_Some x k e)) ∙ h
found_step false p x k others h ih e = ih e

found : (p : Kind → Bool) (ks : List Kind) (k : Kind) → find p ks ≡ Some k → p k ≡ true
found p [] k e = absurd cc
found p (x ∷ ks) k e = found_step (p x) p x k (find p ks) refl (found p ks k) e

code_found : (code : ℕ) (k : Kind) → kind_with code ≡ Some k → code_of k ≡ code
code_found code k e = eqb-true (code_of k) code (found (λ (x : Kind). eqb (code_of x) code) kinds k e)

kind_again : (k : Kind) → kind_with (code_of k) ≡ Some k
kind_again kind.L = refl
kind_again kind.B = refl
kind_again kind.Bool = refl
kind_again kind.A = refl
kind_again kind.J = refl
kind_again kind.I1 = refl
kind_again kind.I2 = refl
kind_again kind.I4 = refl
kind_again kind.I8 = refl
kind_again kind.U1 = refl
kind_again kind.U2 = refl
kind_again kind.U4 = refl
kind_again kind.U8 = refl
kind_again kind.F4 = refl
kind_again kind.F8 = refl

-- ---- the length

pub holds : (lengths : List ℕ) → (length lengths ≡ 0 → ⊥) → length lengths ≤ 3 → IsBytes lengths → HoldsLength (number_from lengths) lengths
holds [] some few fits = absurd (some refl)
holds (a ∷ []) some few fits = (fits 0, omega arith)
holds (a ∷ b ∷ []) some few fits = (fits 0, fits 1, omega arith)
holds (a ∷ b ∷ c ∷ []) some few fits = (fits 0, fits 1, fits 2, omega arith)
holds (a ∷ b ∷ c ∷ d ∷ lengths) some few fits = absurd (omega (arith, few))

-- how many length bytes there are, and the number that they are
pub record IsLength (n : ℕ) (lengths : List ℕ) : Type 0 where
  pub some : 0 < length lengths
  pub few : length lengths < 4
  pub number : number_from lengths ≡ n

length_again : (n : ℕ) (lengths : List ℕ) → HoldsLength n lengths → IsLength n lengths
length_again n [] h = absurd h
length_again n (a ∷ []) h = record { some = omega arith; few = omega arith; number = omega (arith, h.1) }
length_again n (a ∷ b ∷ []) h = record { some = omega arith; few = omega arith; number = omega (arith, h.2) }
length_again n (a ∷ b ∷ c ∷ []) h = record { some = omega arith; few = omega arith; number = omega (arith, h.3) }
length_again n (a ∷ b ∷ c ∷ d ∷ lengths) h = absurd h

-- ---- the head

and_false : (a b : Bool) → (a && b) ≡ false → a ≡ true → b ≡ false
and_false true b e h = e
and_false false b e h = absurd cc

not_and_false : (a b : Bool) → (not a && b) ≡ false → a ≡ false → b ≡ false
not_and_false true b e h = absurd cc
not_and_false false b e h = e

not_false : (b : Bool) → not b ≡ false → b ≡ true
not_false true e = refl
not_false false e = absurd cc

pub record TakesFormat (depth format : ℕ) (x : Kind × ℕ) : Type 0 where
  pub placed : format ≡ 4 * code_of x.0 + x.1
  pub some : x.1 ≡ 0 → ⊥
  pub few : x.1 < 4
  pub deep : is_list x.0 ≡ true → 0 < depth

pub format_takes : (at depth format : ℕ) (x : Kind × ℕ) → format_at at depth format ≡ Ok x → TakesFormat depth format x
unfolding format_at
format_takes at depth format x e =
    let k =
    bind_ok (ok_or (kind_with (format / 4)) (fault.BadCode at))
    (λ (kind : Kind). cond (eqb (format % 4) 0) (Err (fault.NoLengthBytes at)) (cond (is_list kind && eqb depth 0) (Err (fault.TooDeep at)) (Ok (kind, format % 4)))) x e in
    let code : code_of k.0 ≡ format / 4 = code_found (format / 4) k.0 (ok_or_ok (kind_with (format / 4)) (fault.BadCode at) k.0 k.1) in
    let g1 =
    guard_ok (eqb (format % 4) 0) (fault.NoLengthBytes at) (cond (is_list k.0 && eqb depth 0) (Err (fault.TooDeep at)) (Ok (k.0, format % 4))) x k.2 in
    let g2 = guard_ok (is_list k.0 && eqb depth 0) (fault.TooDeep at) (Ok (k.0, format % 4)) x g1.1 in
    let made : Kind × ℕ = (k.0, format % 4) in
    let same : made ≡ x = cc (g2.1) in
    let none : (format % 4 ≡ 0 → ⊥) = eqb-false (format % 4) 0 g1.0 in
    let is : TakesFormat depth format made = record {
      placed = omega (arith, code);
      some = none;
      few = omega arith;
      deep = λ listed. positive depth (eqb-false depth 0 (and_false (is_list k.0) (eqb depth 0) g2.0 listed));
    } in
    subst (TakesFormat depth format) same is
  where
    positive : (n : ℕ) → (n ≡ 0 → ⊥) → 0 < n
    positive zero h = absurd (h refl)
    positive (suc n) h = omega arith

-- the length bytes and what is after them
record TakesSize (kind : Kind) (count : ℕ) (bytes : List ℕ) (h : Head) : Type 0 where
  lengths : List ℕ
  counted : length lengths ≡ count
  number : HoldsLength h.size lengths
  same : h.kind ≡ kind
  parts : bytes ≡ lengths ++ h.rest
  rest_fits : IsBytes h.rest
  even : h.size % unit_of kind ≡ 0
  whole : is_list kind ≡ false → h.size ≤ length h.rest

size_takes : (total at : ℕ) (kind : Kind) (count : ℕ) (bytes : List ℕ) (h : Head) → (count ≡ 0 → ⊥) → count < 4 → IsBytes bytes
    → size_at total at kind count bytes ≡ Ok h → TakesSize kind count bytes h
unfolding size_at
size_takes total at kind count bytes h some few fits e =
    let lengths = take count bytes in
    let rest = drop count bytes in
    let size = number_from lengths in
    let made : Head = record { kind = kind; size = size; rest = rest } in
    let g1 =
    guard_ok (ltb (length bytes) count) (fault.Short total)
    (cond (not (eqb (size % unit_of kind) 0)) (Err (fault.Uneven at)) (cond (not (is_list kind) && ltb (length rest) size) (Err (fault.Short total)) (Ok made))) h e in
    let g2 =
    guard_ok (not (eqb (size % unit_of kind) 0)) (fault.Uneven at)
    (cond (not (is_list kind) && ltb (length rest) size) (Err (fault.Short total)) (Ok made)) h g1.1 in
    let g3 = guard_ok (not (is_list kind) && ltb (length rest) size) (fault.Short total) (Ok made) h g2.1 in
    let same : made ≡ h = cc (g3.1) in
    let enough : count ≤ length bytes = ltb-false (length bytes) count g1.0 in
    let counted : length lengths ≡ count = omega (arith, length-take count bytes) in
    let is : TakesSize kind count bytes made = record {
      lengths = lengths;
      counted = counted;
      number = holds lengths (λ (none : length lengths ≡ 0). some (omega arith)) (omega arith) (IsBytes-take count bytes fits);
      same = refl;
      parts = sym (take-append-drop count bytes);
      rest_fits = IsBytes-drop count bytes fits;
      even = eqb-true (size % unit_of kind) 0 (not_false (eqb (size % unit_of kind) 0) g2.0);
      whole = λ leaf. ltb-false (length rest) size (not_and_false (is_list kind) (ltb (length rest) size) g3.0 leaf);
    } in
    subst (TakesSize kind count bytes) same is

-- the bytes begin with this head
pub record TakesHead (depth : ℕ) (bytes : List ℕ) (h : Head) : Type 0 where
  pub front : List ℕ
  pub is_head : IsHead h.kind h.size front
  pub parts : bytes ≡ front ++ h.rest
  pub rest_fits : IsBytes h.rest
  pub even : h.size % unit_of h.kind ≡ 0
  pub deep : is_list h.kind ≡ true → 0 < depth
  pub whole : is_list h.kind ≡ false → h.size ≤ length h.rest

joined : (depth format : ℕ) (bytes : List ℕ) (h : Head) (kind : Kind) (count : ℕ) → TakesFormat depth format (kind, count)
    → TakesSize kind count bytes h → TakesHead depth (format ∷ bytes) h
joined depth format bytes h kind count f s =
    let t = subst (λ (k : Kind). TakesFormat depth format (k, count)) (sym s.same) f in
    record {
      front = format ∷ s.lengths;
      is_head = record { lengths = s.lengths; holds = s.number; placed = ap (λ (b : ℕ). b ∷ s.lengths) (t.placed ∙ ap (λ (n : ℕ). 4 * code_of h.kind + n) (sym s.counted)) };
      parts = ap (λ (bs : List ℕ). format ∷ bs) s.parts;
      rest_fits = s.rest_fits;
      even = subst (λ (k : Kind). h.size % unit_of k ≡ 0) (sym s.same) s.even;
      deep = t.deep;
      whole = subst (λ (k : Kind). is_list k ≡ false → h.size ≤ length h.rest) (sym s.same) s.whole;
    }

pub head_takes : (total depth : ℕ) (bytes : List ℕ) (h : Head) → IsBytes bytes → head_at total depth bytes ≡ Ok h → TakesHead depth bytes h
unfolding head_at
head_takes total depth [] h fits e = absurd cc
head_takes total depth (format ∷ bytes) h fits e =
    let at = total - suc (length bytes) in
    let f = bind_ok (format_at at depth format) (λ (f : Kind × ℕ). size_at total at f.0 f.1 bytes) h e in
    let t = format_takes at depth format f.0 f.1 in
    joined depth format bytes h f.0.0 f.0.1 t (size_takes total at f.0.0 f.0.1 bytes h t.some t.few (IsBytes-rest format bytes fits) f.2)

-- ---- and back

pub format_again : (at depth : ℕ) (kind : Kind) (n : ℕ) → 0 < n → n < 4 → (is_list kind ≡ true → 0 < depth)
    → format_at at depth (4 * code_of kind + n) ≡ Ok (kind, n)
unfolding format_at
format_again at depth kind n some few deep =
    let code : (4 * code_of kind + n) / 4 ≡ code_of kind = omega arith in
    let count : (4 * code_of kind + n) % 4 ≡ n = omega arith in
    rw (code, count, kind_again kind, ne_eqb n 0 (λ (e : n ≡ 0). omega arith), shallow (is_list kind) deep) refl
  where
    shallow : (b : Bool) → (b ≡ true → 0 < depth) → (b && eqb depth 0) ≡ false
    shallow true deep = ne_eqb depth 0 (λ (e : depth ≡ 0). omega (arith, deep refl))
    shallow false deep = refl

size_again : (total at : ℕ) (kind : Kind) (n : ℕ) (lengths rest : List ℕ) → number_from lengths ≡ n → n % unit_of kind ≡ 0
    → (is_list kind ≡ false → n ≤ length rest)
    → size_at total at kind (length lengths) (lengths ++ rest) ≡ Ok (record { kind = kind; size = n; rest = rest })
unfolding size_at
size_again total at kind n lengths rest number even whole =
    let enough : ltb (length (lengths ++ rest)) (length lengths) ≡ false = le-ltb _ _ (omega (arith, length-append lengths rest)) in
    rw (enough, take_at lengths rest (length lengths) refl, drop_at lengths rest (length lengths) refl, number, even, fits (is_list kind) whole) refl
  where
    fits : (b : Bool) → (b ≡ false → n ≤ length rest) → (not b && ltb (length rest) n) ≡ false
    fits true whole = refl
    fits false whole = le-ltb (length rest) n (whole refl)

pub head_again : (total depth : ℕ) (kind : Kind) (n : ℕ) (front rest : List ℕ) → IsHead kind n front → (is_list kind ≡ true → 0 < depth)
    → n % unit_of kind ≡ 0 → (is_list kind ≡ false → n ≤ length rest)
    → head_at total depth (front ++ rest) ≡ Ok (record { kind = kind; size = n; rest = rest })
unfolding head_at
head_again total depth kind n front rest is deep even whole =
    let len = length_again n is.lengths is.holds in
    rw (is.placed, format_again (total - suc (length (is.lengths ++ rest))) depth kind (length is.lengths) len.some len.few deep) (size_again total (total - suc (length (is.lengths ++ rest))) kind n is.lengths rest len.number even whole)
