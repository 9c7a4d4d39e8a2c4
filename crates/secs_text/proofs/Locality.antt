-- What a reader answers depends on the bytes that it has seen: what it took and the first byte behind that.
use Rattle.std.proofs.Common.{◌≡◌, ℕ, suc, ◌-◌, false, ◌⊎◌, inl, inr, List, [], ◌∷◌, ◌++◌, length, Option, Some, None, Result, Ok, Err, refl, sym, ap, subst, ◌∙◌, append_assoc}
use Rattle.std.proofs.lemmas.List.{append-nil}
use Rattle.secs_text.specs.declared.text_fault.TextFault.{TextFault}
use Rattle.secs_text.specs.declared.text_fault.TextFault.TheVariants as fault
use Rattle.secs_text.specs.Faults.{digit_first}
use Rattle.secs_text.specs.Grammar.{IsNumeral}
use Rattle.secs_text.specs.Reading.{◌>>=◌, Reader, byte_in}
use Rattle.secs_text.proofs.Blanks.{not_ok}

-- both begin with the same byte
abbrev pub Alike : List ℕ → List ℕ → Type 0
Alike rest other = (b : ℕ) × (s : List ℕ) × (t : List ℕ) × (rest ≡ b ∷ s) × (other ≡ b ∷ t)

-- how far a reader sees for a fault: to its byte, to the end of a number, to the L of a list
abbrev pub Seen : TextFault → ℕ → List ℕ → List ℕ → Type 0
Seen (fault.Syntax at) total seen tail = at ≡ total - suc (length tail)
Seen (fault.Range at) total seen tail =
    (front : List ℕ) × (number : List ℕ) × (seen ≡ front ++ number) × (at ≡ total - length (number ++ tail)) × IsNumeral number ×
    (digit_first tail ≡ false)
Seen (fault.TooDeep at) total seen tail = (front : List ℕ) × (seen ≡ front ++ 60 ∷ 76 ∷ []) × (at ≡ total - length (60 ∷ 76 ∷ tail))
Seen fault.NoMemory total seen tail = ⊥

-- whatever stands behind what was seen, nothing is read
pub record Stuck {T : Type 0} (r : Reader T) (total : ℕ) (bytes : List ℕ) (e : TextFault) : Type 0 where
  pub seen : List ℕ
  pub tail : List ℕ
  pub placed : bytes ≡ seen ++ tail
  pub some : (b : ℕ) × (s : List ℕ) × (seen ≡ b ∷ s)
  pub sees : Seen e total seen tail
  pub never : (total' : ℕ) (tail' : List ℕ) (x : T × List ℕ) → r total' (seen ++ tail') ≡ Ok x → ⊥

-- the same is read where the same bytes stand, up to the first that is left
pub record Same {T : Type 0} (r : Reader T) (bytes : List ℕ) (x : T × List ℕ) : Type 0 where
  pub front : List ℕ
  pub placed : bytes ≡ front ++ x.1
  pub again : (total' : ℕ) (rest' : List ℕ) → Alike x.1 rest' → r total' (front ++ rest') ≡ Ok (x.0, rest')

abbrev pub Told : {T : Type 0} → Reader T → ℕ → List ℕ → Result (T × List ℕ) TextFault → Type 0
Told r total bytes (Ok x) = Same r bytes x
Told r total bytes (Err e) = (e ≡ fault.Syntax total) ⊎ Stuck r total bytes e

-- at these bytes
abbrev pub At : {T : Type 0} → Reader T → ℕ → List ℕ → Type 0
At r total bytes = Told r total bytes (r total bytes)

abbrev pub Local : {T : Type 0} → Reader T → Type 0
Local r = (total : ℕ) (bytes : List ℕ) → At r total bytes

-- ---- the same reader in other words

told_same : {T : Type 0} (r s : Reader T) (total : ℕ) (bytes : List ℕ) (result : Result (T × List ℕ) TextFault)
    → ((total : ℕ) (bytes : List ℕ) → s total bytes ≡ r total bytes) → Told r total bytes result → Told s total bytes result
told_same r s total bytes (Ok x) same t =
    record { front = t.front; placed = t.placed; again = λ total' rest' alike. same total' (t.front ++ rest') ∙ t.again total' rest' alike }
told_same r s total bytes (Err e) same (inl t) = inl t
told_same r s total bytes (Err e) same (inr t) =
    inr
    (record { seen = t.seen; tail = t.tail; placed = t.placed; some = t.some; sees = t.sees; never = λ total' tail' x read. t.never total' tail' x (sym (same total' (t.seen ++ tail')) ∙ read) })

pub at_same : {T : Type 0} (r s : Reader T) (total : ℕ) (bytes : List ℕ) → ((total : ℕ) (bytes : List ℕ) → s total bytes ≡ r total bytes)
    → At r total bytes → At s total bytes
at_same r s total bytes same t = subst (Told s total bytes) (sym (same total bytes)) (told_same r s total bytes (r total bytes) same t)

-- ---- nothing read

unfoldable pub pure : {T : Type 0} → T → Reader T
pure v total bytes = Ok (v, bytes)

pub local_pure : {T : Type 0} (v : T) → Local (pure v)
unfolding pure
local_pure v total bytes = record { front = []; placed = refl; again = λ total' rest' alike. refl }

-- ---- one reader behind another

unfoldable pub behind : {A B : Type 0} → Reader A → (A → Reader B) → Reader B
behind r f total bytes = r total bytes >>= λ x. f x.0 total x.1

alike_behind : (front rest other : List ℕ) → Alike rest other → Alike (front ++ rest) (front ++ other)
alike_behind [] rest other alike = alike
alike_behind (b ∷ front) rest other alike = (b, front ++ rest, front ++ other, refl, refl)

alike_seen : (seen tail other : List ℕ) → (b : ℕ) × (s : List ℕ) × (seen ≡ b ∷ s) → Alike (seen ++ tail) (seen ++ other)
alike_seen seen tail other some =
    (some.0, some.1 ++ tail, some.1 ++ other, ap (λ (s : List ℕ). s ++ tail) some.2, ap (λ (s : List ℕ). s ++ other) some.2)

pub more_seen : (front seen : List ℕ) → (b : ℕ) × (s : List ℕ) × (seen ≡ b ∷ s) → (b : ℕ) × (s : List ℕ) × (front ++ seen ≡ b ∷ s)
more_seen [] seen some = some
more_seen (b ∷ front) seen some = (b, front ++ seen, refl)

pub seen_behind : (e : TextFault) (total : ℕ) (front seen tail : List ℕ) → Seen e total seen tail → Seen e total (front ++ seen) tail
seen_behind (fault.Syntax at) total front seen tail s = s
seen_behind (fault.Range at) total front seen tail s =
    (front ++ s.0, s.1, ap (λ (t : List ℕ). front ++ t) s.2 ∙ sym (append_assoc front s.0 s.1), s.3, s.4, s.5)
seen_behind (fault.TooDeep at) total front seen tail s =
    (front ++ s.0, ap (λ (t : List ℕ). front ++ t) s.1 ∙ sym (append_assoc front s.0 (60 ∷ 76 ∷ [])), s.2)
seen_behind fault.NoMemory total front seen tail s = s

told_behind : {A B : Type 0} (r : Reader A) (f : A → Reader B) (total : ℕ) (bytes : List ℕ) (x : A × List ℕ) (result : Result (B × List ℕ) TextFault)
    → Same r bytes x → Told (f x.0) total x.1 result → Told (behind r f) total bytes result
unfolding behind
told_behind {A} {B} r f total bytes x (Ok y) s t =
    record {
      front = s.front ++ t.front;
      placed = s.placed ∙ ap (λ (u : List ℕ). s.front ++ u) t.placed ∙ sym (append_assoc s.front t.front y.1);
      again = λ total' rest' alike.
          let first : r total' (s.front ++ (t.front ++ rest')) ≡ Ok (x.0, t.front ++ rest') =
          s.again total' (t.front ++ rest') (subst (λ (u : List ℕ). Alike u (t.front ++ rest')) (sym t.placed) (alike_behind t.front y.1 rest' alike)) in
          ap (λ (u : List ℕ). r total' u >>= λ x. f x.0 total' x.1) (append_assoc s.front t.front rest') ∙ ap (λ (u : Result (A × List ℕ) TextFault). u >>= λ x. f x.0 total' x.1) first ∙ t.again total' rest' alike;
    }
told_behind r f total bytes x (Err e) s (inl t) = inl t
told_behind {A} {B} r f total bytes x (Err e) s (inr t) =
    inr (record {
      seen = s.front ++ t.seen;
      tail = t.tail;
      placed = s.placed ∙ ap (λ (u : List ℕ). s.front ++ u) t.placed ∙ sym (append_assoc s.front t.seen t.tail);
      some = more_seen s.front t.seen t.some;
      sees = seen_behind e total s.front t.seen t.tail t.sees;
      never = λ total' tail' y read.
          let first : r total' (s.front ++ (t.seen ++ tail')) ≡ Ok (x.0, t.seen ++ tail') =
          s.again total' (t.seen ++ tail') (subst (λ (u : List ℕ). Alike u (t.seen ++ tail')) (sym t.placed) (alike_seen t.seen t.tail tail' t.some)) in
          t.never total' tail' y (sym (ap (λ (u : List ℕ). r total' u >>= λ x. f x.0 total' x.1) (append_assoc s.front t.seen tail') ∙ ap (λ (u : Result (A × List ℕ) TextFault). u >>= λ x. f x.0 total' x.1) first) ∙ read);
    })

failed : {X Y : Type 0} (result : Result X TextFault) → ((x : X) → result ≡ Ok x → ⊥) → (g : X → Result Y TextFault) (y : Y) → (result >>= g) ≡ Ok y
    → ⊥
failed (Ok x) never g y e = never x refl
failed (Err e) never g y h = not_ok e y h

stuck_first : {A B : Type 0} (r : Reader A) (f : A → Reader B) (total : ℕ) (bytes : List ℕ) (e : TextFault) → Stuck r total bytes e
    → Stuck (behind r f) total bytes e
unfolding behind
stuck_first r f total bytes e t = record {
  seen = t.seen;
  tail = t.tail;
  placed = t.placed;
  some = t.some;
  sees = t.sees;
  never = λ total' tail' y read. failed (r total' (t.seen ++ tail')) (t.never total' tail') (λ x. f x.0 total' x.1) y read;
}

at_behind_by : {A B : Type 0} (r : Reader A) (f : A → Reader B) (total : ℕ) (bytes : List ℕ) (result : Result (A × List ℕ) TextFault)
    → r total bytes ≡ result → Told r total bytes result → ((x : A × List ℕ) → r total bytes ≡ Ok x → At (f x.0) total x.1)
    → Told (behind r f) total bytes (result >>= λ x. f x.0 total x.1)
at_behind_by r f total bytes (Ok x) e t next = told_behind r f total bytes x (f x.0 total x.1) t (next x e)
at_behind_by r f total bytes (Err d) e (inl t) next = inl t
at_behind_by r f total bytes (Err d) e (inr t) next = inr (stuck_first r f total bytes d t)

pub at_behind : {A B : Type 0} (r : Reader A) (f : A → Reader B) (total : ℕ) (bytes : List ℕ) → At r total bytes
    → ((x : A × List ℕ) → r total bytes ≡ Ok x → At (f x.0) total x.1) → At (behind r f) total bytes
unfolding behind
at_behind r f total bytes t next = at_behind_by r f total bytes (r total bytes) refl t next

pub local_behind : {A B : Type 0} (r : Reader A) (f : A → Reader B) → Local r → ((x : A) → Local (f x)) → Local (behind r f)
local_behind r f t next total bytes = at_behind r f total bytes (t total bytes) (λ x e. next x.0 total x.1)

-- ---- one byte

told_after : {T : Type 0} (r s : Reader T) (c total : ℕ) (rest : List ℕ) (result : Result (T × List ℕ) TextFault)
    → ((total : ℕ) (rest : List ℕ) → r total (c ∷ rest) ≡ s total rest) → Told s total rest result → Told r total (c ∷ rest) result
told_after r s c total rest (Ok x) same t =
    record {
      front = c ∷ t.front;
      placed = ap (λ (u : List ℕ). c ∷ u) t.placed;
      again = λ total' rest' alike. same total' (t.front ++ rest') ∙ t.again total' rest' alike;
    }
told_after r s c total rest (Err e) same (inl t) = inl t
told_after r s c total rest (Err e) same (inr t) =
    inr (record {
      seen = c ∷ t.seen;
      tail = t.tail;
      placed = ap (λ (u : List ℕ). c ∷ u) t.placed;
      some = (c, t.seen, refl);
      sees = seen_behind e total (c ∷ []) t.seen t.tail t.sees;
      never = λ total' tail' x read. t.never total' tail' x (sym (same total' (t.seen ++ tail')) ∙ read);
    })

-- behind this byte the reader is another
pub at_after : {T : Type 0} (r s : Reader T) (c total : ℕ) (rest : List ℕ) → ((total : ℕ) (rest : List ℕ) → r total (c ∷ rest) ≡ s total rest)
    → At s total rest → At r total (c ∷ rest)
at_after r s c total rest same t = subst (Told r total (c ∷ rest)) (sym (same total rest)) (told_after r s c total rest (s total rest) same t)

-- this byte can't stand behind these
pub at_stopped : {T : Type 0} (r : Reader T) (front : List ℕ) (c total : ℕ) (rest : List ℕ)
    → ((total : ℕ) (rest : List ℕ) → r total (front ++ c ∷ rest) ≡ Err (fault.Syntax (total - suc (length rest)))) → At r total (front ++ c ∷ rest)
at_stopped r front c total rest same =
    let closed : (rest : List ℕ) → front ++ c ∷ rest ≡ (front ++ c ∷ []) ++ rest = λ rest. sym (append_assoc front (c ∷ []) rest) in
    subst (Told r total (front ++ c ∷ rest)) (sym (same total rest)) (inr (record {
      seen = front ++ c ∷ [];
      tail = rest;
      placed = closed rest;
      some = more_seen front (c ∷ []) (c, [], refl);
      sees = refl;
      never = λ total' tail' x read. not_ok (fault.Syntax (total' - suc (length tail'))) x (sym (same total' tail') ∙ ap (r total') (closed tail') ∙ read);
    }))

-- this byte can't stand there
pub at_broken : {T : Type 0} (r : Reader T) (c total : ℕ) (rest : List ℕ)
    → ((total : ℕ) (rest : List ℕ) → r total (c ∷ rest) ≡ Err (fault.Syntax (total - suc (length rest)))) → At r total (c ∷ rest)
at_broken r c total rest same = at_stopped r [] c total rest same

table_there : {T : Type 0} (table : ℕ → Option T) (c total : ℕ) (rest : List ℕ) (v : T) → table c ≡ Some v
    → byte_in table total (c ∷ rest) ≡ pure v total rest
unfolding pure
table_there table c total rest v e = rw e refl

by_table : {T : Type 0} (table : ℕ → Option T) (c total : ℕ) (rest : List ℕ) (o : Option T) → table c ≡ o → At (byte_in table) total (c ∷ rest)
by_table table c total rest (Some v) e =
    at_after (byte_in table) (pure v) c total rest (λ total rest. table_there table c total rest v e) (local_pure v total rest)
by_table table c total rest None e = at_broken (byte_in table) c total rest (λ total rest. rw e refl)

pub local_byte : {T : Type 0} (table : ℕ → Option T) → Local (byte_in table)
local_byte table total [] = inl refl
local_byte table total (c ∷ rest) = by_table table c total rest (table c) refl

-- ---- bytes that are looked at and left

pub nothing : (b : ℕ) (s : List ℕ) → [] ≡ b ∷ s → ⊥
nothing b s e = cc

pub alike_head : (c : ℕ) (rest other : List ℕ) → Alike (c ∷ rest) other → (t : List ℕ) × (other ≡ c ∷ t)
alike_head c rest other alike = let same : c ≡ alike.0 = cc (alike.3) in (alike.2, alike.4 ∙ ap (λ (b : ℕ). b ∷ alike.2) (sym same))

-- all that is left begins with this byte
pub at_left : {T : Type 0} (r : Reader T) (front : List ℕ) (c total : ℕ) (rest : List ℕ) (v : T)
    → ((total : ℕ) (rest : List ℕ) → r total (front ++ c ∷ rest) ≡ Ok (v, c ∷ rest)) → At r total (front ++ c ∷ rest)
at_left r front c total rest v same =
    subst (Told r total (front ++ c ∷ rest)) (sym (same total rest)) (record {
      front = front;
      placed = refl;
      again = λ total' rest' alike. let h = alike_head c rest rest' alike in subst (λ (u : List ℕ). r total' (front ++ u) ≡ Ok (v, u)) (sym h.1) (same total' h.0);
    })

-- nothing is left
pub at_all : {T : Type 0} (r : Reader T) (front : List ℕ) (total : ℕ) (v : T) → r total front ≡ Ok (v, []) → At r total front
at_all r front total v e =
    subst (Told r total front) (sym e) (record { front = front; placed = sym (append-nil front); again = λ total' rest' alike. absurd (nothing alike.0 alike.1 alike.3) })

-- all up to the last byte is taken
pub at_taken : {T : Type 0} (r : Reader T) (front : List ℕ) (total : ℕ) (rest : List ℕ) (v : T)
    → ((total : ℕ) (rest : List ℕ) → r total (front ++ rest) ≡ Ok (v, rest)) → At r total (front ++ rest)
at_taken r front total rest v same =
    subst (Told r total (front ++ rest)) (sym (same total rest))
    (record { front = front; placed = refl; again = λ total' rest' alike. same total' rest' })
