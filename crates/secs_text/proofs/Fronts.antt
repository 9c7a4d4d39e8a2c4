-- What stands before a fault is the front of something that is read.
use Rattle.std.proofs.Common.{◌≡◌, ℕ, suc, ◌-◌, Bool, true, false, cond, eqb, ◌⊎◌, inl, inr, List, [], ◌∷◌, ◌++◌, length, Option, Some, None, Result, Ok, Err, refl, sym, ap, subst, ◌∙◌, append_assoc, arith}
use Rattle.std.specs.Option.{ok_or}
use Rattle.secs_text.specs.declared.text_fault.TextFault.{TextFault}
use Rattle.secs_text.specs.declared.text_fault.TextFault.TheVariants as fault
use Rattle.secs_text.specs.Reading.{◌>>=◌, Reader, after_byte, byte_in}
use Rattle.secs_text.proofs.Blanks.{not_ok}

-- something of this form begins so
abbrev pub Leads : {T : Type 0} → (T → List ℕ → Type 0) → List ℕ → Type 0
Leads {T} Is front = (more : List ℕ) × (x : T) × Is x (front ++ more)

abbrev pub place : TextFault → ℕ
place (fault.Syntax at) = at
place (fault.Range at) = at
place (fault.TooDeep at) = at
place fault.NoMemory = 0

-- what keeps a text from being read, though it has the form: a sign, a size or a depth that isn't allowed
pub data Limit : Type 0 where
  Sign : Limit
  Size : Limit
  Depth : Limit

-- nothing is passed
abbrev pub none : Limit → List ℕ → Type 0
none limit front = ⊥

-- What stands before a fault may stand there. A minus at its end may be one that isn't allowed, and a `<` may follow where a
-- list is too deep. What else is known of a limit that is passed there says Past.
abbrev pub Stands : (List ℕ → Type 0) → (Limit → List ℕ → Type 0) → TextFault → List ℕ → Type 0
Stands May Past (fault.Syntax at) front = May front ⊎ ((stem : List ℕ) × (front ≡ stem ++ 45 ∷ []) × May stem × Past Sign stem)
Stands May Past (fault.Range at) front = May front × Past Size front
Stands May Past (fault.TooDeep at) front = May (front ++ 60 ∷ []) × Past Depth front
Stands May Past fault.NoMemory front = ⊥

pub record Fronts (May : List ℕ → Type 0) (Past : Limit → List ℕ → Type 0) (total : ℕ) (bytes : List ℕ) (e : TextFault) : Type 0 where
  pub front : List ℕ
  pub tail : List ℕ
  pub placed : bytes ≡ front ++ tail
  pub there : place e ≡ total - length tail
  pub stands : Stands May Past e front

stands_behind : (May Might : List ℕ → Type 0) (Past Passed : Limit → List ℕ → Type 0) (e : TextFault) (pre front : List ℕ)
    → ((f : List ℕ) → May f → Might (pre ++ f)) → ((l : Limit) (f : List ℕ) → Past l f → Passed l (pre ++ f))
    → Stands May Past e front → Stands Might Passed e (pre ++ front)
stands_behind May Might Past Passed (fault.Syntax at) pre front wrap pass (inl s) = inl (wrap front s)
stands_behind May Might Past Passed (fault.Syntax at) pre front wrap pass (inr s) =
    inr (pre ++ s.0, ap (λ (t : List ℕ). pre ++ t) s.1 ∙ sym (append_assoc pre s.0 (45 ∷ [])), wrap s.0 s.2, pass Sign s.0 s.3)
stands_behind May Might Past Passed (fault.Range at) pre front wrap pass s = (wrap front s.0, pass Size front s.1)
stands_behind May Might Past Passed (fault.TooDeep at) pre front wrap pass s =
    (subst Might (sym (append_assoc pre front (60 ∷ []))) (wrap (front ++ 60 ∷ []) s.0), pass Depth front s.1)
stands_behind May Might Past Passed fault.NoMemory pre front wrap pass s = s

-- the fault stands behind these bytes
pub fronts_behind : (May Might : List ℕ → Type 0) (Past Passed : Limit → List ℕ → Type 0) (total : ℕ) (pre bytes rest : List ℕ) (e : TextFault)
    → bytes ≡ pre ++ rest
    → ((f : List ℕ) → May f → Might (pre ++ f)) → ((l : Limit) (f : List ℕ) → Past l f → Passed l (pre ++ f))
    → Fronts May Past total rest e → Fronts Might Passed total bytes e
fronts_behind May Might Past Passed total pre bytes rest e split wrap pass f = record {
  front = pre ++ f.front;
  tail = f.tail;
  placed = split ∙ ap (λ (s : List ℕ). pre ++ s) f.placed ∙ sym (append_assoc pre f.front f.tail);
  there = f.there;
  stands = stands_behind May Might Past Passed e pre f.front wrap pass f.stands;
}

pub fronts_map : (May Might : List ℕ → Type 0) (Past Passed : Limit → List ℕ → Type 0) (total : ℕ) (bytes : List ℕ) (e : TextFault)
    → ((f : List ℕ) → May f → Might f) → ((l : Limit) (f : List ℕ) → Past l f → Passed l f) → Fronts May Past total bytes e
    → Fronts Might Passed total bytes e
fronts_map May Might Past Passed total bytes e wrap pass f = fronts_behind May Might Past Passed total [] bytes bytes e refl wrap pass f

-- the first byte can't stand there
pub fronts_here : (May : List ℕ → Type 0) (Past : Limit → List ℕ → Type 0) (total : ℕ) (bytes : List ℕ) (e : TextFault)
    → e ≡ fault.Syntax (total - length bytes) → May [] → Fronts May Past total bytes e
fronts_here May Past total bytes e is may =
    subst (Fronts May Past total bytes) (sym is) (record { front = []; tail = bytes; placed = refl; there = refl; stands = inl may })

-- ---- where no limit is passed

pub plain_behind : (May Might : List ℕ → Type 0) (total : ℕ) (pre bytes rest : List ℕ) (e : TextFault) → bytes ≡ pre ++ rest
    → ((f : List ℕ) → May f → Might (pre ++ f)) → Fronts May none total rest e → Fronts Might none total bytes e
plain_behind May Might total pre bytes rest e split wrap f = fronts_behind May Might none none total pre bytes rest e split wrap (λ l f past. past) f

pub plain_map : (May Might : List ℕ → Type 0) (total : ℕ) (bytes : List ℕ) (e : TextFault) → ((f : List ℕ) → May f → Might f)
    → Fronts May none total bytes e → Fronts Might none total bytes e
plain_map May Might total bytes e wrap f = plain_behind May Might total [] bytes bytes e refl wrap f

pub plain_here : (May : List ℕ → Type 0) (total : ℕ) (bytes : List ℕ) (e : TextFault) → e ≡ fault.Syntax (total - length bytes) → May []
    → Fronts May none total bytes e
plain_here May total bytes e is may = fronts_here May none total bytes e is may

-- a fault where nothing is passed is also one where something may be
pub plain_past : (May : List ℕ → Type 0) (Past : Limit → List ℕ → Type 0) (total : ℕ) (bytes : List ℕ) (e : TextFault) → Fronts May none total bytes e
    → Fronts May Past total bytes e
plain_past May Past total bytes e f = fronts_map May May none Past total bytes e (λ f may. may) (λ l f past. absurd past) f

-- a reader whose faults stand behind fronts
abbrev pub HasFronts : {T : Type 0} → Reader T → (T → List ℕ → Type 0) → (Limit → List ℕ → Type 0) → Type 0
HasFronts one Is Past = (total : ℕ) (bytes : List ℕ) (e : TextFault) → one total bytes ≡ Err e → Fronts (Leads Is) Past total bytes e

pub plain_reader : {T : Type 0} (one : Reader T) (Is : T → List ℕ → Type 0) (Past : Limit → List ℕ → Type 0) → HasFronts one Is none
    → HasFronts one Is Past
plain_reader one Is Past fronts total bytes e h = plain_past (Leads Is) Past total bytes e (fronts total bytes e h)

-- the fault is a break of the form
abbrev pub IsBreak : TextFault → Type 0
IsBreak e = (at : ℕ) × (e ≡ fault.Syntax at)

pub only_syntax : (May : List ℕ → Type 0) (total : ℕ) (bytes : List ℕ) (e : TextFault) → Fronts May none total bytes e → IsBreak e
only_syntax May total bytes (fault.Syntax at) f = (at, refl)
only_syntax May total bytes (fault.Range at) f = absurd (f.stands.1)
only_syntax May total bytes (fault.TooDeep at) f = absurd (f.stands.1)
only_syntax May total bytes fault.NoMemory f = absurd (f.stands)

pub grouped : (first second third rest : List ℕ) → first ++ (second ++ (third ++ rest)) ≡ (first ++ (second ++ third)) ++ rest
grouped first second third rest = simp append_assoc

-- ---- steps that failed

pub bind_err : {A B : Type 0} (r : Result A TextFault) (f : A → Result B TextFault) (e : TextFault) → (r >>= f) ≡ Err e
    → (r ≡ Err e) ⊎ ((x : A) × (r ≡ Ok x) × (f x ≡ Err e))
bind_err {A} {B} (Err d) f e h = let both : ◌≡◌ {A = Result B TextFault} (Err d) (Err e) = h in let same : d ≡ e = cc (both) in inl (ap (λ (g : TextFault). Err g) same)
bind_err (Ok x) f e h = inr (x, refl, h)

pub fine : {A : Type 0} (x : A) (e : TextFault) → ◌≡◌ {A = Result A TextFault} (Ok x) (Err e) → ⊥
fine x e h = not_ok e x (sym h)

pub failed : {A : Type 0} (d e : TextFault) → ◌≡◌ {A = Result A TextFault} (Err d) (Err e) → e ≡ d
failed d e h = cc

pub chosen_err : {A : Type 0} (b : Bool) (x y : Result A TextFault) (e : TextFault) → cond b x y ≡ Err e
    → ((b ≡ true) × (x ≡ Err e)) ⊎ ((b ≡ false) × (y ≡ Err e))
chosen_err true x y e h = inl (refl, h)
chosen_err false x y e h = inr (refl, h)

pub ok_or_err : {A : Type 0} (o : Option A) (d e : TextFault) → ok_or o d ≡ Err e → (e ≡ d) × (o ≡ None)
ok_or_err None d e h = (failed d e h, refl)
ok_or_err (Some x) d e h = absurd (fine x e h)

pub none_left : (total : ℕ) → fault.Syntax total ≡ fault.Syntax (total - 0)
none_left total = ap (λ (n : ℕ). fault.Syntax n) (omega arith)

pub byte_err : (wanted total : ℕ) (bytes : List ℕ) (e : TextFault) → after_byte wanted total bytes ≡ Err e → e ≡ fault.Syntax (total - length bytes)
byte_err wanted total [] e h = failed (fault.Syntax total) e h ∙ none_left total
byte_err wanted total (b ∷ rest) e h =
    elim (chosen_err (eqb b wanted) (Ok rest) (Err (fault.Syntax (total - suc (length rest)))) e h) [
      | inl g ↦ absurd (fine rest e g.1)
      | inr g ↦ failed (fault.Syntax (total - suc (length rest))) e g.1
    ]

pub table_err : {T : Type 0} (table : ℕ → Option T) (total : ℕ) (bytes : List ℕ) (e : TextFault) → byte_in table total bytes ≡ Err e
    → e ≡ fault.Syntax (total - length bytes)
table_err table total [] e h = failed (fault.Syntax total) e h ∙ none_left total
table_err {T} table total (b ∷ rest) e h =
    elim (bind_err (ok_or (table b) (fault.Syntax (total - suc (length rest)))) (λ (value : T). Ok (value, rest)) e h) [
      | inl g ↦ (ok_or_err (table b) (fault.Syntax (total - suc (length rest))) e g).0
      | inr g ↦ absurd (fine (g.0, rest) e g.2)
    ]
