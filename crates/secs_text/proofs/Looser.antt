-- What a reader of free numbers, in deeper lists, answers where the reader of kept ones answers this.
use Rattle.std.proofs.Common.{◌≡◌, ℕ, zero, suc, ◌-◌, ◌≤◌, false, inl, inr, List, [], ◌∷◌, ◌++◌, length, Result, Ok, Err, refl, sym, ap, subst, ◌∙◌, append_assoc, length-append, arith}
use Rattle.secs_text.specs.declared.text_fault.TextFault.{TextFault}
use Rattle.secs_text.specs.declared.text_fault.TextFault.TheVariants as fault
use Rattle.secs_text.specs.Faults.{digit_first}
use Rattle.secs_text.specs.Grammar.{IsNumeral}
use Rattle.secs_text.specs.Reading.{◌>>=◌, Next, Ends, Goes, Reader, each_at, each_from, element_next}
use Rattle.secs_text.proofs.Blanks.{next_ends, next_goes}
use Rattle.secs_text.proofs.FrontItems.{next_err}
use Rattle.secs_text.proofs.Fronts.{IsBreak, place}
use Rattle.secs_text.proofs.Locality.{Local, Told}

-- ---- how far a reader comes

-- no more is left than this, or the fault isn't before it
abbrev pub Passes : {T : Type 0} → ℕ → List ℕ → Result (T × List ℕ) TextFault → Type 0
Passes total tail (Ok x) = length x.1 ≤ length tail
Passes total tail (Err e) = total - length tail ≤ place e

-- a reader doesn't go back
abbrev pub Moves : {T : Type 0} → Reader T → Type 0
Moves r = (total : ℕ) (bytes : List ℕ) → Passes total bytes (r total bytes)

passes_more : {T : Type 0} (total : ℕ) (tail more : List ℕ) (result : Result (T × List ℕ) TextFault) → length tail ≤ length more
    → Passes total tail result → Passes total more result
passes_more total tail more (Ok x) le p = omega (arith, le, p)
passes_more total tail more (Err e) le p = omega (arith, le, p)

stuck_place : (total : ℕ) (bytes seen tail : List ℕ) (at : ℕ) → bytes ≡ seen ++ tail → (b : ℕ) × (s : List ℕ) × (seen ≡ b ∷ s)
    → at ≡ total - suc (length tail) → total - length bytes ≤ at
stuck_place total bytes seen tail at placed some there = omega (arith, there, ap length placed, length-append seen tail, ap length some.2)

within_place : (total : ℕ) (bytes seen tail front back : List ℕ) (at : ℕ) → bytes ≡ seen ++ tail → seen ≡ front ++ back
    → at ≡ total - length (back ++ tail) → total - length bytes ≤ at
within_place total bytes seen tail front back at placed parts there =
    omega (arith, there, ap length placed, length-append seen tail, ap length parts, length-append front back, length-append back tail)

told_moves : {T : Type 0} (r : Reader T) (total : ℕ) (bytes : List ℕ) (result : Result (T × List ℕ) TextFault) → Told r total bytes result
    → Passes total bytes result
told_moves r total bytes (Ok x) t = omega (arith, ap length t.placed, length-append t.front x.1)
told_moves r total bytes (Err e) (inl t) = let last : place e ≡ total = ap place t in omega (arith, last)
told_moves r total bytes (Err (fault.Syntax at)) (inr t) = stuck_place total bytes t.seen t.tail at t.placed t.some t.sees
told_moves r total bytes (Err (fault.Range at)) (inr t) = within_place total bytes t.seen t.tail t.sees.0 t.sees.1 at t.placed t.sees.2 t.sees.3
told_moves r total bytes (Err (fault.TooDeep at)) (inr t) =
    within_place total bytes t.seen t.tail t.sees.0 (60 ∷ 76 ∷ []) at t.placed t.sees.1 t.sees.2
told_moves r total bytes (Err fault.NoMemory) (inr t) = absurd t.sees

pub moves : {T : Type 0} (r : Reader T) → Local r → Moves r
moves r local total bytes = told_moves r total bytes (r total bytes) (local total bytes)

passes_bind : {A B : Type 0} (total : ℕ) (tail : List ℕ) (m : Result (A × List ℕ) TextFault) (f : A × List ℕ → Result (B × List ℕ) TextFault)
    → Passes total tail m → ((x : A × List ℕ) → m ≡ Ok x → Passes total x.1 (f x)) → Passes total tail (m >>= f)
passes_bind total tail (Ok x) f p next = passes_more total x.1 tail (f x) p (next x refl)
passes_bind total tail (Err e) f p next = p

-- ---- what the free reader answers

abbrev pub FreesFault : {T : Type 0} → ℕ → List ℕ → TextFault → Result (T × List ℕ) TextFault → Type 0
FreesFault total bytes (fault.Syntax at) free = free ≡ Err (fault.Syntax at)
FreesFault total bytes (fault.Range at) free =
    (front : List ℕ) × (number : List ℕ) × (tail : List ℕ) × (bytes ≡ front ++ (number ++ tail)) × (at ≡ total - length (number ++ tail)) × IsNumeral number × (digit_first tail ≡ false) × Passes total tail free
FreesFault total bytes (fault.TooDeep at) free =
    (front : List ℕ) × (tail : List ℕ) × (bytes ≡ front ++ 60 ∷ 76 ∷ tail) × (at ≡ total - length (60 ∷ 76 ∷ tail)) × Passes total tail free
FreesFault total bytes fault.NoMemory free = ⊥

-- the same where it took all or the form breaks; where a limit is passed it goes on
abbrev pub Frees : {T : Type 0} → ℕ → List ℕ → Result (T × List ℕ) TextFault → Result (T × List ℕ) TextFault → Type 0
Frees {T} total bytes (Ok x) free = (y : T) × (free ≡ Ok (y, x.1))
Frees total bytes (Err e) free = FreesFault total bytes e free

abbrev pub Looser : {T : Type 0} → Reader T → Reader T → Type 0
Looser kept free = (total : ℕ) (bytes : List ℕ) → Frees total bytes (kept total bytes) (free total bytes)

frees_fault_behind : {T : Type 0} (total : ℕ) (pre bytes rest : List ℕ) (e : TextFault) (free : Result (T × List ℕ) TextFault) → bytes ≡ pre ++ rest
    → FreesFault total rest e free → FreesFault total bytes e free
frees_fault_behind total pre bytes rest (fault.Syntax at) free split f = f
frees_fault_behind total pre bytes rest (fault.Range at) free split f =
    (pre ++ f.0, f.1, f.2, split ∙ ap (λ (s : List ℕ). pre ++ s) f.3 ∙ sym (append_assoc pre f.0 (f.1 ++ f.2)), f.4, f.5, f.6, f.7)
frees_fault_behind total pre bytes rest (fault.TooDeep at) free split f =
    (pre ++ f.0, f.1, split ∙ ap (λ (s : List ℕ). pre ++ s) f.2 ∙ sym (append_assoc pre f.0 (60 ∷ 76 ∷ f.1)), f.3, f.4)
frees_fault_behind total pre bytes rest fault.NoMemory free split f = f

-- behind bytes that were taken
pub frees_behind : {T : Type 0} (total : ℕ) (pre bytes rest : List ℕ) (kept free : Result (T × List ℕ) TextFault) → bytes ≡ pre ++ rest
    → Frees total rest kept free → Frees total bytes kept free
frees_behind total pre bytes rest (Ok x) free split f = f
frees_behind total pre bytes rest (Err e) free split f = frees_fault_behind total pre bytes rest e free split f

goes_on : {A B : Type 0} (total : ℕ) (bytes : List ℕ) (e : TextFault) (m : Result (A × List ℕ) TextFault) (f : A × List ℕ → Result (B × List ℕ) TextFault)
    → FreesFault total bytes e m → ((x : A × List ℕ) → m ≡ Ok x → Passes total x.1 (f x)) → FreesFault total bytes e (m >>= f)
goes_on total bytes (fault.Syntax at) m f h next = rw h refl
goes_on total bytes (fault.Range at) m f h next = (h.0, h.1, h.2, h.3, h.4, h.5, h.6, passes_bind total h.2 m f h.7 next)
goes_on total bytes (fault.TooDeep at) m f h next = (h.0, h.1, h.2, h.3, passes_bind total h.1 m f h.4 next)
goes_on total bytes fault.NoMemory m f h next = h

-- one reading behind another
pub frees_bind : {A B : Type 0} (total : ℕ) (bytes : List ℕ) (m m' : Result (A × List ℕ) TextFault) (f f' : A × List ℕ → Result (B × List ℕ) TextFault)
    → Frees total bytes m m' → ((x : A × List ℕ) (y : A) → m ≡ Ok x → Frees total bytes (f x) (f' (y, x.1)))
    → ((y : A × List ℕ) → Passes total y.1 (f' y)) → Frees total bytes (m >>= f) (m' >>= f')
frees_bind {A} {B} total bytes (Ok x) m' f f' h next passes =
    subst (λ (r : Result (A × List ℕ) TextFault). Frees total bytes (f x) (r >>= f')) (sym h.1) (next x h.0 refl)
frees_bind total bytes (Err e) m' f f' h next passes = goes_on total bytes e m' f' h (λ y _. passes y)

pub syntax_same : (T : Type 0) (total : ℕ) (bytes : List ℕ) (e : TextFault) → IsBreak e → FreesFault {T = T} total bytes e (Err e)
syntax_same T total bytes e s = subst (λ (d : TextFault). FreesFault {T = T} total bytes d (Err d)) (sym s.1) refl

-- a reader that knows no limits
pub frees_same : {T : Type 0} (total : ℕ) (bytes : List ℕ) (m : Result (T × List ℕ) TextFault) → ((e : TextFault) → m ≡ Err e → IsBreak e)
    → Frees total bytes m m
frees_same total bytes (Ok x) plain = (x.0, refl)
frees_same total bytes (Err e) plain = syntax_same _ total bytes e (plain e refl)

-- one that comes first for both
pub frees_after : {A B : Type 0} (total : ℕ) (bytes : List ℕ) (m : Result (A × List ℕ) TextFault) (f f' : A × List ℕ → Result (B × List ℕ) TextFault)
    → ((e : TextFault) → m ≡ Err e → IsBreak e) → ((x : A × List ℕ) → m ≡ Ok x → Frees total bytes (f x) (f' x))
    → Frees total bytes (m >>= f) (m >>= f')
frees_after total bytes (Ok x) f f' plain next = next x refl
frees_after total bytes (Err e) f f' plain next = syntax_same _ total bytes e (plain e refl)

-- ---- values one after another

others_pass : {T : Type 0} (total : ℕ) (tail : List ℕ) (x : T) (others : Result (List T × List ℕ) TextFault) → Passes total tail others
    → Passes {T = List T} total tail (others >>= λ xs. Ok (x ∷ xs.0, xs.1))
others_pass total tail x (Ok xs) p = p
others_pass total tail x (Err e) p = p

step_moves : {T : Type 0} (one : Reader T) (each : Reader (List T)) (total : ℕ) (bytes : List ℕ) → Moves one
    → ((rest : List ℕ) → Passes total rest (each total rest))
    → (n : Result Next TextFault) → element_next total bytes ≡ n → Passes {T = List T} total bytes (n >>= each_from (each total) (one total))
step_moves one each total bytes ones more (Err e) h = let there : place e ≡ total - length bytes = ap place (next_err total bytes e h) in omega (arith, there)
step_moves one each total bytes ones more (Ok (Ends rest)) h = let n = next_ends total bytes rest h in omega (arith, ap length n.2, length-append n.0 (62 ∷ rest))
step_moves one each total bytes ones more (Ok (Goes after)) h =
    let n = next_goes total bytes after h in
    let less : length after ≤ length bytes = omega (arith, ap length n.3, length-append n.0 after) in
    passes_more total after bytes _ less (passes_bind total after (one total after) (λ first. each total first.1 >>= λ others. Ok (first.0 ∷ others.0, others.1)) (ones total after) (λ first _.
    others_pass total first.1 first.0 (each total first.1) (more first.1)))

moves_each : {T : Type 0} (one : Reader T) → Moves one → (most : ℕ) → Moves (each_at element_next one most)
moves_each one ones zero total bytes = omega arith
moves_each one ones (suc most) total bytes =
    step_moves one (each_at element_next one most) total bytes ones (moves_each one ones most total) (element_next total bytes) refl

others_freed : {T : Type 0} (total : ℕ) (bytes : List ℕ) (x y : T) (kept free : Result (List T × List ℕ) TextFault) → Frees total bytes kept free
    → Frees {T = List T} total bytes (kept >>= λ xs. Ok (x ∷ xs.0, xs.1)) (free >>= λ ys. Ok (y ∷ ys.0, ys.1))
others_freed {T} total bytes x y kept free f =
    frees_bind total bytes kept free (λ xs. Ok (x ∷ xs.0, xs.1)) (λ ys. Ok (y ∷ ys.0, ys.1)) f (λ xs ys _. (y ∷ ys, refl)) (λ ys. omega arith)

-- what a reader takes stands at the front
abbrev pub Taking : {T : Type 0} → Reader T → Type 0
Taking {T} r = (total : ℕ) (bytes : List ℕ) (x : T × List ℕ) → r total bytes ≡ Ok x → (front : List ℕ) × (bytes ≡ front ++ x.1)

step_looser : {T : Type 0} (one free : Reader T) (each each' : Reader (List T)) (total : ℕ) (bytes : List ℕ) → Taking one → Looser one free
    → ((rest : List ℕ) → Frees total rest (each total rest) (each' total rest))
    → ((rest : List ℕ) → Passes total rest (each' total rest)) → (n : Result Next TextFault) → element_next total bytes ≡ n
    → Frees {T = List T} total bytes (n >>= each_from (each total) (one total)) (n >>= each_from (each' total) (free total))
step_looser one free each each' total bytes takes loose more moves (Err e) h =
    syntax_same _ total bytes e (total - length bytes, next_err total bytes e h)
step_looser one free each each' total bytes takes loose more moves (Ok (Ends rest)) h = ([], refl)
step_looser one free each each' total bytes takes loose more moves (Ok (Goes after)) h =
    let n = next_goes total bytes after h in
    frees_behind total n.0 bytes after _ _ n.3
    (frees_bind total after (one total after) (free total after) (λ first. each total first.1 >>= λ others. Ok (first.0 ∷ others.0, others.1)) (λ first. each' total first.1 >>= λ others. Ok (first.0 ∷ others.0, others.1)) (loose total after)
    (λ x y e. let t = takes total after x e in frees_behind total t.0 after x.1 _ _ t.1 (others_freed total x.1 x.0 y (each total x.1) (each' total x.1) (more x.1)))
    (λ y. others_pass total y.1 y.0 (each' total y.1) (moves y.1)))

pub looser_each : {T : Type 0} (one free : Reader T) → Taking one → Looser one free → Moves free → (most : ℕ)
    → Looser (each_at element_next one most) (each_at element_next free most)
looser_each one free takes loose ones zero total bytes = refl
looser_each one free takes loose ones (suc most) total bytes =
    step_looser one free (each_at element_next one most) (each_at element_next free most) total bytes takes loose (looser_each one free takes loose ones most total) (moves_each free ones most total) (element_next total bytes) refl
