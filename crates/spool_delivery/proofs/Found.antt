-- What a start finds, and which puts it lacks.
use Rattle.std.specs.Prelude.{◌≡◌, ◌<◌, ◌≤◌, ◌⊎◌, ◌==◌, zero, suc, ℕ, Bool, true, false, not, List, [], ◌∷◌, ◌++◌, cond, filter, map, take, drop, Option, Some, None, option_to_list, if◌then◌else◌, refl}
use Rattle.std.proofs.Common.{ap, ◌∙◌, arith, inl, inr}
use Rattle.std.proofs.lemmas.Bool.Decides.{nat_tests}
use Rattle.message_end.specs.Own.{Has}
use Rattle.trace_log.specs.Names.{Spooled}
use Rattle.spool_law.specs.Shelf.{stored_if}
use Rattle.spool_delivery.specs.Account.{Put, is_found, is_lost, named_by, puts_found}
use Rattle.spool_delivery.specs.Claims.{numbered}
use Rattle.spool_delivery.proofs.Folded.{number_of}
use Rattle.message_end.proofs.Members.{has-back, has-drop, has-either, has-front}
use Rattle.spool_delivery.proofs.Lists.{Rising, filter-none, has-take}

-- its number names it
abbrev pub IsNamed : List Put → Put → Type 0
IsNamed stores put = named_by put.number stores ≡ Some put

pub found-are : (stores puts : List Put) → ((put : Put) → Has puts put → IsNamed stores put)
    → puts_found stores (map numbered puts) ≡ puts
found-are stores [] named = refl
found-are stores (put ∷ puts) named =
    ap (λ (o : Option Put). option_to_list o ++ puts_found stores (map numbered puts)) (named put (inl refl))
    ∙ ap (λ (ps : List Put). put ∷ ps) (found-are stores puts (λ p has. named p (inr has)))

is-there : (puts : List Put) (put : Put) → Has puts put → is_found (map numbered puts) put ≡ true
is-there [] put is = absurd is
is-there (one ∷ puts) put (inl same) =
    let at = ap number_of same in
    let test : (one.number == put.number) ≡ true = grind (arith, nat_tests) in
    ap (λ (b : Bool). if b then true else is_found (map numbered puts) put) test
is-there (one ∷ puts) put (inr has) = go (one.number == put.number) (is-there puts put has)
  where
    go : (test : Bool) → is_found (map numbered puts) put ≡ true
        → (if test then true else is_found (map numbered puts) put) ≡ true
    go true later = refl
    go false later = later

isnt-there : (puts : List Put) (put : Put) → ((one : Put) → Has puts one → one.number ≡ put.number → ⊥)
    → is_found (map numbered puts) put ≡ false
isnt-there [] put apart = refl
isnt-there (one ∷ puts) put apart =
    let differs = apart one (inl refl) in
    let test : (one.number == put.number) ≡ false = grind (arith, nat_tests) in
    ap (λ (b : Bool). if b then true else is_found (map numbered puts) put) test
    ∙ isnt-there puts put (λ other has. apart other (inr has))

abbrev pub NumbersBelow : List Put → List Put → Type 0
NumbersBelow puts later = (put next : Put) → Has puts put → Has later next → put.number < next.number

pub too-few : (n : ℕ) → suc n ≤ 0 → ⊥
too-few n few = omega (arith, few)

-- those that leave and aren't found are those that are missing from the front
pub lost-are : (missing leaving : ℕ) (standing later : List Put) → missing ≤ leaving → Rising number_of standing
    → NumbersBelow standing later
    → filter (is_lost (map numbered (drop missing standing ++ later))) (take leaving standing) ≡ take missing standing
lost-are zero leaving standing later few rising below =
    filter-none (is_lost (map numbered (standing ++ later))) (take leaving standing) (λ put has.
    ap not (is-there (standing ++ later) put (has-front standing later put (has-take leaving standing put has))))
lost-are (suc missing) zero standing later few rising below = absurd (too-few missing few)
lost-are (suc missing) (suc leaving) [] later few rising below = refl
lost-are (suc missing) (suc leaving) (put ∷ standing) later few rising below =
    ap
    (λ (b : Bool). cond b (put ∷ filter (is_lost found) (take leaving standing))
    (filter (is_lost found) (take leaving standing)))
    (ap not (isnt-there (drop missing standing ++ later) put (λ one has at.
    apart one at (has-either (drop missing standing) later one has))))
    ∙ ap (λ (ps : List Put). put ∷ ps)
    (lost-are missing leaving standing later (omega (arith, few)) rising.1 (λ p next h k. below p next (inr h) k))
  where
    found : List (ℕ × Spooled)
    found = map numbered (drop missing standing ++ later)

    apart : (one : Put) → one.number ≡ put.number → Has (drop missing standing) one ⊎ Has later one → ⊥
    apart one at (inl has) = let over = rising.0 one (has-drop missing standing one has) in omega (arith, at, over)
    apart one at (inr has) = let over = below put one (inl refl) has in omega (arith, at, over)

-- the one that was being stored is found where it is stored
pub stored-found : (missing : ℕ) (standing : List Put) (storing : Option Put) (stored : Bool)
    → ((put : Put) → storing ≡ Some put → (one : Put) → Has standing one → one.number < put.number)
    → filter (is_found (map numbered (drop missing standing ++ stored_if stored storing))) (option_to_list storing)
    ≡ stored_if stored storing
stored-found missing standing None true above = refl
stored-found missing standing None false above = refl
stored-found missing standing (Some put) true above =
    ap (λ (b : Bool). cond b (put ∷ []) [])
    (is-there (drop missing standing ++ put ∷ []) put (has-back (drop missing standing) (put ∷ []) put (inl refl)))
stored-found missing standing (Some put) false above =
    ap (λ (b : Bool). cond b (put ∷ []) [])
    (isnt-there (drop missing standing ++ []) put (λ one has at.
    apart one at (has-either (drop missing standing) [] one has)))
  where
    apart : (one : Put) → one.number ≡ put.number → Has (drop missing standing) one ⊎ Has [] one → ⊥
    apart one at (inl has) =
        let under = above put refl one (has-drop missing standing one has) in omega (arith, at, under)
    apart one at (inr is) = is
