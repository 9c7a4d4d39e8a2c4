-- Characters of frames come in the order in which they were written.
use Rattle.std.specs.Prelude.{◌≡◌, ◌<◌, ◌≤◌, zero, suc, ℕ, Bool, true, false, ◌+◌, ◌*◌, ◌==◌, ◌&&◌, List, [], ◌∷◌, ◌++◌, length, map, refl}
use Rattle.std.proofs.Common.{ap, ◌∙◌, subst, arith}
use Rattle.std.proofs.lemmas.Bool.Decides.{nat_tests}
use Rattle.line_order.specs.Acts.{changed}
use Rattle.line_order.specs.Characters.{Character, Origin, are_framed_from, control, framed_from, is_from, noise}
use Rattle.line_order.specs.Characters.Origin.{Framed, Control, Noise}

-- a character of a frame has a key, 300 for each frame before and one for each place before, that is not below what is
-- wanted; then more is wanted
abbrev pub FlowsAt : Origin → ℕ → (ℕ → Type 0) → Type 0
FlowsAt (Framed frame place) low rest = (low ≤ 300 * frame + place) × rest (300 * frame + place + 1)
FlowsAt Control low rest = rest low
FlowsAt Noise low rest = rest low

-- the keys rise from the first number, and end below the second one
abbrev pub Flows : List Character → ℕ → ℕ → Type 0
Flows [] low high = low ≤ high
Flows (character ∷ rest) low high = FlowsAt character.origin low (λ next. Flows rest next high)

pub at-map :
    (origin : Origin) (low lower : ℕ) (R S : ℕ → Type 0) → lower ≤ low → ((a b : ℕ) → b ≤ a → R a → S b)
    → FlowsAt origin low R → FlowsAt origin lower S
at-map (Framed frame place) low lower R S less keeps at =
    (omega (arith, at.0), keeps (300 * frame + place + 1) (300 * frame + place + 1) (omega arith) at.1)
at-map Control low lower R S less keeps at = keeps low lower less at
at-map Noise low lower R S less keeps at = keeps low lower less at

pub at-rest :
    (origin : Origin) (low : ℕ) (R : ℕ → Type 0) → ((a b : ℕ) → b ≤ a → R a → R b) → FlowsAt origin low R → R low
at-rest (Framed frame place) low R keeps at = keeps (300 * frame + place + 1) low (omega (arith, at.0)) at.1
at-rest Control low R keeps at = at
at-rest Noise low R keeps at = at

pub at-split :
    (origin : Origin) (low : ℕ) (R : ℕ → Type 0) (S : ℕ → ℕ → Type 0) (T : ℕ → Type 0)
    → ((a : ℕ) → R a → (mid : ℕ) × S a mid × T mid) → FlowsAt origin low R
    → (mid : ℕ) × FlowsAt origin low (λ n. S n mid) × T mid
at-split (Framed frame place) low R S T splits at =
    let parts = splits (300 * frame + place + 1) at.1 in (parts.0, (at.0, parts.1), parts.2)
at-split Control low R S T splits at = splits low at
at-split Noise low R S T splits at = splits low at

pub flows-wider :
    (xs : List Character) (low high lower higher : ℕ) → lower ≤ low → high ≤ higher → Flows xs low high
    → Flows xs lower higher
flows-wider [] low high lower higher less more flows = omega arith
flows-wider (x ∷ xs) low high lower higher less more flows =
    at-map x.origin low lower (λ n. Flows xs n high) (λ n. Flows xs n higher) less
    (λ a b le. flows-wider xs a high b higher le more) flows

pub flows-rest : (x : Character) (xs : List Character) (low high : ℕ) → Flows (x ∷ xs) low high → Flows xs low high
flows-rest x xs low high flows =
    at-rest x.origin low (λ n. Flows xs n high)
    (λ a b le. flows-wider xs a high b high le (omega arith)) flows

pub flows-least : (xs : List Character) (low high : ℕ) → Flows xs low high → low ≤ high
flows-least [] low high flows = flows
flows-least (x ∷ xs) low high flows = flows-least xs low high (flows-rest x xs low high flows)

pub flows-append :
    (xs ys : List Character) (low mid high : ℕ) → Flows xs low mid → Flows ys mid high → Flows (xs ++ ys) low high
flows-append [] ys low mid high front back = flows-wider ys mid high low high front (omega arith) back
flows-append (x ∷ xs) ys low mid high front back =
    at-map x.origin low low (λ n. Flows xs n mid) (λ n. Flows (xs ++ ys) n high) (omega arith)
    (λ a b le flows. flows-append xs ys b mid high (flows-wider xs a mid b mid le (omega arith) flows) back) front

pub flows-split :
    (xs ys : List Character) (low high : ℕ) → Flows (xs ++ ys) low high
    → (mid : ℕ) × Flows xs low mid × Flows ys mid high
flows-split [] ys low high flows = (low, omega arith, flows)
flows-split (x ∷ xs) ys low high flows =
    at-split x.origin low (λ n. Flows (xs ++ ys) n high) (λ n mid. Flows xs n mid) (λ mid. Flows ys mid high)
    (λ a. flows-split xs ys a high) flows

-- another byte has the same origin
pub flows-changed :
    (place byte : ℕ) (xs : List Character) (low high : ℕ) → Flows xs low high → Flows (changed place byte xs) low high
flows-changed place byte [] low high flows = flows
flows-changed zero byte (x ∷ xs) low high flows = flows
flows-changed (suc place) byte (x ∷ xs) low high flows =
    at-map x.origin low low (λ n. Flows xs n high) (λ n. Flows (changed place byte xs) n high) (omega arith)
    (λ a b le flows. flows-changed place byte xs b high (flows-wider xs a high b high le (omega arith) flows)) flows

pub flows-control : (bytes : List ℕ) (low high : ℕ) → low ≤ high → Flows (map control bytes) low high
flows-control [] low high less = less
flows-control (byte ∷ bytes) low high less = flows-control bytes low high less

pub flows-noise :
    (bytes : List ℕ) (xs : List Character) (low high : ℕ) → Flows xs low high → Flows (map noise bytes ++ xs) low high
flows-noise [] xs low high flows = flows
flows-noise (byte ∷ bytes) xs low high flows = flows-noise bytes xs low high flows

-- the characters of a frame of at most 300
pub flows-frame :
    (number place : ℕ) (bytes : List ℕ) (low high : ℕ) → low ≤ 300 * number + place
    → 300 * number + place + length bytes ≤ high → Flows (framed_from number place bytes) low high
flows-frame number place [] low high less more = omega arith
flows-frame number place (byte ∷ bytes) low high less more =
    (less, flows-frame number (place + 1) bytes (300 * number + place + 1) high (omega arith) (omega arith))

-- where the first character of a frame stands, and what is wanted after it
pub flows-first :
    (number : ℕ) (bytes : List ℕ) (low high : ℕ) → 0 < length bytes → Flows (framed_from number 0 bytes) low high
    → (low ≤ 300 * number) × (300 * number < high)
flows-first number [] low high some flows = absurd (omega arith)
flows-first number (byte ∷ bytes) low high some flows =
    let first = flows.0 in
    let rest = flows-least (framed_from number 1 bytes) (300 * number + 0 + 1) high flows.1 in
    (omega arith, omega arith)

-- all of them are of that frame
abbrev pub AreOf : ℕ → List Character → Type 0
AreOf number [] = Unit {0}
AreOf number (x ∷ xs) = ((place : ℕ) × (place < 300) × (x.origin ≡ Framed number place)) × AreOf number xs

pub are_of-frame :
    (number place : ℕ) (bytes : List ℕ) → place + length bytes ≤ 300 → AreOf number (framed_from number place bytes)
are_of-frame number place [] most = tt
are_of-frame number place (byte ∷ bytes) most =
    ((place, omega arith, refl), are_of-frame number (place + 1) bytes (omega arith))

pub are_of-back : (number : ℕ) (xs ys : List Character) → AreOf number (xs ++ ys) → AreOf number ys
are_of-back number [] ys are = are
are_of-back number (x ∷ xs) ys are = are_of-back number xs ys are.1

-- what is wanted before a character of a frame isn't above that frame
pub flows-one :
    (number : ℕ) (x : Character) (low high : ℕ) → AreOf number (x ∷ []) → Flows (x ∷ []) low high
    → low < 300 * number + 300
flows-one number x low high are flows =
    let at : FlowsAt (Framed number are.0.0) low (λ n. n ≤ high) =
    subst (λ (o : Origin). FlowsAt o low (λ n. n ≤ high)) are.0.2 flows
    in
    omega (arith, at.0, are.0.1)

-- the bytes of a frame's characters are the frame's
pub bytes-framed_from :
    (number place : ℕ) (bytes : List ℕ) → map (λ (c : Character). c.byte) (framed_from number place bytes) ≡ bytes
bytes-framed_from number place [] = refl
bytes-framed_from number place (byte ∷ bytes) =
    ap (λ (rest : List ℕ). byte ∷ rest) (bytes-framed_from number (place + 1) bytes)

-- the test of a place says what it seems to say
pub is_from-same : (number place : ℕ) (origin : Origin) → is_from number place origin ≡ true → origin ≡ Framed number place
is_from-same number place (Framed frame at) is =
    let frame_is : frame ≡ number = grind (arith, nat_tests) in
    let at_is : at ≡ place = grind (arith, nat_tests) in
    ap (λ (f : ℕ). Framed f at) frame_is ∙ ap (λ (p : ℕ). Framed number p) at_is
is_from-same number place Control is = cc
is_from-same number place Noise is = cc

pub character-same : (x y : Character) → x.byte ≡ y.byte → x.origin ≡ y.origin → x ≡ y
character-same x y byte origin =
    let made : ℕ → Origin → Character = λ b o. record { byte = b; origin = o } in
    ap (λ (b : ℕ). made b x.origin) byte ∙ ap (made y.byte) origin

pub both-true : (a b : Bool) → (a && b) ≡ true → (a ≡ true) × (b ≡ true)
both-true true true is = (refl, refl)
both-true true false is = cc
both-true false b is = cc

-- and so does that of a whole frame
pub are_framed_from-same :
    (number place : ℕ) (bytes : List ℕ) (xs : List Character) → are_framed_from number place bytes xs ≡ true
    → xs ≡ framed_from number place bytes
are_framed_from-same number place [] [] are = refl
are_framed_from-same number place [] (x ∷ xs) are = cc
are_framed_from-same number place (byte ∷ bytes) [] are = cc
are_framed_from-same number place (byte ∷ bytes) (x ∷ xs) are =
    let first = both-true (x.byte == byte && is_from number place x.origin) (are_framed_from number (place + 1) bytes xs) are in
    let parts = both-true (x.byte == byte) (is_from number place x.origin) first.0 in
    let same_byte : x.byte ≡ byte = grind (arith, nat_tests, parts.0) in
    let here = character-same x (record { byte = byte; origin = Framed number place }) same_byte
    (is_from-same number place x.origin parts.1)
    in
    ap (λ (c : Character). c ∷ xs) here
    ∙ ap (λ (rest : List Character). record { byte = byte; origin = Framed number place } ∷ rest)
    (are_framed_from-same number (place + 1) bytes xs first.1)

pub eq-self : (n : ℕ) → (n == n) ≡ true
eq-self n = grind (arith, nat_tests)

pub are_framed_from-self :
    (number place : ℕ) (bytes : List ℕ) → are_framed_from number place bytes (framed_from number place bytes) ≡ true
are_framed_from-self number place [] = refl
are_framed_from-self number place (byte ∷ bytes) =
    let rest = are_framed_from-self number (place + 1) bytes in
    rw (eq-self byte, eq-self number, eq-self place, rest) refl
