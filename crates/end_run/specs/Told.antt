-- What tells an end its commands as they come, beside a link (this profile).
use Rattle.std.specs.Prelude.{◌≡◌, Bool, true, false, List, [], ◌∷◌, Option, Some, None}
use Rattle.end_run.specs.Commands.{Telling, behind_first, first_of}
use Rattle.end_run.specs.Commands.Telling.{Says, Stops, Tells}
use Rattle.end_run.specs.declared.teller.Told.{Told}
use Rattle.end_run.specs.declared.teller.Told.TheVariants as told

abbrev pub telling_of : {C : Type 0} → Told C → Telling C
telling_of (told.Command command reply) = Tells command.now reply.now
telling_of (told.Text text) = Says text.now
telling_of told.Stop = Stops

-- ---- what is still to come, so much with each answer

-- the first of it has come, where it is told
abbrev pub Brings :
    {C : Type 0} → Option (List (List (Telling C))) → List (Telling C) → Option (List (List (Telling C))) → Type 0
Brings None here after = after ≡ None
Brings (Some coming) here after = (here ≡ first_of coming) × (after ≡ Some (behind_first coming))

-- nothing comes
abbrev pub AreNone : {C : Type 0} → List (List (Telling C)) → Type 0
AreNone [] = Unit {0}
AreNone (here ∷ coming) = (here ≡ []) × AreNone coming

-- what comes is what is told, and behind all that nothing
abbrev pub GoesBy : {C : Type 0} → List (List (Telling C)) → List (List (Telling C)) → Type 0
GoesBy [] coming = AreNone coming
GoesBy (first ∷ told) [] = ⊥
GoesBy (first ∷ told) (here ∷ coming) = (here ≡ first) × GoesBy told coming

-- it may come, where it is told or not
abbrev pub MayCome : {C : Type 0} → Option (List (List (Telling C))) → List (List (Telling C)) → Type 0
MayCome None coming = Unit {0}
MayCome (Some told) coming = GoesBy told coming

-- ---- what has come

-- this is the next of it, and what is behind that; or there is none
abbrev pub IsNext : {C : Type 0} → List (Telling C) → Telling C → List (Telling C) → Bool → Type 0
IsNext here at later true = here ≡ at ∷ later
IsNext here at later false = here ≡ []

-- where there is one, the end takes it
abbrev pub IfNext : Bool → Type 0 → Type 0
IfNext true P = P
IfNext false P = Unit {0}
