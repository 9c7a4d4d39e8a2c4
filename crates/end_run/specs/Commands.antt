-- What commands the end of a run, when it comes, and up to when a poll waits for it (this profile).
use Rattle.std.specs.Prelude.{◌≡◌, ◌^◌, ◌-◌, ℕ, Bool, true, false, List, [], ◌∷◌, min, Option, Some, None}
use Rattle.message_end.specs.Calls.{least}

-- ---- what an end is told

-- a command, behind whose lines this is replied; a text to be written, and nothing to do; or to stop. Nothing is to be
-- done of what is for another end
pub data Telling (C : Type 0) : Type 0 where
  Tells : (command : C) (reply : List ℕ) → Telling C
  Says : (text : List ℕ) → Telling C
  Stops : Telling C
  IsOther : Telling C

abbrev pub command_of : {C : Type 0} → Telling C → Option C
command_of (Tells command reply) = Some command
command_of (Says text) = None
command_of Stops = None
command_of IsOther = None

-- where it is a command, one that the end takes
abbrev pub IsTaken : {C : Type 0} → (C → Type 0) → Telling C → Type 0
IsTaken takes (Tells command reply) = takes command
IsTaken takes (Says text) = Unit {0}
IsTaken takes Stops = Unit {0}
IsTaken takes IsOther = Unit {0}

-- it is a command that the end takes, without a reply, or to stop
abbrev pub MayTell : {C : Type 0} → (C → Type 0) → Telling C → Type 0
MayTell takes (Tells command reply) = takes command × (reply ≡ [])
MayTell takes (Says text) = ⊥
MayTell takes Stops = Unit {0}
MayTell takes IsOther = ⊥

-- ---- where that comes from

-- by what is still to come: the moment that it asks the next poll to end by, where it asks for one; what has come by an
-- answer of this moment, and whether the poll has ended early for it; and what is to come behind that
pub record Commands (Q C : Type 0) : Type 0 where
  pub asks : Q → Option ℕ
  pub come : ℕ → Q → List (Telling C)
  pub early : ℕ → Q → Bool
  pub later : ℕ → Q → Q

-- what comes by itself, so much with each answer, asks for no moment, and a poll ends as it comes
abbrev pub first_of : {C : Type 0} → List (List (Telling C)) → List (Telling C)
first_of [] = []
first_of (told ∷ coming) = told

abbrev pub behind_first : {C : Type 0} → List (List (Telling C)) → List (List (Telling C))
behind_first [] = []
behind_first (told ∷ coming) = coming

abbrev pub is_any : {C : Type 0} → List (Telling C) → Bool
is_any [] = false
is_any (telling ∷ tellings) = true

abbrev pub as_it_comes : {C : Type 0} → Commands (List (List (Telling C))) C
as_it_comes = record {
  asks = λ coming. None;
  come = λ now coming. first_of coming;
  early = λ now coming. is_any (first_of coming);
  later = λ now coming. behind_first coming;
}

-- ---- up to when an end waits

-- the moment given, or the last of all where there is none before that
abbrev pub at_most : Option ℕ → ℕ
at_most None = 2 ^ 62 - 1
at_most (Some moment) = min moment (2 ^ 62 - 1)

-- an end that acts by itself at the one moment, and is asked to wait no longer than to the other, waits until then
abbrev pub wait_until : Option ℕ → Option ℕ → ℕ
wait_until deadline asked = at_most (least deadline asked)
