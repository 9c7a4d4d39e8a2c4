-- Which calls of its line an end makes. Calls and doings have the newest first.
use Rattle.std.specs.Prelude.{◌≡◌, ◌⊎◌, ℕ, List, [], ◌∷◌, ◌++◌}
use Rattle.line_end.specs.Step.{LineCall}
use Rattle.line_end.specs.Step.LineCall.{Cancel, Resume, Send}
use Rattle.message_end.specs.Core.{Command}
use Rattle.message_end.specs.Core.Command.{Offer, Take, Tick}
use Rattle.message_end.specs.Doings.{Doing}
use Rattle.message_end.specs.Doings.Doing.{Calls, Does, Gives, Says}

-- the calls among doings
abbrev pub calls_in : List Doing → List LineCall
calls_in [] = []
calls_in (Does own ∷ before) = calls_in before
calls_in (Gives place number block now ∷ before) = Send block now ∷ calls_in before
calls_in (Calls call ∷ before) = call ∷ calls_in before
calls_in (Says what ∷ before) = calls_in before

-- an idle line goes on with its block, gets the next one, or isn't called
abbrev pub IsOffer : ℕ → List LineCall → Type 0
IsOffer now [] = Unit {0}
IsOffer now (Resume at ∷ []) = at ≡ now
IsOffer now (Send block at ∷ []) = at ≡ now
IsOffer now _ = ⊥

-- the calls of one command: a character may be followed by the cancel of the held block
abbrev pub AreCallsOf : {K : Type 0} → Command K → List LineCall → Type 0
AreCallsOf (Tick now) calls = calls ≡ LineCall.Tick now ∷ []
AreCallsOf (Take byte now) calls =
    (calls ≡ LineCall.Take byte now ∷ []) ⊎ (calls ≡ Cancel ∷ LineCall.Take byte now ∷ [])
AreCallsOf (Offer now) calls = IsOffer now calls
AreCallsOf _ calls = calls ≡ []

-- those of one command after the other
pub record AreInTurn (First Later : List LineCall → Type 0) (calls : List LineCall) : Type 0 where
  pub first : List LineCall
  pub later : List LineCall
  pub are : calls ≡ later ++ first
  pub first_are : First first
  pub later_are : Later later

abbrev pub AreCallsOfAll : {K : Type 0} → List (Command K) → List LineCall → Type 0
AreCallsOfAll [] calls = calls ≡ []
AreCallsOfAll (command ∷ commands) calls = AreInTurn (AreCallsOf command) (AreCallsOfAll commands) calls

-- those of the commands up to one at which the numbers are spent
pub record AreCallsOfFront {K : Type 0} (commands : List (Command K)) (calls : List LineCall) : Type 0 where
  pub front : List (Command K)
  pub rest : List (Command K)
  pub whole : commands ≡ front ++ rest
  pub are : AreCallsOfAll front calls
