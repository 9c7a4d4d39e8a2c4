-- When messages are dropped by T4: what an end did, and what it is told.
use Rattle.std.specs.Prelude.{◌≡◌, ℕ, List, [], ◌∷◌}
use Rattle.message_end.specs.Core.{Command}
use Rattle.message_end.specs.Core.Command.{DropDue}
use Rattle.message_end.specs.Doings.{Doing}
use Rattle.message_end.specs.Doings.Doing.{Calls, Does, Gives, Says}
use Rattle.message_end.specs.Own.{Own}
use Rattle.message_end.specs.Own.Own.{DroppedMessage}

-- a message that T4 drops is dropped at such a moment
abbrev pub IsDropped : (ℕ → Type 0) → Own → Type 0
IsDropped At (DroppedMessage header now) = At now
IsDropped At _ = Unit {0}

abbrev pub AreDropped : (ℕ → Type 0) → List Doing → Type 0
AreDropped At [] = Unit {0}
AreDropped At (Does own ∷ before) = IsDropped At own × AreDropped At before
AreDropped At (Gives place number block now ∷ before) = AreDropped At before
AreDropped At (Calls call ∷ before) = AreDropped At before
AreDropped At (Says what ∷ before) = AreDropped At before

-- at this one
abbrev pub AreDroppedAt : ℕ → List Doing → Type 0
AreDroppedAt now doings = AreDropped (λ at. at ≡ now) doings

-- an end is told to drop messages at such moments alone
abbrev pub Drops : {K : Type 0} → (ℕ → Type 0) → Command K → Type 0
Drops At (DropDue now) = At now
Drops At _ = Unit {0}

abbrev pub AllDrop : {K : Type 0} → (ℕ → Type 0) → List (Command K) → Type 0
AllDrop At [] = Unit {0}
AllDrop At (command ∷ commands) = Drops At command × AllDrop At commands

-- at this one alone
abbrev pub AllDropAt : {K : Type 0} → ℕ → List (Command K) → Type 0
AllDropAt now commands = AllDrop (λ at. at ≡ now) commands
